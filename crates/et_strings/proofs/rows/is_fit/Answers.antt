use Rattle.std.proofs.Common.{Bool, true, sym, ap, ◌∙◌, ◌&&◌}
use Rattle.std.specs.Prelude.{codes, if◌then◌else◌}
use Rattle.et_event.specs.BuiltIns.{is_object_of_class}
use Rattle.et_event.specs.Moments.{begins, moment}
use Rattle.et_event.specs.TextRows.{writes_text}
use Rattle.et_strings.proofs.rows.is_fit.Goals as goal

pub returns-else-not-writes_text-clause-value : goal.returns-else-not-writes_text-clause-value
returns-else-not-writes_text-clause-value g c =
    let e = moment c.args.program.now c.args.machine.now c.args.call.now.called.thread in
    let builder : Bool = is_object_of_class e (begins e) c.args.call.now.object (codes "java/lang/StringBuilder") in
    c.is_of.ensures.value c.args.call.now.called.thread
    ∙ sym (ap (λ (b : Bool). b && (if writes_text c.args.call.now.method then builder else true)) (sym c.takes_text.ensures.value ∙ c.if-not-takes_text.false)
    ∙ ap (λ (b : Bool). if b then builder else true) (sym c.writes_text.ensures ∙ c.if-not-writes_text.false))
