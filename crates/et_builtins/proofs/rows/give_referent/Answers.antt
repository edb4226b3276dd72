use Rattle.std.proofs.Common.{◌≡◌, [], ◌∷◌, rules, subst}
use Rattle.et_base.specs.declared.value.Value.{Value}
use Rattle.et_heap.specs.Objects.{object_at, referent_value}
use Rattle.et_event.specs.Answered.{EventAnswers}
use Rattle.et_event.specs.BuiltIns.{answering}
use Rattle.et_event.specs.Calls.{arguments_of}
use Rattle.et_event.specs.Moments.{moment, begins, goes}
use Rattle.et_builtins.proofs.rows.give_referent.Goals as goal

pub returns-clause-ok : goal.returns-clause-ok
returns-clause-ok g c = λ p at out same.
    let m = c.args.machine.now in
    let e = moment p m c.args.call.now.thread in
    let value : c.referent-value.result ≡ referent_value (object_at m.heap c.args.object).referent = search rules in
    subst (λ (v : Value). EventAnswers (goes (answering e at (arguments_of e c.args.call.now.count) (v ∷ []) (begins e))) c.give.result m c.give.new.machine out out) value (c.give.ensures p at out same)
