use Rattle.std.proofs.lemmas.Result.{on_ok_weaker}
use Rattle.et_base.specs.declared.value.Value.TheVariants.{Ref}
use Rattle.et_event.specs.Moments.{Doing, Moment, moment}
use Rattle.et_event.specs.Strings.{interned, string_object}
use Rattle.et_event.specs.Telling.{so_far, TellsUpdate}
use Rattle.et_initialize.proofs.Strings.{still_unset, string_written}
use Rattle.et_initialize.proofs.constants.set_string.Goals as goal

pub returns : goal.returns
returns c =
    let m = c.args.machine.now in
    let i = c.args.field.now.slot in
    let e : Moment = moment c.args.program.now m c.args.thread in
    let d : Doing = interned e c.args.bytes.now (so_far m c.args.out.now) in
    on_ok_weaker c.tell_update.result
    (λ (told : TellsUpdate c.clock.result c.args.thread 0 i c.set_static-old.result (Ref c.in_ok-object.object) c.string_of.new.out c.tell_update.new.out).
    string_written e i c.in_ok-object.object (string_object c.args.bytes.now d) c.clock.result c.set_static-old.result d m c.string_of.new.machine c.set_static-old.new.self c.string_of.new.out c.tell_update.new.out c.in_ok-object.ensures.made
    (still_unset e c.args.bytes.now i (so_far m c.args.out.now) c.requires.writes.unset) c.in_ok-object.ensures.object c.set_static-old.ensures.value c.set_static-old.ensures.new c.clock.ensures told)
    c.tell_update.ensures.ok
