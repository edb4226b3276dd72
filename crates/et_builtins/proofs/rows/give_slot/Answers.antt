use Rattle.std.proofs.Common.{◌≡◌, [], ◌∷◌, Some, rules, ◌∙◌, ap, subst}
use Rattle.et_base.specs.declared.value.Value.{Value}
use Rattle.et_heap.specs.Objects.{object_at, slot_of}
use Rattle.et_event.specs.PoolOperands.Operand.TheVariants as operand
use Rattle.et_event.specs.Answered.{EventAnswers}
use Rattle.et_event.specs.BuiltIns.{answering}
use Rattle.et_event.specs.Calls.{arguments_of}
use Rattle.et_event.specs.Kinds.{or_zero}
use Rattle.et_event.specs.Moments.{moment, begins, goes}
use Rattle.et_builtins.proofs.Slots.{slot_or_null_held}
use Rattle.et_builtins.proofs.rows.give_slot.Goals as goal

pub give-requires-clause-held : goal.give-requires-clause-held
give-requires-clause-held g c =
    let m = c.args.machine.now in
    let read : c.slot.result ≡ slot_of (object_at m.heap c.args.object) c.args.slot = search rules in
    slot_or_null_held m c.args.object c.args.slot c.or_null-value.result c.slot.result c.requires.calls.sound c.requires.slots read c.or_null-value.ensures

pub returns-clause-ok : goal.returns-clause-ok
returns-clause-ok g c = λ p at out same.
    let m = c.args.machine.now in
    let e = moment p m c.args.call.now.thread in
    let read : c.slot.result ≡ slot_of (object_at m.heap c.args.object) c.args.slot = search rules in
    let value : c.or_null-value.result ≡ or_zero (Some operand.Reference) (slot_of (object_at m.heap c.args.object) c.args.slot) = c.or_null-value.ensures ∙ ap (or_zero (Some operand.Reference)) read in
    subst (λ (v : Value). EventAnswers (goes (answering e at (arguments_of e c.args.call.now.count) (v ∷ []) (begins e))) c.give.result m c.give.new.machine out out) value (c.give.ensures p at out same)
