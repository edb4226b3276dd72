use Rattle.std.proofs.Common.{subst, Contains}
use Rattle.et_base.specs.declared.value.Value.{Value}
use Rattle.et_heap.specs.Refs.{refs_of_value}
use Rattle.et_refs.proofs.Reading.{read_refers}
use Rattle.et_refs.proofs.slots.read_slot.Goals as goal

pub returns-clause-held : goal.returns-clause-held
returns-clause-held g c =
    let at = c.args.at.now in
    λ p sound o inside.
    let read = subst (λ (v : Value). Contains (refs_of_value v) o) c.or_zero.ensures inside in
    let stood = read_refers c.args.kind c.slot_value-value.result o read in
    sound.slots at.object at.slot c.requires.at.slot o (subst (λ (v : Value). Contains (refs_of_value v) o) c.slot_value-value.ensures.value stood)
