use Rattle.et_heap.proofs.References.{none_written, no_reference}
use Rattle.et_heap.proofs.place.Place.set_slot.Goals as goal

pub invariant_of-self-in_default : goal.invariant_of-self-in_default
invariant_of-self-in_default c = λ none. none_written c.self.inside.slots.items c.args.i c.args.v (c.self.invariant none) (no_reference c.args.v c.in_default.not-Ref)
