use Rattle.std.proofs.Common.{◌≡◌, replicate, []}
use Rattle.et_refcount.specs.Objects.{slots_of}
use Rattle.et_refcount.proofs.objects.make_slots.Given as goal

abbrev pub invariant-loop-index : goal.invariant-loop-index
invariant-loop-index l = slots_of l.slots.items ≡ replicate l._index []
