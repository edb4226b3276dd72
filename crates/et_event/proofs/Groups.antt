-- What operands and locals refer to stands in their frame.
use Rattle.std.proofs.Common.{ℕ, ◌<◌, length, Contains}
use Rattle.std.proofs.lemmas.List.Elements.{Contains-append_left, Contains-append_right}
use Rattle.et_base.specs.declared.value.Value.TheVariants.{Unset}
use Rattle.et_base.proofs.Lists.{Contains-none}
use Rattle.et_heap.specs.Refs.{refs_of_value, refs_of}
use Rattle.et_state.specs.Threads.{FrameState, operand_of, local_of}
use Rattle.et_state.specs.ThreadRoots.{frame_roots}
use Rattle.et_state.proofs.Places.{part_contained}

pub unset_is_in : (f : FrameState) (o : ℕ) → Contains (refs_of_value Unset) o → Contains (frame_roots f) o
unset_is_in f o c = absurd (Contains-none o c)

pub operand_is_in : (f : FrameState) (k : ℕ) → k < length f.operands → (o : ℕ) → Contains (refs_of_value (operand_of f k)) o → Contains (frame_roots f) o
operand_is_in f k lt o c = Contains-append_right (refs_of f.locals) _ o (Contains-append_left (refs_of f.operands) _ o (part_contained refs_of_value Unset f.operands k o lt c))

pub local_is_in : (f : FrameState) (i : ℕ) → i < length f.locals → (o : ℕ) → Contains (refs_of_value (local_of f i)) o → Contains (frame_roots f) o
local_is_in f i lt o c = Contains-append_left (refs_of f.locals) _ o (part_contained refs_of_value Unset f.locals i o lt c)
