-- What stands on top of operands, by its kind.
use Rattle.std.specs.Prelude.{ℕ, ℤ, List, [], ◌∷◌, Option, Some, None, Contains}
use Rattle.et_base.specs.declared.value.Value.{Value}
use Rattle.et_base.specs.declared.value.Value.TheVariants.{Int, Long, LongHigh, Null, Ref}
use Rattle.et_heap.specs.Refs.{refs_of_value}
use Rattle.et_state.specs.Threads.{FrameState}
use Rattle.et_state.specs.ThreadRoots.{frame_roots}
use Rattle.et_event.specs.Checks.{Reference}

abbrev pub int_of : Value → Option ℤ
int_of (Int n) = Some n
int_of other = None

abbrev pub long_of : Value → Value → Option ℤ
long_of LongHigh (Long n) = Some n
long_of high low = None

abbrev pub entry_reference : Value → Option Reference
entry_reference Null = Some None
entry_reference (Ref o) = Some (Some o)
entry_reference other = None

-- what the value refers to stands in the frame
abbrev pub IsIn : FrameState → Value → Type 0
IsIn f v = (o : ℕ) → Contains (refs_of_value v) o → Contains (frame_roots f) o

abbrev pub AreIn : FrameState → List Value → Type 0
AreIn f [] = Unit {0}
AreIn f (v ∷ vs) = IsIn f v × AreIn f vs
