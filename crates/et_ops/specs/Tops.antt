-- What a branch and a store leave of the topmost frame, and what a rearrangement asks of it.
use Rattle.std.specs.Prelude.{ℕ, ◌+◌, ◌-◌, slice_index_or, slice_set, ℤ, Bool, true, false, ◌&&◌, if◌then◌else◌, List, [], Option, Some, None, is_some}
use Rattle.et_base.specs.declared.value.Value.{Value}
use Rattle.et_base.specs.declared.value.Value.TheVariants.{Unset, Int, Long, LongHigh}
use Rattle.et_heap.specs.Refs.{refs_of_value}
use Rattle.et_state.specs.Threads.{FrameState}
use Rattle.et_event.specs.PoolOperands.Operand.{Operand}
use Rattle.et_event.specs.PoolOperands.Operand.TheVariants as operand
use Rattle.et_event.specs.Plain.{is_single}
use Rattle.et_event.specs.Sites.{target}
use Rattle.et_event.specs.Tops.{entry_reference, int_of}

-- the frame after a branch: the pc goes so far from where it is, where the test holds, and else on
abbrev pub jumped : ℤ → ℕ → FrameState → Bool × List Value → FrameState
jumped offset next f test = record f { pc = if test.0 then target f.pc offset else next; operands = test.1 }

-- the local variable of the other half of a long, whose one half is this value of local variable i
abbrev pub half_beside : ℕ → Value → Option ℕ
half_beside i (Long n) = Some (i + 1)
half_beside i LongHigh = Some (i - 1)
half_beside i other = None

-- a local variable becomes unset, and what stood there
abbrev pub unset_at : Option ℕ → List Value → List Value
unset_at None locals = locals
unset_at (Some j) locals = slice_set locals j Unset

abbrev pub refs_at : Option ℕ → List Value → List ℕ
refs_at None locals = []
refs_at (Some j) locals = refs_of_value (slice_index_or locals j Unset)

abbrev pub half_of : ℕ → List Value → Option ℕ
half_of i locals = half_beside i (slice_index_or locals i Unset)

-- an entry is an int or a reference, whichever is asked for; a long has two entries
abbrev pub is_of : Operand → Value → Bool
is_of operand.Int v = is_some (int_of v)
is_of operand.Long v = false
is_of operand.Reference v = is_some (entry_reference v)

-- the ints of two entries, of which the upper one comes first: the lower int, and then the upper one
abbrev pub ints_of : Value → Value → Option (ℤ × ℤ)
ints_of (Int b) (Int a) = Some (a, b)
ints_of v w = None

-- .. and the longs of four entries
abbrev pub longs_of : Value → Value → Value → Value → Option (ℤ × ℤ)
longs_of LongHigh (Long b) LongHigh (Long a) = Some (a, b)
longs_of v w x y = None

-- two entries are a long, or two values
abbrev pub are_pair : Value → Value → Bool
are_pair LongHigh (Long n) = true
are_pair v w = is_single v && is_single w
