-- The arguments of a call, among the operands.
use Rattle.std.specs.Prelude.{ℕ, ◌+◌, ◌-◌, ◌&&◌, nat_le, Bool, if◌then◌else◌, List, length, take, reverse, Option, Some, None}
use Rattle.et_base.specs.declared.value.Value.{Value}
use Rattle.et_base.specs.declared.value.Value.TheVariants.{Int, Long, LongHigh, Null, Ref}
use Rattle.et_pool.specs.Descriptors.{MethodType}
use Rattle.et_pool.specs.Operands.{Shape, entries_returned}
use Rattle.et_state.specs.Threads.{FrameState}
use Rattle.et_event.specs.PoolOperands.Operand.{Operand}
use Rattle.et_event.specs.PoolOperands.Operand.TheVariants as operand
use Rattle.et_event.specs.Moments.{Moment}
use Rattle.et_event.specs.Calls.{are_passed, entry_count, call_fits}

-- the topmost entries of a frame, as arguments in their order
abbrev pub arguments_in : FrameState → ℕ → List Value
arguments_in f count = reverse (take count f.operands)

-- how many entries the value of a kind takes that begins with this entry and the next; none where it is of another kind
abbrev pub entries_in : Option Operand → Value → Value → Option ℕ
entries_in (Some operand.Int) (Int n) next = Some 1
entries_in (Some operand.Long) (Long n) LongHigh = Some 2
entries_in (Some operand.Reference) Null next = Some 1
entries_in (Some operand.Reference) (Ref o) next = Some 1
entries_in kind first next = None

-- so many entries may be passed to a call of this shape, and what is returned will fit
abbrev pub is_passing : FrameState → Bool → Shape → ℕ → Bool
is_passing f static shape count =
    are_passed static shape.kinds (arguments_in f count) && nat_le (length f.operands - count + entries_returned shape.returned) f.room

-- how many entries a call takes that may be done; none where the operands or the room are not those that it wants
abbrev pub fitting : Moment → Bool → Option MethodType → Option ℕ
fitting e static None = None
fitting e static (Some type) = if call_fits e static type then Some (entry_count static type) else None
