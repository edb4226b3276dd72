-- THE PLAIN INSTRUCTIONS: those that read and change nothing but the topmost frame, the constants of the pool, and
-- division (JVMS 2.11.2 to 2.11.4, 2.11.6, 2.11.7, and the sections of 6.5 with their names).
use Rattle.std.specs.Prelude.{ℕ, ◌+◌, ◌-◌, ◌==◌, ◌&&◌, not, nat_le, nat_lt, ℤ, pos, int_lt, int_le, Bool, true, false, if◌then◌else◌, List, [], ◌∷◌, ◌++◌, length, map, drop, slice_index_or, slice_set, sum, Option, Some, None, option_map}
use Rattle.std.specs.Int.{Width, w32, w64}
use Rattle.et_base.specs.declared.value.Value.{Value}
use Rattle.et_base.specs.declared.value.Value.TheVariants.{Unset, Int, Long, LongHigh, Null, Ref}
use Rattle.et_base.specs.Integers.{add, subtract, multiply, negate, and, or, xor, shift_left, shift_right, unsigned_shift_right, divide, remainder, compare, to_byte, to_char, to_short, to_int}
use Rattle.et_code.specs.Switches.{target_of}
use Rattle.et_state.specs.Threads.{FrameState, local_of}
use Rattle.et_state.specs.State.{Kept}
use Rattle.et_state.specs.Outcome.{Outcome}
use Rattle.et_class.specs.PoolOperands.Operand.{Operand}
use Rattle.et_class.specs.PoolOperands.Operand.TheVariants as operand
use Rattle.et_event.specs.declared.rows.Local.TheVariants.{Named}
use Rattle.et_event.specs.declared.rows.Number.{Number}
use Rattle.et_event.specs.declared.rows.Number.TheVariants as number
use Rattle.et_event.specs.declared.rows.Rearrangement.{Rearrangement}
use Rattle.et_event.specs.declared.rows.Rearrangement.TheVariants as stack
use Rattle.et_event.specs.declared.rows.Arithmetic.{Arithmetic}
use Rattle.et_event.specs.declared.rows.Arithmetic.TheVariants as op
use Rattle.et_event.specs.declared.rows.Shift.{Shift}
use Rattle.et_event.specs.declared.rows.Shift.TheVariants as shift
use Rattle.et_event.specs.declared.rows.Conversion.{Conversion}
use Rattle.et_event.specs.declared.rows.Conversion.TheVariants.{IntToLong, LongToInt, IntToByte, IntToChar, IntToShort}
use Rattle.et_event.specs.declared.rows.Division.{Division}
use Rattle.et_event.specs.declared.rows.Division.TheVariants.{Quotient, Remainder}
use Rattle.et_event.specs.declared.rows.Comparison.{Comparison}
use Rattle.et_event.specs.declared.rows.Comparison.TheVariants.{Equal, NotEqual, Less, GreaterOrEqual, Greater, LessOrEqual}
use Rattle.et_event.specs.declared.rows.Condition.{Condition}
use Rattle.et_event.specs.declared.rows.Condition.TheVariants as when
use Rattle.et_event.specs.declared.rows.FrameRow.{FrameRow}
use Rattle.et_event.specs.declared.rows.FrameRow.TheVariants as row
use Rattle.et_event.specs.declared.errors.GuestError.TheVariants.{ArithmeticException}
use Rattle.et_event.specs.Moments.{Moment, current_frame, begins, with_frame, ill_typed, goes, ends_event, throws}
use Rattle.et_event.specs.Checks.{Reference, with_int, with_long, with_reference, ill_typed_unless}
use Rattle.et_event.specs.Sites.{Site, local_index, target, LoadedConstant, AnInt, ALong, AString}
use Rattle.et_event.specs.Strings.{interned, string_object}

-- THE FRAME AFTER AN INSTRUCTION; None where the instruction has no meaning

-- these are the operands then, and this is the pc; None where they are more than max_stack
abbrev pub put : ℕ → List Value → FrameState → Option FrameState
put pc operands f = if nat_le (length operands) f.room then Some (record f { pc = pc; operands = operands }) else None

-- Loads

abbrev pub loaded_long : Value → Value → Option (List Value)
loaded_long (Long n) LongHigh = Some (LongHigh ∷ Long n ∷ [])
loaded_long low high = None

-- the entries of a local variable, where it holds a value of the kind
abbrev pub loaded : Operand → ℕ → FrameState → Option (List Value)
loaded operand.Int i f = with_int None (local_of f i ∷ []) (λ n none. Some (Int n ∷ []))
loaded operand.Long i f = loaded_long (local_of f i) (local_of f (i + 1))
loaded operand.Reference i f = with_reference None (local_of f i ∷ []) (λ r none. Some (local_of f i ∷ []))

-- Stores

-- a local variable is overwritten: the other half of a long that it is half of becomes Unset (JVMS 2.6.1)
abbrev pub other_half_unset : ℕ → Value → List Value → List Value
other_half_unset i (Long n) locals = slice_set locals (i + 1) Unset
other_half_unset i LongHigh locals = slice_set locals (i - 1) Unset
other_half_unset i other locals = locals

abbrev pub freed : ℕ → List Value → List Value
freed i locals = other_half_unset i (slice_index_or locals i Unset) locals

abbrev pub one_stored : ℕ → Value → List Value → List Value
one_stored i v locals = slice_set (freed i locals) i v

abbrev pub long_stored : ℕ → ℤ → List Value → List Value
long_stored i n locals = slice_set (slice_set (freed (i + 1) (freed i locals)) i (Long n)) (i + 1) LongHigh

-- the locals became these, where the last one that was written is there
abbrev pub with_locals : ℕ → ℕ → List Value → List Value → FrameState → Option FrameState
with_locals pc last locals operands f =
    if nat_lt last (length f.locals) then Some (record f { pc = pc; locals = locals; operands = operands }) else None

abbrev pub stored : ℕ → Operand → ℕ → FrameState → Option FrameState
stored pc operand.Int i f = with_int None f.operands (λ n below. with_locals pc i (one_stored i (Int n) f.locals) below f)
stored pc operand.Long i f = with_long None f.operands (λ n below. with_locals pc (i + 1) (long_stored i n f.locals) below f)
stored pc operand.Reference i f = with_reference None f.operands (λ r below. with_locals pc i (one_stored i (slice_index_or f.operands 0 Unset) f.locals) below f)

-- iinc
abbrev pub increased : ℕ → ℕ → ℤ → FrameState → Option FrameState
increased pc i by f = with_int None (local_of f i ∷ []) (λ n none. with_locals pc i (slice_set f.locals i (Int (add w32 n by))) f.operands f)

-- Rearrangements: the topmost entries are taken in groups, of which none cuts a long in two, and some of them are put back,
-- each named by how far it was below the top

-- the entry is a value by itself
abbrev pub is_single : Value → Bool
is_single Unset = false
is_single (Int n) = true
is_single (Long n) = false
is_single LongHigh = false
is_single Null = true
is_single (Ref o) = true

-- the first two entries are a long, or two values
abbrev pub is_value_pair : List Value → Bool
is_value_pair (LongHigh ∷ Long n ∷ below) = true
is_value_pair (v ∷ w ∷ below) = is_single v && is_single w
is_value_pair other = false

abbrev pub is_one_value : List Value → Bool
is_one_value [] = false
is_one_value (v ∷ below) = is_single v

-- groups of one entry and of two
abbrev pub are_groups : List ℕ → List Value → Bool
are_groups [] ops = true
are_groups (size ∷ sizes) ops = (if size == 1 then is_one_value ops else is_value_pair ops) && are_groups sizes (drop size ops)

abbrev pub groups_of : Rearrangement → List ℕ
groups_of stack.Nop = []
groups_of stack.Pop = 1 ∷ []
groups_of stack.Pop2 = 2 ∷ []
groups_of stack.Dup = 1 ∷ []
groups_of stack.DupX1 = 1 ∷ 1 ∷ []
groups_of stack.DupX2 = 1 ∷ 2 ∷ []
groups_of stack.Dup2 = 2 ∷ []
groups_of stack.Dup2X1 = 2 ∷ 1 ∷ []
groups_of stack.Dup2X2 = 2 ∷ 2 ∷ []
groups_of stack.Swap = 1 ∷ 1 ∷ []

-- what is put back, the topmost first
abbrev pub operand_places : Rearrangement → List ℕ
operand_places stack.Nop = []
operand_places stack.Pop = []
operand_places stack.Pop2 = []
operand_places stack.Dup = 0 ∷ 0 ∷ []
operand_places stack.DupX1 = 0 ∷ 1 ∷ 0 ∷ []
operand_places stack.DupX2 = 0 ∷ 1 ∷ 2 ∷ 0 ∷ []
operand_places stack.Dup2 = 0 ∷ 1 ∷ 0 ∷ 1 ∷ []
operand_places stack.Dup2X1 = 0 ∷ 1 ∷ 2 ∷ 0 ∷ 1 ∷ []
operand_places stack.Dup2X2 = 0 ∷ 1 ∷ 2 ∷ 3 ∷ 0 ∷ 1 ∷ []
operand_places stack.Swap = 1 ∷ 0 ∷ []

abbrev pub rearranged : ℕ → Rearrangement → FrameState → Option FrameState
rearranged pc r f =
    if are_groups (groups_of r) f.operands
    then put pc (map (λ k. slice_index_or f.operands k Unset) (operand_places r) ++ drop (sum (groups_of r)) f.operands) f
    else None

-- Numbers

abbrev pub combine : Width → Arithmetic → ℤ → ℤ → ℤ
combine w op.Add a b = add w a b
combine w op.Subtract a b = subtract w a b
combine w op.Multiply a b = multiply w a b
combine w op.And a b = and w a b
combine w op.Or a b = or w a b
combine w op.Xor a b = xor w a b

abbrev pub shifted : Width → Shift → ℤ → ℤ → ℤ
shifted w shift.Left a count = shift_left w a count
shifted w shift.Right a count = shift_right w a count
shifted w shift.UnsignedRight a count = unsigned_shift_right w a count

-- the operands after two numbers were combined: the second is on top
abbrev pub combined : Number → Arithmetic → List Value → Option (List Value)
combined number.Int o ops = with_int None ops (λ b more. with_int None more (λ a below. Some (Int (combine w32 o a b) ∷ below)))
combined number.Long o ops = with_long None ops (λ b more. with_long None more (λ a below. Some (LongHigh ∷ Long (combine w64 o a b) ∷ below)))

abbrev pub negated : Number → List Value → Option (List Value)
negated number.Int ops = with_int None ops (λ a below. Some (Int (negate w32 a) ∷ below))
negated number.Long ops = with_long None ops (λ a below. Some (LongHigh ∷ Long (negate w64 a) ∷ below))

-- .. after a shift: the count, an int, is on top
abbrev pub values_moved : Number → Shift → List Value → Option (List Value)
values_moved number.Int s ops = with_int None ops (λ count more. with_int None more (λ a below. Some (Int (shifted w32 s a count) ∷ below)))
values_moved number.Long s ops = with_int None ops (λ count more. with_long None more (λ a below. Some (LongHigh ∷ Long (shifted w64 s a count) ∷ below)))

abbrev pub converted : Conversion → List Value → Option (List Value)
converted IntToLong ops = with_int None ops (λ a below. Some (LongHigh ∷ Long a ∷ below))
converted LongToInt ops = with_long None ops (λ a below. Some (Int (to_int a) ∷ below))
converted IntToByte ops = with_int None ops (λ a below. Some (Int (to_byte a) ∷ below))
converted IntToChar ops = with_int None ops (λ a below. Some (Int (to_char a) ∷ below))
converted IntToShort ops = with_int None ops (λ a below. Some (Int (to_short a) ∷ below))

abbrev pub compared : List Value → Option (List Value)
compared ops = with_long None ops (λ b more. with_long None more (λ a below. Some (Int (compare a b) ∷ below)))

abbrev pub put_some : ℕ → Option (List Value) → FrameState → Option FrameState
put_some pc None f = None
put_some pc (Some operands) f = put pc operands f

-- Branches

abbrev pub equal_int : ℤ → ℤ → Bool
equal_int a b = int_le a b && int_le b a

abbrev pub compares : Comparison → ℤ → ℤ → Bool
compares Equal a b = equal_int a b
compares NotEqual a b = not (equal_int a b)
compares Less a b = int_lt a b
compares GreaterOrEqual a b = int_le b a
compares Greater a b = int_lt b a
compares LessOrEqual a b = int_le a b

abbrev pub same_reference : Reference → Reference → Bool
same_reference None None = true
same_reference (Some a) (Some b) = a == b
same_reference r s = false

abbrev pub is_null : Reference → Bool
is_null None = true
is_null (Some o) = false

-- whether the condition holds, and the operands below those that it takes
abbrev pub condition_tested : Condition → List Value → Option (Bool × List Value)
condition_tested when.Always ops = Some (true, ops)
condition_tested (when.WithZero c) ops = with_int None ops (λ a below. Some (compares c a (pos 0), below))
condition_tested (when.OfInts c) ops = with_int None ops (λ b more. with_int None more (λ a below. Some (compares c a b, below)))
condition_tested when.SameReference ops = with_reference None ops (λ b more. with_reference None more (λ a below. Some (same_reference a b, below)))
condition_tested when.OtherReference ops = with_reference None ops (λ b more. with_reference None more (λ a below. Some (not (same_reference a b), below)))
condition_tested when.Null ops = with_reference None ops (λ a below. Some (is_null a, below))
condition_tested when.NotNull ops = with_reference None ops (λ a below. Some (not (is_null a), below))

abbrev pub branched : Site → FrameState → Bool × List Value → FrameState
branched at f test = record f { pc = if test.0 then target f.pc at.instr.first else at.next; operands = test.1 }

abbrev pub switched : Site → FrameState → Option FrameState
switched at f = with_int None f.operands (λ key below. Some (record f { pc = target f.pc (target_of at.code at.instr key); operands = below }))

-- THE SHAPES
abbrev pub frame_after : Site → FrameRow → FrameState → Option FrameState
frame_after at row.Null f = put at.next (Null ∷ f.operands) f
frame_after at (row.Int n) f = put at.next (Int n ∷ f.operands) f
frame_after at (row.Long n) f = put at.next (LongHigh ∷ Long n ∷ f.operands) f
frame_after at row.Immediate f = put at.next (Int at.instr.first ∷ f.operands) f
frame_after at (row.Load kind local) f = put_some at.next (option_map (λ vs. vs ++ f.operands) (loaded kind (local_index local at) f)) f
frame_after at (row.Store kind local) f = stored at.next kind (local_index local at) f
frame_after at row.Increment f = increased at.next (local_index Named at) at.instr.second f
frame_after at (row.Rearrange r) f = rearranged at.next r f
frame_after at (row.Arithmetic n o) f = put_some at.next (combined n o f.operands) f
frame_after at (row.Negate n) f = put_some at.next (negated n f.operands) f
frame_after at (row.Shift n s) f = put_some at.next (values_moved n s f.operands) f
frame_after at (row.Convert c) f = put_some at.next (converted c f.operands) f
frame_after at row.CompareLongs f = put_some at.next (compared f.operands) f
frame_after at (row.Branch c) f = option_map (branched at f) (condition_tested c f.operands)
frame_after at row.Switch f = switched at f

-- an instruction that changes nothing but the topmost frame
abbrev pub on_frame : Moment → Option FrameState → Outcome Kept
on_frame e None = ill_typed e
on_frame e (Some f) = goes (with_frame e f (begins e))

-- ldc, ldc_w, ldc2_w: a number, or the interned object of a string, which is made where there is none yet
abbrev pub constant : Moment → Site → Option LoadedConstant → Outcome Kept
constant e at None = ill_typed e
constant e at (Some (AnInt n)) = on_frame e (put at.next (Int n ∷ (current_frame e).operands) (current_frame e))
constant e at (Some (ALong n)) = on_frame e (put at.next (LongHigh ∷ Long n ∷ (current_frame e).operands) (current_frame e))
constant e at (Some (AString bytes)) =
    ill_typed_unless e (nat_lt (length (current_frame e).operands) (current_frame e).room)
    (let d = interned e bytes (begins e) in
    ends_event (with_frame e (record (current_frame e) { pc = at.next; operands = Ref (string_object bytes d) ∷ (current_frame e).operands }) d))

-- idiv, irem, ldiv, lrem: a zero divisor throws
abbrev pub divided : Width → Division → ℤ → ℤ → Option ℤ
divided w Quotient a b = divide w a b
divided w Remainder a b = remainder w a b

abbrev pub quotient : Moment → Site → Option ℤ → (ℤ → List Value) → Outcome Kept
quotient e at None operands = throws e ArithmeticException (begins e)
quotient e at (Some n) operands = on_frame e (put at.next (operands n) (current_frame e))

abbrev pub divides : Moment → Site → Number → Division → Outcome Kept
divides e at number.Int o =
    with_int (ill_typed e) (current_frame e).operands (λ b more. with_int (ill_typed e) more (λ a below.
    quotient e at (divided w32 o a b) (λ n. Int n ∷ below)))
divides e at number.Long o =
    with_long (ill_typed e) (current_frame e).operands (λ b more. with_long (ill_typed e) more (λ a below.
    quotient e at (divided w64 o a b) (λ n. LongHigh ∷ Long n ∷ below)))
