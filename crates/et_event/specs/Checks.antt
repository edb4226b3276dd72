-- The checks of an event, in words: each names what refuses and what goes on. A row says them in this order, and the first
-- that refuses decides:
--  1. operands missing or of another kind, a result above max_stack, the end of the code          ill typed
--  2. resolution                                                                                  its error is thrown
--  3. a static member where an instance member is wanted, or the reverse                          thrown
--  4. `new` of an interface or an abstract class                                                  thrown
--  5. initialization                                                                              see Initialization.antt
--  6. null                                                                                        thrown
--  7. an object of a class that the instruction, or the method that was resolved, can't take      ill typed
--  8. selection                                                                                   its error is thrown
--  9. bounds, then element type; a zero divisor; a negative length; a cast; a monitor not owned   thrown
-- 10. a native method that isn't built in                                                         thrown
-- 11. a monitor, a thread or an initializer that isn't ready                                      the thread waits
-- 12. a frame too many                                                                            thrown
-- 13. objects and slots that don't fit                                                            `ends_event` of Moments.antt
use Rattle.std.specs.Prelude.{ℕ, ℤ, nat_lt, Bool, true, false, List, [], ◌∷◌, length, Option, Some, None, Result, Ok, Err}
use Rattle.et_base.specs.declared.value.Value.{Value}
use Rattle.et_base.specs.declared.value.Value.TheVariants.{Unset, Int, Long, LongHigh, Null, Ref}
use Rattle.et_heap.specs.Objects.{referent_value}
use Rattle.et_state.specs.Threads.{most_frames}
use Rattle.et_state.specs.State.{Kept}
use Rattle.et_state.specs.Words.{thread_at}
use Rattle.et_program.specs.declared.errors.LinkError.{LinkError}
use Rattle.et_state.specs.Outcome.{Outcome}
use Rattle.et_event.specs.declared.errors.GuestError.{GuestError}
use Rattle.et_event.specs.declared.errors.GuestError.TheVariants.{NullPointerException, StackOverflowError}
use Rattle.et_class.specs.PoolOperands.Operand.{Operand}
use Rattle.et_class.specs.PoolOperands.Operand.TheVariants as operand
use Rattle.et_event.specs.Errors.{error_of}
use Rattle.et_event.specs.Moments.{Moment, Doing, ill_typed, waits, throws}

-- a reference that isn't null names an object
abbrev pub Reference : Type 0
Reference = Option ℕ

-- OPERANDS, the topmost first: what a row takes, and what is below it

abbrev pub with_int : {A : Type 0} → A → List Value → (ℤ → List Value → A) → A
with_int refused (Int n ∷ below) go = go n below
with_int refused other go = refused

-- a long is in two entries, of which the upper one is empty
abbrev pub with_long : {A : Type 0} → A → List Value → (ℤ → List Value → A) → A
with_long refused (LongHigh ∷ Long n ∷ below) go = go n below
with_long refused other go = refused

abbrev pub with_reference : {A : Type 0} → A → List Value → (Reference → List Value → A) → A
with_reference refused (Null ∷ below) go = go None below
with_reference refused (Ref o ∷ below) go = go (Some o) below
with_reference refused other go = refused

-- a value of a kind; no value is of no kind
abbrev pub with_value : {A : Type 0} → Option Operand → A → List Value → (Value → List Value → A) → A
with_value None refused ops go = refused
with_value (Some operand.Int) refused ops go = with_int refused ops (λ n. go (Int n))
with_value (Some operand.Long) refused ops go = with_long refused ops (λ n. go (Long n))
with_value (Some operand.Reference) refused ops go = with_reference refused ops (λ r. go (referent_value r))

-- the entries that a value takes, the upper one first
abbrev pub entries_of : Value → List Value
entries_of Unset = Unset ∷ []
entries_of (Int n) = Int n ∷ []
entries_of (Long n) = LongHigh ∷ Long n ∷ []
entries_of LongHigh = LongHigh ∷ []
entries_of Null = Null ∷ []
entries_of (Ref o) = Ref o ∷ []

-- WHAT REFUSES

-- 1 and 7
abbrev pub ill_typed_unless : Moment → Bool → Outcome Kept → Outcome Kept
ill_typed_unless e true go = go
ill_typed_unless e false go = ill_typed e

-- 2
abbrev pub resolved : Moment → Doing → Result ℕ LinkError → (ℕ → Outcome Kept) → Outcome Kept
resolved e d (Ok member) go = go member
resolved e d (Err error) go = throws e (error_of error) d

-- 8
abbrev pub after_selection : Moment → Doing → Result ℕ LinkError → (ℕ → Outcome Kept) → Outcome Kept
after_selection e d answer go = resolved e d answer go

-- 3, 4, 9 and 10
abbrev pub throws_unless : Moment → Doing → GuestError → Bool → Outcome Kept → Outcome Kept
throws_unless e d error true go = go
throws_unless e d error false go = throws e error d

-- 6
abbrev pub not_null : Moment → Doing → Reference → (ℕ → Outcome Kept) → Outcome Kept
not_null e d None go = throws e NullPointerException d
not_null e d (Some o) go = go o

-- 11
abbrev pub waits_unless : Moment → Bool → Outcome Kept → Outcome Kept
waits_unless e true go = go
waits_unless e false go = waits e

-- 12
abbrev pub frame_fits : Moment → Doing → Outcome Kept → Outcome Kept
frame_fits e d go = throws_unless e d StackOverflowError (nat_lt (length (thread_at d.state.guest e.thread).frames) most_frames) go
