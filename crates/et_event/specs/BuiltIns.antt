-- THE BUILT-IN METHODS WITHOUT CODE. Each takes one event and no frame: its arguments are taken, what it gives is pushed,
-- and the pc goes on.
use Rattle.std.specs.Prelude.{ℕ, nat_lt, Bool, true, false, if◌then◌else◌, List, [], ◌∷◌, ◌++◌, length, drop, codes, Option, Some, None, option_and_then, slice_index_or}
use Rattle.et_base.specs.declared.value.Value.{Value}
use Rattle.et_base.specs.declared.value.Value.TheVariants.{Unset, Ref}
use Rattle.et_program.specs.BuiltIns.{built_in_of, is_deferred, text_method_of}
use Rattle.et_program.specs.Entries.{Linked, method_at}
use Rattle.et_program.specs.Members.{is_subclass}
use Rattle.et_program.specs.declared.info.MethodInfo.{MethodInfo}
use Rattle.et_heap.specs.Objects.{object_at, slot_of, with_referent, with_queue, with_object_at, referent_of, referent_value}
use Rattle.et_heap.specs.Queues.{first_value, polled}
use Rattle.et_state.specs.Threads.{new_thread, thread_with, most_threads}
use Rattle.et_state.specs.State.{Kept}
use Rattle.et_state.specs.Words.{thread_at, with_new_thread}
use Rattle.et_state.specs.Outcome.{Outcome}
use Rattle.et_program.specs.BootMethods.BuiltIn.{BuiltIn}
use Rattle.et_program.specs.BootMethods.BuiltIn.TheVariants.{Nothing, SetMessage, SetMessageAndCause, GetMessage, GetCause, SetTarget, Start, Join, SetReferent, SetReferentAndQueue, GetReferent, ClearReferent, Poll}
use Rattle.et_program.specs.BootTexts.Shown.TheVariants.{Text}
use Rattle.et_program.specs.BootTexts.TextMethod.{TextMethod}
use Rattle.et_program.specs.BootTexts.TextMethod.TheVariants.{BeginWith, Append, Print, PrintLine}
use Rattle.et_event.specs.declared.errors.GuestError.TheVariants.{AbstractMethodError, IllegalThreadStateException, OutOfMemoryError}
use Rattle.et_event.specs.Moments.{Moment, Doing, current_frame, doing_with_guest, with_frame, object_class, slot_written, goes, throws}
use Rattle.et_event.specs.Errors.{class_called}
use Rattle.et_event.specs.Checks.{ill_typed_unless, throws_unless, waits_unless}
use Rattle.et_event.specs.Kinds.{or_zero}
use Rattle.et_class.specs.PoolOperands.Operand.TheVariants as operand
use Rattle.et_event.specs.Sites.{Site}
use Rattle.et_event.specs.Frames.{first_reference}

-- WHAT IT DOES

abbrev pub argument : List Value → ℕ → Value
argument arguments i = slice_index_or arguments i Unset

-- the arguments are taken, these entries are pushed, and the pc goes on
abbrev pub answering : Moment → Site → List Value → List Value → Doing → Doing
answering e at arguments values d =
    with_frame e (record (current_frame e) { pc = at.next; operands = values ++ drop (length arguments) (current_frame e).operands }) d

-- how many entries it answers
abbrev pub entries_answered : BuiltIn → ℕ
entries_answered Nothing = 0
entries_answered SetMessage = 0
entries_answered SetMessageAndCause = 0
entries_answered GetMessage = 1
entries_answered GetCause = 1
entries_answered SetTarget = 0
entries_answered Start = 0
entries_answered Join = 0
entries_answered SetReferent = 0
entries_answered SetReferentAndQueue = 0
entries_answered GetReferent = 1
entries_answered ClearReferent = 0
entries_answered Poll = 1

-- the reference in a slot
abbrev pub reference_in : Doing → ℕ → ℕ → Value
reference_in d o i = or_zero (Some operand.Reference) (slot_of (object_at d.state.heap o) i)

abbrev pub with_referent_of : ℕ → Option ℕ → Doing → Doing
with_referent_of o r d = record {
  state = record { heap = with_object_at d.state.heap o (with_referent r (object_at d.state.heap o)); guest = d.state.guest };
  records = d.records;
}

-- a reference has this queue from then on, or none; where it waits, it waits on
abbrev pub with_queue_of : ℕ → Option ℕ → Doing → Doing
with_queue_of o q d = record {
  state = record { heap = with_object_at d.state.heap o (with_queue q (object_at d.state.heap o)); guest = d.state.guest };
  records = d.records;
}

-- a weak reference is made: it refers to this, and has this queue
abbrev pub with_reference_made : ℕ → Option ℕ → Option ℕ → Doing → Doing
with_reference_made o r q d = with_queue_of o q (with_referent_of o r d)

-- the first reference that waits in a queue is taken out of it
abbrev pub with_first_taken : ℕ → Doing → Doing
with_first_taken q d = record { state = record { heap = polled q d.state.heap; guest = d.state.guest }; records = d.records }

-- start: a thread more, which is entered by an event of its own
abbrev pub starts_thread : Moment → Doing → ℕ → Outcome Kept → Option ℕ → Outcome Kept
starts_thread e d o go (Some k) = throws e IllegalThreadStateException d
starts_thread e d o go None = throws_unless e d OutOfMemoryError (nat_lt (length d.state.guest.threads) most_threads) go

abbrev pub with_thread_for : ℕ → Doing → Doing
with_thread_for o d = doing_with_guest (with_new_thread d.state.guest (new_thread None (Some o))) d

-- join: the thread of the object has ended, or there is none
abbrev pub has_thread_ended : Doing → Option ℕ → Bool
has_thread_ended d None = true
has_thread_ended d (Some k) = (thread_at d.state.guest k).ended

-- it uses the slots of a Throwable, or those of a Thread or its thread
abbrev pub uses_throwable : BuiltIn → Bool
uses_throwable SetMessage = true
uses_throwable SetMessageAndCause = true
uses_throwable GetMessage = true
uses_throwable GetCause = true
uses_throwable other = false

abbrev pub uses_thread : BuiltIn → Bool
uses_thread SetTarget = true
uses_thread Start = true
uses_thread other = false

-- an object of a class or of one below it
abbrev pub is_object_of_class : Moment → Doing → ℕ → List ℕ → Bool
is_object_of_class e d o name = is_subclass e.program (object_class d o) (class_called e.program name)

-- Null, or an object of a class or of one below it. It is true of an int, too: that an argument is of the kind that the
-- descriptor names was tested before.
abbrev pub is_null_or_of_class : Moment → Doing → Value → List ℕ → Bool
is_null_or_of_class e d (Ref o) name = is_object_of_class e d o name
is_null_or_of_class e d other name = true

-- CHECK 7 OF AN ARGUMENT: where a built-in method takes an object of one class alone, the argument is null or an object of that
-- class or of one below it. So many entries stand before it, the receiver among them.
pub record ClassArgument : Type 0 where
  pub place : ℕ
  pub class : List ℕ

-- THE TABLE of these arguments
abbrev pub class_argument : BuiltIn → Option ClassArgument
class_argument SetReferentAndQueue = Some (record { place = 2; class = codes "java/lang/ref/ReferenceQueue" })
class_argument other = None

-- .. and of the methods of texts: the string that a string builder begins with, or that is appended or printed
abbrev pub string_argument : ClassArgument
string_argument = record { place = 1; class = codes "java/lang/String" }

abbrev pub text_argument : TextMethod → Option ClassArgument
text_argument BeginWith = Some string_argument
text_argument (Append Text) = Some string_argument
text_argument (Print Text) = Some string_argument
text_argument (PrintLine Text) = Some string_argument
text_argument other = None

-- .. of a method of the program; one with code has none
abbrev pub class_argument_in : Option TextMethod → Option BuiltIn → Option ClassArgument
class_argument_in (Some m) b = text_argument m
class_argument_in None b = option_and_then class_argument b

abbrev pub class_argument_of : Linked → ℕ → Option ClassArgument
class_argument_of p m = if is_deferred p m then class_argument_in (text_method_of p m) (built_in_of (method_at p m)) else None

abbrev pub is_of_its_class : Moment → Doing → List Value → Option ClassArgument → Bool
is_of_its_class e d arguments None = true
is_of_its_class e d arguments (Some a) = is_null_or_of_class e d (argument arguments a.place) a.class

-- 7. the method takes objects of these classes
abbrev pub takes_arguments : Moment → Doing → List Value → ℕ → Bool
takes_arguments e d arguments m = is_of_its_class e d arguments (class_argument_of e.program m)

-- The receiver is of the class whose slots or thread the method uses. Selection finds the method on no other.
abbrev pub is_fit_for : Moment → Doing → ℕ → BuiltIn → Bool
is_fit_for e d o b =
    if uses_throwable b then is_object_of_class e d o (codes "java/lang/Throwable")
    else (if uses_thread b then is_object_of_class e d o (codes "java/lang/Thread") else true)

-- what is done then
abbrev pub row_done : Moment → Site → Doing → List Value → ℕ → BuiltIn → Outcome Kept
row_done e at d arguments o Nothing = goes (answering e at arguments [] d)
row_done e at d arguments o SetMessage = goes (slot_written e o 0 (argument arguments 1) (answering e at arguments [] d))
row_done e at d arguments o SetMessageAndCause =
    goes (slot_written e o 1 (argument arguments 2) (slot_written e o 0 (argument arguments 1) (answering e at arguments [] d)))
row_done e at d arguments o GetMessage = goes (answering e at arguments (reference_in d o 0 ∷ []) d)
row_done e at d arguments o GetCause = goes (answering e at arguments (reference_in d o 1 ∷ []) d)
row_done e at d arguments o SetTarget = goes (slot_written e o 0 (argument arguments 1) (answering e at arguments [] d))
row_done e at d arguments o Start =
    starts_thread e d o (goes (with_thread_for o (answering e at arguments [] d))) (thread_with d.state.guest.threads o)
row_done e at d arguments o Join = waits_unless e (has_thread_ended d (thread_with d.state.guest.threads o)) (goes (answering e at arguments [] d))
row_done e at d arguments o SetReferent = goes (with_reference_made o (referent_of (argument arguments 1)) None (answering e at arguments [] d))
row_done e at d arguments o SetReferentAndQueue =
    goes (with_reference_made o (referent_of (argument arguments 1)) (referent_of (argument arguments 2)) (answering e at arguments [] d))
row_done e at d arguments o GetReferent = goes (answering e at arguments (referent_value (object_at d.state.heap o).referent ∷ []) d)
row_done e at d arguments o ClearReferent = goes (with_referent_of o None (answering e at arguments [] d))
row_done e at d arguments o Poll = goes (with_first_taken o (answering e at arguments (first_value (object_at d.state.heap o).waiting ∷ []) d))

abbrev pub built_in_row : Moment → Site → Doing → List Value → ℕ → BuiltIn → Outcome Kept
built_in_row e at d arguments o b = ill_typed_unless e (is_fit_for e d o b) (row_done e at d arguments o b)

-- the event of a selected method without code; one that is no built-in is abstract
abbrev pub done_by : Moment → Site → Doing → List Value → Option ℕ → Option BuiltIn → Outcome Kept
done_by e at d arguments (Some o) (Some b) = built_in_row e at d arguments o b
done_by e at d arguments receiver b = throws e AbstractMethodError d

abbrev pub built_in_event : Moment → Site → Doing → List Value → MethodInfo → Outcome Kept
built_in_event e at d arguments m = done_by e at d arguments (first_reference arguments) (built_in_of m)
