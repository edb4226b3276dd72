-- The arguments of a method that is entered, where they stand.
use Rattle.std.proofs.Common.{◌≡◌, ℕ, ◌<◌, ◌≤◌, Bool, true, false, List, [], ◌∷◌, ◌++◌, length, get_or, set, take, Option, Some, None, refl, sym, ◌∙◌, ap, subst, arith, Contains, get_or-set_same, inl, inr, option_to_list, append-nil}
use Rattle.std.specs.Prelude.{if◌then◌else◌, IfSome}
use Rattle.std.proofs.lemmas.List.{length-set, set-set}
use Rattle.std.proofs.lemmas.List.Elements.{Contains-append_left}
use Rattle.et_event.proofs.Taking.{operand_in_frame}
use Rattle.et_heap.proofs.References.{refs_taken}
use Rattle.et_base.specs.declared.value.Value.{Value}
use Rattle.et_base.specs.declared.value.Value.TheVariants.{Ref}
use Rattle.et_base.proofs.Lists.{Contains-none, Contains-cons, Contains-here}
use Rattle.et_heap.specs.Objects.{IsHeld}
use Rattle.et_heap.specs.Refs.{refs_of}
use Rattle.et_state.specs.Threads.{FrameState, ThreadState, no_thread, as_entered, ended_roots, entered_by, popped, rest_of, with_top_of}
use Rattle.et_state.specs.NewFrames.{entered_over, frame_with}
use Rattle.et_state.specs.declared.new_frame.NewHead.{NewHead}
use Rattle.et_state.specs.State.{GuestState, MachineState, kept_of}
use Rattle.et_state.specs.Words.{thread_at, with_thread, top, steps_thread}
use Rattle.et_state.specs.Sound.{IsSound}
use Rattle.et_state.proofs.Places.{ended_root, refs_reversed, top_root}
use Rattle.et_event.specs.Calls.{entry_arguments}
use Rattle.et_event.specs.Frames.{first_reference}
use Rattle.et_event.specs.Monitors.{Lock}
use Rattle.et_event.specs.Locks.{HasSome, IsSomeFewTimes}
use Rattle.et_event.proofs.There.{there_later, few_later}
use Rattle.et_initialize.proofs.Stepping.{has_frame_on, top_on}
use Rattle.et_builtins.specs.Arguments.{arguments_in}
use Rattle.et_calls.specs.declared.new_frames.Passed.{Passed}
use Rattle.et_calls.specs.declared.new_frames.Passed.TheVariants.{Operands, Object}
use Rattle.et_calls.specs.Entering.{ArePassedTo, arguments_passed, passed_by, pushed_by}
use Rattle.et_calls.specs.Fresh.{IsArgument, IsFresh}
use Rattle.et_calls.proofs.Fresh.{fresh_on}

-- WHAT THEY REFER TO is held

object_in : (argument : Option ℕ) (o : ℕ) → Contains (refs_of (entry_arguments argument)) o → argument ≡ Some o
object_in None o c = absurd (Contains-none o c)
object_in (Some r) o c = elim (Contains-cons r [] o c) [ inl e ↦ ap (λ (k : ℕ). Some k) e | inr d ↦ absurd (Contains-none o d) ]

object_held : (t o : ℕ) (argument : Option ℕ) (m : MachineState) → IsSound (kept_of m) → IsFresh m.guest t → IsArgument m.guest t argument → argument ≡ Some o → IsHeld m.heap o
object_held t o argument m sound fresh there e = sound.roots o (ended_root m.guest t o fresh.unended.thread fresh.unended.unended (there o e))

pub passed_held : (t : ℕ) (passed : Passed) (m : MachineState) → IsSound (kept_of m) → ArePassedTo m.guest t passed → (o : ℕ) → Contains (refs_of (arguments_passed (top m.guest t) passed)) o → IsHeld m.heap o
passed_held t (Operands count) m sound there = λ o c.
    let f : FrameState = top m.guest t in
    sound.roots o (top_root m.guest t o there.0 (operand_in_frame f o (refs_taken f.operands count o (refs_reversed (take count f.operands) o c))))
passed_held t (Object argument) m sound there = λ o c. object_held t o argument m sound there.0 there.1 (object_in argument o c)

pub argument_held : (t : ℕ) (argument : Option ℕ) (m : MachineState) → IsSound (kept_of m) → ArePassedTo m.guest t (Object argument) → IfSome argument (λ o. IsHeld m.heap o)
argument_held t None m sound there = tt
argument_held t (Some o) m sound there = object_held t o (Some o) m sound there.0 there.1 refl

pub argument_first : (argument : Option ℕ) → first_reference (entry_arguments argument) ≡ argument
argument_first None = refl
argument_first (Some o) = refl

-- .. and so is what the lock slot holds

first_in : (vs : List Value) (o : ℕ) → Contains (option_to_list (first_reference vs)) o → Contains (refs_of vs) o
first_in [] o c = c
first_in (Ref r ∷ vs) o c = Contains-append_left (r ∷ []) (refs_of vs) o c
first_in (v ∷ vs) o c = absurd (Contains-none o c)

received_in : (static : Bool) (vs : List Value) (o : ℕ) → Contains (option_to_list (if static then None else first_reference vs)) o → Contains (refs_of vs) o
received_in true vs o c = absurd (Contains-none o c)
received_in false vs o c = first_in vs o c

pub slot_in : (b static : Bool) (vs : List Value) (o : ℕ) → Contains (option_to_list (if b then (if static then None else first_reference vs) else None)) o → Contains (refs_of vs) o
slot_in true static vs o c = received_in static vs o c
slot_in false static vs o c = absurd (Contains-none o c)

-- .. and the receiver
some_in : (r : Option ℕ) (H : ℕ → Type 0) → ((o : ℕ) → Contains (option_to_list r) o → H o) → IfSome r H
some_in None H held = tt
some_in (Some o) H held = held o (Contains-here o [])

pub receiver_held : (t : ℕ) (passed : Passed) (m : MachineState) (static : Bool) → IsSound (kept_of m) → ArePassedTo m.guest t passed → IfSome (if static then None else first_reference (arguments_passed (top m.guest t) passed)) (λ o. IsHeld m.heap o)
receiver_held t passed m static sound there =
    let vs : List Value = arguments_passed (top m.guest t) passed in
    some_in (if static then None else first_reference vs) (λ o. IsHeld m.heap o) (λ o c. passed_held t passed m sound there o (received_in static vs o c))

-- IN A STATE WITH THE SAME THREADS

pub passed_on : (g g' : GuestState) (t : ℕ) (passed : Passed) → g'.threads ≡ g.threads → ArePassedTo g t passed → ArePassedTo g' t passed
passed_on g g' t (Operands count) e there = (has_frame_on g g' t e there.0, subst (λ (f : FrameState). count ≤ length f.operands) (sym (top_on g g' t e)) there.1)
passed_on g g' t (Object argument) e there = (fresh_on g g' t e there.0, λ o is. subst (λ (ts : List ThreadState). Contains (ended_roots (get_or ts t no_thread)) o) (sym e) (there.1 o is))

pub passed_thread : (g : GuestState) (t : ℕ) (passed : Passed) → ArePassedTo g t passed → t < length g.threads
passed_thread g t (Operands count) there = there.0.thread
passed_thread g t (Object argument) there = there.0.unended.thread

-- THE MACHINE THAT HAS TAKEN THEM

with_rest : (fs : List FrameState) (f : FrameState) → 0 < length fs → length (f ∷ rest_of fs) ≡ length fs
with_rest [] f lt = absurd (omega arith)
with_rest (g ∷ fs) f lt = omega arith

pub taken_started : (m : MachineState) (t : ℕ) (passed : Passed) → ArePassedTo m.guest t passed → t < length (passed_by m t passed).guest.threads
taken_started m t (Operands count) there = subst (λ (n : ℕ). t < n) (sym (length-set m.guest.threads t (with_top_of (thread_at m.guest t) (popped count (top m.guest t))))) there.0.thread
taken_started m t (Object argument) there = subst (λ (n : ℕ). t < n) (sym (length-set m.guest.threads t (as_entered (thread_at m.guest t)))) there.0.unended.thread

pub taken_frames : (m : MachineState) (t : ℕ) (passed : Passed) → ArePassedTo m.guest t passed → length (thread_at (passed_by m t passed).guest t).frames ≡ length (thread_at m.guest t).frames
taken_frames m t (Operands count) there =
    ap (λ (x : ThreadState). length x.frames) (get_or-set_same m.guest.threads t (with_top_of (thread_at m.guest t) (popped count (top m.guest t))) no_thread there.0.thread)
    ∙ with_rest (thread_at m.guest t).frames (popped count (top m.guest t)) there.0.frame
taken_frames m t (Object argument) there = ap (λ (x : ThreadState). length x.frames) (get_or-set_same m.guest.threads t (as_entered (thread_at m.guest t)) no_thread there.0.unended.thread)

taken_heap : (m : MachineState) (t : ℕ) (passed : Passed) → (passed_by m t passed).heap ≡ m.heap
taken_heap m t (Operands count) = refl
taken_heap m t (Object argument) = refl

taken_monitors : (m : MachineState) (t : ℕ) (passed : Passed) → (passed_by m t passed).guest.class_monitors ≡ m.guest.class_monitors
taken_monitors m t (Operands count) = refl
taken_monitors m t (Object argument) = refl

-- .. and on which a frame was put
pub pushed_lock : (m m' : MachineState) (t : ℕ) (passed : Passed) (f : FrameState) (lock : Option Lock) → m' ≡ pushed_by m t passed f → HasSome m lock → IsSomeFewTimes m lock → HasSome m' lock × IsSomeFewTimes m' lock
pushed_lock m m' t passed f lock is has few =
    let heap : m'.heap ≡ m.heap = ap (λ (z : MachineState). z.heap) is ∙ taken_heap m t passed in
    let monitors : m'.guest.class_monitors ≡ m.guest.class_monitors = ap (λ (z : MachineState). z.guest.class_monitors) is ∙ taken_monitors m t passed in
    (there_later m m' lock heap monitors has, few_later m m' lock heap monitors few)

-- .. at once, over what it takes
pub over_same : (m : MachineState) (t : ℕ) (x : ThreadState) (f : FrameState) → t < length m.guest.threads → steps_thread m t (entered_by f x) [] ≡ steps_thread (steps_thread m t x []) t (entered_by f (thread_at (steps_thread m t x []).guest t)) []
over_same m t x f lt =
    let ts : List ThreadState = m.guest.threads in
    let lost : List ℕ = m.lost ++ [] in
    let read : get_or (set ts t x) t no_thread ≡ x = get_or-set_same ts t x no_thread lt in
    ap (λ (l : List ℕ). record { heap = m.heap; guest = with_thread m.guest t (entered_by f x); lost = l }) (sym (append-nil lost))
    ∙ (ap (λ (us : List ThreadState). record { heap = m.heap; guest = record m.guest { threads = us }; lost = lost ++ [] }) (sym (set-set ts t x (entered_by f x)))
    ∙ ap (λ (y : ThreadState). steps_thread (steps_thread m t x []) t (entered_by f y) []) (sym read))

pub over_pushed : (m m' : MachineState) (t : ℕ) (passed : Passed) (count : ℕ) (h : NewHead) → passed ≡ Operands count → ArePassedTo m.guest t passed → m' ≡ steps_thread m t (entered_over h count (thread_at m.guest t)) [] → m' ≡ pushed_by m t passed (frame_with h (arguments_passed (top m.guest t) passed))
over_pushed m m' t passed count h e there is =
    let x : ThreadState = with_top_of (thread_at m.guest t) (popped count (top m.guest t)) in
    subst (λ (y : Passed). m' ≡ pushed_by m t y (frame_with h (arguments_passed (top m.guest t) y))) (sym e)
    (is ∙ over_same m t x (frame_with h (arguments_in (top m.guest t) count)) (passed_thread m.guest t passed there))
