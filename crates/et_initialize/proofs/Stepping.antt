-- The events of an initializer, after its quiet prerequisites are done.
use Rattle.std.proofs.Common.{◌≡◌, ℕ, ◌+◌, ◌-◌, ◌*◌, ◌<◌, ◌≤◌, leb, Bool, true, false, List, [], ◌∷◌, ◌++◌, length, All, Option, Some, None, refl, sym, ◌∙◌, ap, subst, arith, inl, inr, Contains, append_assoc, option_to_list, get_or, lit<}
use Rattle.std.specs.Prelude.{◌&&◌}
use Rattle.std.proofs.lemmas.Bool.{cases_eq, and_parts, leb-true, le-leb}
use Rattle.std.proofs.lemmas.List.{length_push, length-replicate, get_or-set_same, length-set}
use Rattle.std.proofs.lemmas.List.Sums.{sum_by-append}
use Rattle.et_base.proofs.Lists.{Contains-none, Contains-here}
use Rattle.et_base.specs.declared.value.Value.{Value}
use Rattle.et_base.specs.declared.value.Value.TheVariants.{Unset}
use Rattle.et_heap.specs.Objects.{ObjectState, Objects, new_object, has_room, slot_count, slots_in, most_objects, most_slots}
use Rattle.et_heap.specs.Refs.{refs_of}
use Rattle.et_state.specs.declared.stage.Stage.{Stage}
use Rattle.et_state.specs.declared.stage.Stage.TheVariants.{Plain, Before, Clinit}
use Rattle.et_state.specs.Threads.{FrameState, ThreadState, no_thread, first_frame, top_of, without_top, with_pending, in_clinit, entered_by, lost_room, most_frames}
use Rattle.et_state.specs.ThreadRoots.{frame_roots}
use Rattle.et_state.specs.declared.class_state.ClassState.{ClassState}
use Rattle.et_state.specs.declared.class_state.ClassState.TheVariants.{Untouched, Begun, Done}
use Rattle.et_state.specs.State.{GuestState, Kept, MachineState, kept_of}
use Rattle.et_state.specs.Words.{thread_at, with_thread, top, HasFrame, class_state_at, begun, steps_thread, steps_top, with_new_object}
use Rattle.et_state.specs.Roots.{roots_of}
use Rattle.et_state.specs.Moves.{IsOnWay, Led}
use Rattle.et_state.proofs.Calls.{on_set_class_state, on_drop_frame, on_enter_clinit, on_make, on_throw, on_enter_frame}
use Rattle.et_state.proofs.Places.{string_root, pending_root}
use Rattle.et_state.proofs.Steps.{root_there, newest_held}
use Rattle.et_program.specs.Entries.{Linked, class_at, method_at}
use Rattle.et_state.specs.declared.records.Record.{Record}
use Rattle.et_state.specs.declared.records.Record.TheVariants.{Alloc, Enter}
use Rattle.et_state.specs.declared.ends.EventEnd.TheVariants as ends
use Rattle.et_state.specs.Outcome.{Outcome}
use Rattle.et_event.specs.declared.errors.GuestError.{GuestError}
use Rattle.et_event.specs.declared.errors.GuestError.TheVariants.{StackOverflowError}
use Rattle.et_event.specs.Errors.{error_class}
use Rattle.et_event.specs.Moments.{Moment, moment, Doing, current_frame, begins, fits_heap, next_object, instance_made, pending_now, with_thread_state, with_frame, told, ends_event as ending, throws}
use Rattle.et_event.specs.Answered.{EventAnswers}
use Rattle.et_event.specs.Sound.{IsSoundFor, AreSoundFrames, IsStaged}
use Rattle.et_event.specs.Sites.{present_body}
use Rattle.et_event.specs.Initialization.{with_state, prepared, constants_set, begun_by, begins_class, initializer_frame, enters_clinit}
use Rattle.et_event.proofs.Throwing.{ends_fit, ends_full, not_given_up}
use Rattle.et_event.specs.InitializationOrder.{IsInOrder}
use Rattle.et_event.specs.Telling.{so_far, with_kept, StandsAt}
use Rattle.et_initialize.specs.Under.{IsInitializing, HasMadeStrings}
use Rattle.et_initialize.specs.Asked.{after}
use Rattle.et_initialize.proofs.Setting.{fits_grown, follows_each}
use Rattle.et_initialize.proofs.Running.{marked}
use Rattle.et_initialize.proofs.Legal.{made_none, ready_first, made_constants}
use Rattle.et_initialize.proofs.Records.{behind, behind_constants, came_behind, fits_behind}
use Rattle.et_initialize.proofs.Preparing.{ready_prepared, made_prepared, threads_prepared, behind_prepared, monitors_prepared}
use Rattle.et_initialize.proofs.Beginning.{strings_led, few, begin_overflows}

-- the machine then
abbrev pub base : Linked → MachineState → ℕ → List ℕ → MachineState
base p m t ks = with_kept (begun m) (after p m t ks).state

pub prepared_came : (p : Linked) (t : ℕ) (ks : List ℕ) (m m₁ m₂ : MachineState) (out out₂ : List Record) → m₁ ≡ begun m → StandsAt (prepared (moment p m₁ t) ks (so_far m₁ out)) m₁ m₂ out₂
    → StandsAt (behind out (after p m t ks)) (begun m) m₂ out₂
prepared_came p t ks m m₁ m₂ out out₂ e h = came_behind (λ q x. prepared q ks x) p t m m₁ m₂ out out₂ (λ x. refl) (behind_prepared out (moment p m t) ks (begins (moment p m t))) e h

pub prepared_fits : (p : Linked) (t : ℕ) (ks : List ℕ) (m m₁ : MachineState) (out : List Record) → m₁ ≡ begun m → fits_heap (after p m t ks).state.heap ≡ true → fits_heap (prepared (moment p m₁ t) ks (so_far m₁ out)).state.heap ≡ true
prepared_fits p t ks m m₁ out e fit = fits_behind (λ q x. prepared q ks x) p t m m₁ out (λ x. refl) (behind_prepared out (moment p m t) ks (begins (moment p m t))) e fit

pub made_after : (p : Linked) (t : ℕ) (ks : List ℕ) (m : MachineState) → IsInOrder p → All (λ k. k < length p.classes) ks → IsSoundFor p (kept_of m) → HasMadeStrings (kept_of m) (after p m t ks).state []
made_after p t ks m has all sound = made_prepared (moment p m t) ks (begins (moment p m t)) (kept_of m) [] has all (ready_first p (kept_of m) sound) (made_none (kept_of m) sound.held)

pub ready_after : (p : Linked) (t : ℕ) (ks : List ℕ) (m : MachineState) → IsInOrder p → All (λ k. k < length p.classes) ks → IsSoundFor p (kept_of m) → IsInitializing p (after p m t ks).state
ready_after p t ks m has all sound = ready_prepared (moment p m t) ks (begins (moment p m t)) has all (ready_first p (kept_of m) sound)

pub threads_after : (p : Linked) (t : ℕ) (ks : List ℕ) (m : MachineState) → (after p m t ks).state.guest.threads ≡ m.guest.threads
threads_after p t ks m = threads_prepared (moment p m t) ks (begins (moment p m t))

pub monitors_after : (p : Linked) (t : ℕ) (ks : List ℕ) (m : MachineState) → (after p m t ks).state.guest.class_monitors ≡ m.guest.class_monitors
monitors_after p t ks m = monitors_prepared (moment p m t) ks (begins (moment p m t))

pub has_frame_on : (g g' : GuestState) (t : ℕ) → g'.threads ≡ g.threads → HasFrame g t → HasFrame g' t
has_frame_on g g' t e has = record {
  thread = subst (λ (ts : List ThreadState). t < length ts) (sym e) has.thread;
  frame = subst (λ (ts : List ThreadState). 0 < length (get_or ts t no_thread).frames) (sym e) has.frame;
}

pub top_on : (g g' : GuestState) (t : ℕ) → g'.threads ≡ g.threads → top g' t ≡ top g t
top_on g g' t e = ap (λ (ts : List ThreadState). top_of (get_or ts t no_thread)) e

-- THE FRAME of an initializer holds nothing yet
pub record IsWaiting (p : Linked) (c : ℕ) (f : FrameState) : Type 0 where
  pub class : c < length p.classes
  pub locals : f.locals ≡ []
  pub operands : f.operands ≡ []
  pub lock : f.lock ≡ None

waiting_frame : (p : Linked) (c : ℕ) (f : FrameState) (s : Stage) (method : Option ℕ) → s ≡ Before c → IsStaged p f s method → IsWaiting p c f
waiting_frame p c f Plain method e h = cc
waiting_frame p c f (Clinit k) method e h = cc
waiting_frame p c f (Before k) (Some m) e h = absurd h
waiting_frame p c f (Before k) None e h = record { class = subst (λ (i : ℕ). i < length p.classes) (same k c e) h.0; locals = h.1.locals; operands = h.1.operands; lock = h.2 }
  where
    same : (a b : ℕ) → Before a ≡ Before b → a ≡ b
    same a b e = cc

waiting_first : (p : Linked) (c : ℕ) (fs : List FrameState) → 0 < length fs → AreSoundFrames p fs → (first_frame fs).stage ≡ Before c → IsWaiting p c (first_frame fs)
waiting_first p c [] lt sound e = absurd (omega arith)
waiting_first p c (f ∷ fs) lt sound e = waiting_frame p c f f.stage f.method e sound.0

pub waiting : (p : Linked) (c t : ℕ) (m : MachineState) → IsSoundFor p (kept_of m) → HasFrame m.guest t → (top m.guest t).stage ≡ Before c → IsWaiting p c (top m.guest t)
waiting p c t m sound has e = waiting_first p c (thread_at m.guest t).frames has.frame (sound.threads t has.thread).frames e

no_roots : (p : Linked) (c : ℕ) (f : FrameState) → IsWaiting p c f → frame_roots f ≡ []
no_roots p c f w = ap (λ (vs : List Value). refs_of vs ++ (refs_of f.operands ++ option_to_list f.lock)) w.locals ∙ (ap (λ (vs : List Value). refs_of vs ++ option_to_list f.lock) w.operands ∙ ap (λ (o : Option ℕ). option_to_list o) w.lock)

-- WHAT THE CALLS NEED

pub base_classes : (p : Linked) (t c : ℕ) (ks : List ℕ) (m m₂ : MachineState) → IsInOrder p → All (λ k. k < length p.classes) ks → IsSoundFor p (kept_of m) → m₂ ≡ base p m t ks → c < length p.classes → c < length m₂.guest.classes
base_classes p t c ks m m₂ has all sound e lt =
    subst (λ (x : MachineState). c < length x.guest.classes) (sym e) (subst (λ (n : ℕ). c < n) (sym (ready_after p t ks m has all sound).classes) lt)

pub base_threads : (p : Linked) (t : ℕ) (ks : List ℕ) (m m₂ : MachineState) → m₂ ≡ base p m t ks → m₂.guest.threads ≡ m.guest.threads
base_threads p t ks m m₂ e = ap (λ (x : MachineState). x.guest.threads) e ∙ threads_after p t ks m

pub marked_threads : (c : ℕ) (x : ClassState) (m m₂ m₃ : MachineState) → m₂.guest.threads ≡ m.guest.threads → m₃ ≡ marked m₂ c x → m₃.guest.threads ≡ m.guest.threads
marked_threads c x m m₂ m₃ e₂ e₃ = ap (λ (z : MachineState). z.guest.threads) e₃ ∙ e₂

pub empty_lost : (p : Linked) (t c : ℕ) (x : ClassState) (ks : List ℕ) (m m₂ m₃ : MachineState) → m₂ ≡ base p m t ks → m₃ ≡ marked m₂ c x → IsWaiting p c (top m.guest t)
    → length m₃.lost + (length (top m₃.guest t).locals + length (top m₃.guest t).operands) < lost_room
empty_lost p t c x ks m m₂ m₃ e₂ e₃ w =
    let same : top m₃.guest t ≡ top m.guest t = top_on m.guest m₃.guest t (marked_threads c x m m₂ m₃ (base_threads p t ks m m₂ e₂) e₃) in
    let lost : m₃.lost ≡ [] = ap (λ (z : MachineState). z.lost) e₃ ∙ ap (λ (z : MachineState). z.lost) e₂ in
    let locals : (top m₃.guest t).locals ≡ [] = ap (λ (f : FrameState). f.locals) same ∙ w.locals in
    let operands : (top m₃.guest t).operands ≡ [] = ap (λ (f : FrameState). f.operands) same ∙ w.operands in
    subst (λ (l : List ℕ). length l + (length (top m₃.guest t).locals + length (top m₃.guest t).operands) < lost_room) (sym lost)
    (subst (λ (vs : List Value). 0 + (length vs + length (top m₃.guest t).operands) < lost_room) (sym locals)
    (subst (λ (vs : List Value). 0 + (0 + length vs) < lost_room) (sym operands) (lit< tt)))

-- THE CLASS IS DONE
pub finished : (p : Linked) (t c : ℕ) (ks : List ℕ) (m m₂ m₃ m₄ : MachineState) (out out₂ : List Record) → IsInOrder p → All (λ k. k < length p.classes) ks → IsSoundFor p (kept_of m) → HasFrame m.guest t → IsWaiting p c (top m.guest t)
    → fits_heap (after p m t ks).state.heap ≡ true → m₂ ≡ base p m t ks → out₂ ≡ out ++ (after p m t ks).records → m₃ ≡ marked m₂ c Done
    → m₄ ≡ steps_thread m₃ t (without_top (thread_at m₃.guest t)) (frame_roots (top m₃.guest t)) → EventAnswers (enters_clinit (moment p m t) c None (after p m t ks)) ends.Done m m₄ out out₂
finished p t c ks m m₂ m₃ m₄ out out₂ has all sound frame w fit e₂ r₂ e₃ e₄ =
    let e = moment p m t in
    let s = kept_of m in
    let d = after p m t ks in
    let n : MachineState = marked (base p m t ks) c Done in
    let is : m₄ ≡ steps_thread n t (without_top (thread_at n.guest t)) (frame_roots (top n.guest t)) =
    e₄ ∙ ap (λ (z : MachineState). steps_thread z t (without_top (thread_at z.guest t)) (frame_roots (top z.guest t))) (e₃ ∙ ap (λ (z : MachineState). marked z c Done) e₂) in
    let made = made_after p t ks m has all sound in
    let threads = threads_after p t ks m in
    let on : HasFrame n.guest t = has_frame_on m.guest n.guest t threads frame in
    let none : frame_roots (top n.guest t) ≡ [] = ap frame_roots (top_on m.guest n.guest t threads) ∙ no_roots p c (top m.guest t) w in
    let way : IsOnWay s (steps_thread n t (without_top (thread_at n.guest t)) (frame_roots (top n.guest t))) =
    on_drop_frame s n t (on_set_class_state s (base p m t ks) c Done made.way) on (λ o x. absurd (Contains-none o (subst (λ (os : List ℕ). Contains os o) none x))) in
    let x : Doing = with_thread_state e (without_top (thread_at d.state.guest t)) (with_state c Done d) in
    let led : Led s x.state m₄ = strings_led s x.state m₄ (subst (λ (z : MachineState). IsOnWay s z) (sym is) way) (ap (λ (z : MachineState). kept_of z) is) made.grown (λ o low high. string_root x.state.guest o (made.made o low high)) in
    subst (λ (y : Outcome Kept). EventAnswers y ends.Done m m₄ out out₂) (sym (ends_fit x fit)) (led, r₂)

-- .. OR ITS <clinit> IS ENTERED
pub clinit_entered : (p : Linked) (t c method stack locals : ℕ) (ks : List ℕ) (m m₂ m₃ : MachineState) (out out₂ out₃ : List Record) → IsInOrder p → All (λ k. k < length p.classes) ks → IsSoundFor p (kept_of m) → HasFrame m.guest t → IsWaiting p c (top m.guest t)
    → fits_heap (after p m t ks).state.heap ≡ true → m₂ ≡ base p m t ks → out₂ ≡ out ++ (after p m t ks).records
    → stack ≡ (present_body (method_at p method).code).max_stack → locals ≡ (present_body (method_at p method).code).max_locals
    → m₃ ≡ steps_top m₂ t (in_clinit method stack locals (top m₂.guest t)) [] → out₃ ≡ out₂ ++ Enter m₃.guest.clock t method 0 ∷ []
    → EventAnswers (enters_clinit (moment p m t) c (Some method) (after p m t ks)) ends.Done m m₃ out out₃
clinit_entered p t c method stack locals ks m m₂ m₃ out out₂ out₃ has all sound frame w fit e₂ r₂ a b e₃ r₃ =
    let e = moment p m t in
    let s = kept_of m in
    let d = after p m t ks in
    let n : MachineState = base p m t ks in
    let body = present_body (method_at p method).code in
    let threads = threads_after p t ks m in
    let same : top n.guest t ≡ current_frame e = top_on m.guest n.guest t threads in
    let size : in_clinit method stack locals (current_frame e) ≡ in_clinit method body.max_stack body.max_locals (current_frame e) = ap (λ (i : ℕ). in_clinit method i locals (current_frame e)) a ∙ ap (λ (i : ℕ). in_clinit method body.max_stack i (current_frame e)) b in
    let at : m₃ ≡ steps_top n t (in_clinit method stack locals (top n.guest t)) [] = e₃ ∙ ap (λ (z : MachineState). steps_top z t (in_clinit method stack locals (top z.guest t)) []) e₂ in
    let is : m₃ ≡ steps_top n t (in_clinit method body.max_stack body.max_locals (current_frame e)) [] = at ∙ ap (λ (f : FrameState). steps_top n t f []) (ap (λ (f : FrameState). in_clinit method stack locals f) same ∙ size) in
    let made = made_after p t ks m has all sound in
    let on : HasFrame n.guest t = has_frame_on m.guest n.guest t threads frame in
    let way : IsOnWay s (steps_top n t (in_clinit method stack locals (top n.guest t)) []) =
    on_enter_clinit s n t method stack locals made.way on (ap (λ (f : FrameState). f.locals) same ∙ w.locals) (ap (λ (f : FrameState). f.operands) same ∙ w.operands) in
    let x : Doing = told (Enter d.state.guest.clock t method 0) (with_frame e (in_clinit method body.max_stack body.max_locals (current_frame e)) d) in
    let led : Led s x.state m₃ = strings_led s x.state m₃ (subst (λ (z : MachineState). IsOnWay s z) (sym at) way) (ap (λ (z : MachineState). kept_of z) is) made.grown (λ o low high. string_root x.state.guest o (made.made o low high)) in
    let records : out₃ ≡ out ++ x.records = r₃ ∙ (ap (λ (z : MachineState). out₂ ++ Enter z.guest.clock t method 0 ∷ []) is ∙ (ap (λ (l : List Record). l ++ Enter d.state.guest.clock t method 0 ∷ []) r₂ ∙ append_assoc out d.records (Enter d.state.guest.clock t method 0 ∷ []))) in
    subst (λ (y : Outcome Kept). EventAnswers y ends.Done m m₃ out out₃) (sym (ends_fit x fit)) (led, records)

-- nothing fits
pub clinit_full : (p : Linked) (t c : ℕ) (clinit : Option ℕ) (ks : List ℕ) (m : MachineState) (out : List Record) → fits_heap (after p m t ks).state.heap ≡ false → EventAnswers (enters_clinit (moment p m t) c clinit (after p m t ks)) ends.ObjectLimit m m out out
clinit_full p t c None ks m out fit =
    let e = moment p m t in
    let d = after p m t ks in
    let x : Doing = with_thread_state e (without_top (thread_at d.state.guest t)) (with_state c Done d) in
    subst (λ (y : Outcome Kept). EventAnswers y ends.ObjectLimit m m out out) (sym (ends_full x fit)) (refl, refl)
clinit_full p t c (Some method) ks m out fit =
    let e = moment p m t in
    let d = after p m t ks in
    let body = present_body (method_at p method).code in
    let x : Doing = told (Enter d.state.guest.clock t method 0) (with_frame e (in_clinit method body.max_stack body.max_locals (current_frame e)) d) in
    subst (λ (y : Outcome Kept). EventAnswers y ends.ObjectLimit m m out out) (sym (ends_full x fit)) (refl, refl)

pub told_enter : (out out' : List Record) (n clock t number method : ℕ) → n ≡ clock → number ≡ t → out' ≡ out ++ Enter n number method 0 ∷ [] → out' ≡ out ++ Enter clock t method 0 ∷ []
told_enter out out' n clock t number method a b e = e ∙ (ap (λ (i : ℕ). out ++ Enter i number method 0 ∷ []) a ∙ ap (λ (i : ℕ). out ++ Enter clock i method 0 ∷ []) b)

-- AN ERROR IS THROWN

abbrev pub thrown : Moment → GuestError → Doing → Doing
thrown e error d = pending_now e (next_object d) (instance_made e (error_class e.program error) d)

throws_is : (e : Moment) (error : GuestError) (d : Doing) → 0 < length (thread_at d.state.guest e.thread).frames → throws e error d ≡ ending (thrown e error d)
throws_is e error d h = ap (λ (x : Doing). ending (pending_now e (next_object d) (instance_made e (error_class e.program error) x))) (not_given_up e d h)

-- one object more fits exactly where there is room for it
pub one_fits : (heap : Objects) (class elements slots : ℕ) → 0 < length heap → fits_heap (heap ++ Some (new_object class elements slots) ∷ []) ≡ has_room heap 1 slots
one_fits heap class elements slots some =
    let y : Option ObjectState = Some (new_object class elements slots) in
    let long : length (heap ++ y ∷ []) ≡ length heap + 1 = length_push heap y in
    let number : length (heap ++ y ∷ []) - 1 ≡ length heap - 1 + 1 = omega (arith, long) in
    let size : slots_in y ≡ slots = length-replicate slots Unset in
    let sum : slot_count (heap ++ y ∷ []) ≡ slot_count heap + slot_count (y ∷ []) = sum_by-append slots_in heap (y ∷ []) in
    let last : slot_count (y ∷ []) ≡ slots = omega (arith, size) in
    ap (λ (n : ℕ). leb n most_objects && leb (slot_count (heap ++ y ∷ [])) most_slots) number
    ∙ ap (λ (n : ℕ). leb (length heap - 1 + 1) most_objects && leb n most_slots) (sum ∙ ap (λ (n : ℕ). slot_count heap + n) last)

pub error_thrown : (p : Linked) (t : ℕ) (error : GuestError) (ks : List ℕ) (m m₂ m₃ m₄ : MachineState) (out out₂ out₃ : List Record) (class slots o : ℕ) → IsInOrder p → All (λ k. k < length p.classes) ks → IsSoundFor p (kept_of m) → HasFrame m.guest t
    → class ≡ error_class p error → slots ≡ (class_at p class).info.slots → has_room (after p m t ks).state.heap 1 slots ≡ true
    → m₂ ≡ base p m t ks → out₂ ≡ out ++ (after p m t ks).records
    → m₃ ≡ with_new_object m₂ (new_object class 0 slots) → o ≡ length m₂.heap → out₃ ≡ out₂ ++ Alloc m₃.guest.clock t o class (16 + 8 * slots) 0 ∷ []
    → m₄ ≡ steps_thread m₃ t (with_pending (Some o) (thread_at m₃.guest t)) (option_to_list (thread_at m₃.guest t).pending)
    → EventAnswers (throws (moment p m t) error (after p m t ks)) ends.Done m m₄ out out₃
error_thrown p t error ks m m₂ m₃ m₄ out out₂ out₃ class slots o has all sound frame name size room e₂ r₂ e₃ number r₃ e₄ =
    let e = moment p m t in
    let s = kept_of m in
    let d = after p m t ks in
    let b : MachineState = base p m t ks in
    let y : ObjectState = new_object class 0 slots in
    let n : MachineState = with_new_object b y in
    let k : ℕ = length d.state.heap in
    let threads = threads_after p t ks m in
    let made = made_after p t ks m has all sound in
    let is₃ : m₃ ≡ n = e₃ ∙ ap (λ (z : MachineState). with_new_object z y) e₂ in
    let is_o : o ≡ k = number ∙ ap (λ (z : MachineState). length z.heap) e₂ in
    let is₄ : m₄ ≡ steps_thread n t (with_pending (Some k) (thread_at n.guest t)) (option_to_list (thread_at n.guest t).pending) =
    e₄ ∙ (ap (λ (i : ℕ). steps_thread m₃ t (with_pending (Some i) (thread_at m₃.guest t)) (option_to_list (thread_at m₃.guest t).pending)) is_o
    ∙ ap (λ (z : MachineState). steps_thread z t (with_pending (Some k) (thread_at z.guest t)) (option_to_list (thread_at z.guest t).pending)) is₃) in
    let on : HasFrame n.guest t = has_frame_on m.guest n.guest t threads frame in
    let way₃ : IsOnWay s n = on_make s b class 0 slots made.way in
    let was : thread_at n.guest t ≡ thread_at m.guest t = ap (λ (ts : List ThreadState). get_or ts t no_thread) threads in
    let way₄ : IsOnWay s (steps_thread n t (with_pending (Some k) (thread_at n.guest t)) (option_to_list (thread_at n.guest t).pending)) =
    on_throw s n t k way₃ on.thread (newest_held d.state.heap y) (λ q c. root_there s (kept_of n) q (pending_root m.guest t q frame.thread (subst (λ (z : ThreadState). Contains (option_to_list z.pending) q) was c))) in
    let g : GuestState = with_thread n.guest t (with_pending (Some k) (thread_at n.guest t)) in
    let x : Kept = record { heap = n.heap; guest = g } in
    let long : length n.heap ≡ k + 1 = length_push d.state.heap (Some y) in
    let grown = made.grown in
    let here : Contains (option_to_list (thread_at g t).pending) k = subst (λ (z : ThreadState). Contains (option_to_list z.pending) k) (sym (get_or-set_same n.guest.threads t (with_pending (Some k) (thread_at n.guest t)) no_thread on.thread)) (Contains-here k []) in
    let root : Contains (roots_of g) k = pending_root g t k (subst (λ (i : ℕ). t < i) (sym (length-set n.guest.threads t (with_pending (Some k) (thread_at n.guest t)))) on.thread) here in
    let led : Led s x m₄ = strings_led s x m₄ (subst (λ (z : MachineState). IsOnWay s z) (sym is₄) way₄) (ap (λ (z : MachineState). kept_of z) is₄) (omega (arith, long))
    (λ q low high. elim (cases_eq q k) [
      | inl same ↦ subst (λ (i : ℕ). Contains (roots_of g) i) (sym same) root
      | inr ne ↦ string_root g q (made.made q low (below q k (length n.heap) high long ne))
    ]) in
    let slots_are : slots ≡ (class_at p (error_class p error)).info.slots = size ∙ ap (λ (c : ℕ). (class_at p c).info.slots) name in
    let made_of : Doing = thrown e error d in
    let same_object : new_object class 0 slots ≡ new_object (error_class p error) 0 (class_at p (error_class p error)).info.slots = ap (λ (c : ℕ). new_object c 0 slots) name ∙ ap (λ (i : ℕ). new_object (error_class p error) 0 i) slots_are in
    let kept : x ≡ made_of.state = ap (λ (z : ObjectState). let w : Kept = record { heap = d.state.heap ++ Some z ∷ []; guest = g } in w) same_object in
    let one : out₃ ≡ out₂ ++ Alloc d.state.guest.clock t k class (16 + 8 * slots) 0 ∷ [] = r₃ ∙ (ap (λ (z : MachineState). out₂ ++ Alloc z.guest.clock t o class (16 + 8 * slots) 0 ∷ []) is₃ ∙ ap (λ (i : ℕ). out₂ ++ Alloc d.state.guest.clock t i class (16 + 8 * slots) 0 ∷ []) is_o) in
    let two : out₂ ++ Alloc d.state.guest.clock t k class (16 + 8 * slots) 0 ∷ [] ≡ out₂ ++ Alloc d.state.guest.clock t k (error_class p error) (16 + 8 * (class_at p (error_class p error)).info.slots) 0 ∷ [] =
    ap (λ (c : ℕ). out₂ ++ Alloc d.state.guest.clock t k c (16 + 8 * slots) 0 ∷ []) name ∙ ap (λ (i : ℕ). out₂ ++ Alloc d.state.guest.clock t k (error_class p error) (16 + 8 * i) 0 ∷ []) slots_are in
    let last : Record = Alloc d.state.guest.clock t k (error_class p error) (16 + 8 * (class_at p (error_class p error)).info.slots) 0 in
    let records : out₃ ≡ out ++ made_of.records = one ∙ (two ∙ (ap (λ (l : List Record). l ++ last ∷ []) r₂ ∙ append_assoc out d.records (last ∷ []))) in
    let some : 0 < length d.state.heap = let room₀ = sound.held.room in omega (arith, room₀, grown) in
    let fit : fits_heap made_of.state.heap ≡ true = ap (λ (z : Kept). fits_heap z.heap) (sym kept) ∙ (one_fits d.state.heap class 0 slots some ∙ room) in
    let has_one : 0 < length (thread_at d.state.guest t).frames = subst (λ (z : ThreadState). 0 < length z.frames) (sym was) frame.frame in
    subst (λ (z : Outcome Kept). EventAnswers z ends.Done m m₄ out out₃) (sym (throws_is e error d has_one ∙ ends_fit made_of fit)) (subst (λ (z : Kept). Led s z m₄) kept led, records)
  where
    below : (o m l : ℕ) → o < l → l ≡ m + 1 → (o ≡ m → ⊥) → o < m
    below o m l lt e ne = omega arith

pub fits_less : (heap : Objects) (slots : ℕ) → has_room heap 1 slots ≡ true → fits_heap heap ≡ true
fits_less heap slots room =
    let b = and_parts _ _ room in
    let objects : length heap - 1 + 1 ≤ most_objects = leb-true _ _ b.0 in
    let more : slot_count heap + slots ≤ most_slots = leb-true _ _ b.1 in
    let few : length heap - 1 ≤ most_objects = omega arith in
    let small : slot_count heap ≤ most_slots = omega arith in
    ap (λ (x : Bool). x && leb (slot_count heap) most_slots) (le-leb _ _ few) ∙ le-leb _ _ small

pub base_room : (p : Linked) (t : ℕ) (ks : List ℕ) (m m₂ : MachineState) (slots : ℕ) → m₂ ≡ base p m t ks → has_room (after p m t ks).state.heap 1 slots ≡ true → has_room m₂.heap 1 slots ≡ true
base_room p t ks m m₂ slots e room = ap (λ (z : MachineState). has_room z.heap 1 slots) e ∙ room

-- A CLASS BEGINS

began_after : (p : Linked) (t c : ℕ) (ks : List ℕ) (m m₂ m₃ m₄ : MachineState) (out out₂ out₄ : List Record) → m₂ ≡ base p m t ks → out₂ ≡ out ++ (after p m t ks).records → m₃ ≡ marked m₂ c (Begun t)
    → StandsAt (constants_set (moment p m₃ t) c (so_far m₃ out₂)) m₃ m₄ out₄ → StandsAt (behind out (constants_set (moment p m t) c (with_state c (Begun t) (after p m t ks)))) (begun m) m₄ out₄
began_after p t c ks m m₂ m₃ m₄ out out₂ out₄ e₂ r₂ e₃ h =
    let q = moment p m t in
    let y = with_state c (Begun t) (after p m t ks) in
    let n = marked (base p m t ks) c (Begun t) in
    let is : m₃ ≡ n = e₃ ∙ ap (λ (z : MachineState). marked z c (Begun t)) e₂ in
    let a : StandsAt (constants_set (moment p n t) c (so_far n out₂)) n m₄ out₄ = subst (λ (z : MachineState). StandsAt (constants_set (moment p z t) c (so_far z out₂)) z m₄ out₄) is h in
    let b : StandsAt (constants_set q c (behind out y)) n m₄ out₄ = subst (λ (r : List Record). StandsAt (constants_set q c (record { state = y.state; records = r })) n m₄ out₄) r₂ a in
    subst (λ (x : Doing). StandsAt x n m₄ out₄) (behind_constants out q c y) b

pub began_fits : (p : Linked) (t c : ℕ) (ks : List ℕ) (m m₂ m₃ : MachineState) (out out₂ : List Record) → m₂ ≡ base p m t ks → out₂ ≡ out ++ (after p m t ks).records → m₃ ≡ marked m₂ c (Begun t)
    → fits_heap (constants_set (moment p m t) c (with_state c (Begun t) (after p m t ks))).state.heap ≡ true → fits_heap (constants_set (moment p m₃ t) c (so_far m₃ out₂)).state.heap ≡ true
began_fits p t c ks m m₂ m₃ out out₂ e₂ r₂ e₃ fit =
    let q = moment p m t in
    let y = with_state c (Begun t) (after p m t ks) in
    let n = marked (base p m t ks) c (Begun t) in
    let is : m₃ ≡ n = e₃ ∙ ap (λ (z : MachineState). marked z c (Begun t)) e₂ in
    let one : fits_heap (constants_set q c (behind out y)).state.heap ≡ true = ap (λ (x : Doing). fits_heap x.state.heap) (behind_constants out q c y) ∙ fit in
    let two : fits_heap (constants_set (moment p n t) c (so_far n out₂)).state.heap ≡ true = subst (λ (r : List Record). fits_heap (constants_set q c (record { state = y.state; records = r })).state.heap ≡ true) (sym r₂) one in
    ap (λ (z : MachineState). fits_heap (constants_set (moment p z t) c (so_far z out₂)).state.heap) is ∙ two

pub began_threads : (p : Linked) (t c : ℕ) (ks : List ℕ) (m m₂ m₃ m₄ : MachineState) (out out₂ out₄ : List Record) → m₂ ≡ base p m t ks → out₂ ≡ out ++ (after p m t ks).records → m₃ ≡ marked m₂ c (Begun t)
    → StandsAt (constants_set (moment p m₃ t) c (so_far m₃ out₂)) m₃ m₄ out₄ → m₄.guest.threads ≡ m.guest.threads
began_threads p t c ks m m₂ m₃ m₄ out out₂ out₄ e₂ r₂ e₃ h =
    let y = with_state c (Begun t) (after p m t ks) in
    ap (λ (z : MachineState). z.guest.threads) (began_after p t c ks m m₂ m₃ m₄ out out₂ out₄ e₂ r₂ e₃ h).0 ∙ ((follows_each (moment p m t) (class_at p c).info.constants y).threads ∙ threads_after p t ks m)

pub began_led : (p : Linked) (t c : ℕ) (ks : List ℕ) (m m₂ m₃ m₄ m₅ : MachineState) (out out₂ out₄ : List Record) (f : FrameState) → IsInOrder p → All (λ k. k < length p.classes) ks → c < length p.classes → IsSoundFor p (kept_of m) → t < length m.guest.threads
    → class_state_at (after p m t ks).state.guest c ≡ Untouched → m₂ ≡ base p m t ks → out₂ ≡ out ++ (after p m t ks).records → m₃ ≡ marked m₂ c (Begun t)
    → StandsAt (constants_set (moment p m₃ t) c (so_far m₃ out₂)) m₃ m₄ out₄ → f ≡ initializer_frame c → m₅ ≡ steps_thread m₄ t (entered_by f (thread_at m₄.guest t)) []
    → Led (kept_of m) (begun_by (moment p m t) c (after p m t ks)).state m₅ × (out₄ ≡ out ++ (begun_by (moment p m t) c (after p m t ks)).records)
began_led p t c ks m m₂ m₃ m₄ m₅ out out₂ out₄ f has all lt sound thread un e₂ r₂ e₃ h new e₅ =
    let q = moment p m t in
    let s = kept_of m in
    let d = after p m t ks in
    let y = with_state c (Begun t) d in
    let x = constants_set q c y in
    let came = began_after p t c ks m m₂ m₃ m₄ out out₂ out₄ e₂ r₂ e₃ h in
    let made : HasMadeStrings s x.state [] = made_constants q c (Begun t) s [] d lt (has.constants c lt) (ready_after p t ks m has all sound) un (made_after p t ks m has all sound) in
    let n : MachineState = with_kept (begun m) x.state in
    let is : m₅ ≡ steps_thread n t (entered_by (initializer_frame c) (thread_at n.guest t)) [] =
    e₅ ∙ (ap (λ (g : FrameState). steps_thread m₄ t (entered_by g (thread_at m₄.guest t)) []) new ∙ ap (λ (z : MachineState). steps_thread z t (entered_by (initializer_frame c) (thread_at z.guest t)) []) came.0) in
    let long : t < length n.guest.threads = subst (λ (ts : List ThreadState). t < length ts) (sym ((follows_each q (class_at p c).info.constants y).threads ∙ threads_after p t ks m)) thread in
    let way : IsOnWay s (steps_thread n t (entered_by (initializer_frame c) (thread_at n.guest t)) []) = on_enter_frame s n t (initializer_frame c) made.way long (λ o none. absurd (Contains-none o none)) in
    let k : Kept = (begun_by q c d).state in
    (strings_led s k m₅ (subst (λ (z : MachineState). IsOnWay s z) (sym is) way) (ap (λ (z : MachineState). kept_of z) is) made.grown (λ o low high. string_root k.guest o (made.made o low high)), came.1)

pub made_alloc : (m m' : MachineState) (out out' : List Record) (t class slots o : ℕ) → m' ≡ with_new_object m (new_object class 0 slots) → o ≡ length m.heap → out' ≡ out ++ Alloc m.guest.clock t (length m.heap) class (16 + 8 * slots) 0 ∷ []
    → out' ≡ out ++ Alloc m'.guest.clock t o class (16 + 8 * slots) 0 ∷ []
made_alloc m m' out out' t class slots o e number told = told
    ∙ (ap (λ (i : ℕ). out ++ Alloc m.guest.clock t i class (16 + 8 * slots) 0 ∷ []) (sym number)
    ∙ ap (λ (i : ℕ). out ++ Alloc i t o class (16 + 8 * slots) 0 ∷ []) (sym (ap (λ (z : MachineState). z.guest.clock) e)))

pub after_some : (p : Linked) (t : ℕ) (ks : List ℕ) (m : MachineState) → IsInOrder p → All (λ k. k < length p.classes) ks → IsSoundFor p (kept_of m) → 0 < length (after p m t ks).state.heap
after_some p t ks m has all sound =
    let grown = (made_after p t ks m has all sound).grown in
    let room = sound.held.room in
    omega arith

-- what beginning a class needs
pub begin_less : (p : Linked) (t c : ℕ) (ks : List ℕ) (m : MachineState) → fits_heap (constants_set (moment p m t) c (with_state c (Begun t) (after p m t ks))).state.heap ≡ true → fits_heap (after p m t ks).state.heap ≡ true
begin_less p t c ks m fit =
    let y = with_state c (Begun t) (after p m t ks) in
    fits_grown y.state.heap (constants_set (moment p m t) c y).state.heap (follows_each (moment p m t) (class_at p c).info.constants y).heap fit

pub base_ready : (p : Linked) (t : ℕ) (ks : List ℕ) (m m₂ : MachineState) → IsInOrder p → All (λ k. k < length p.classes) ks → IsSoundFor p (kept_of m) → m₂ ≡ base p m t ks → IsInitializing p (kept_of m₂)
base_ready p t ks m m₂ has all sound e = subst (λ (z : MachineState). IsInitializing p (kept_of z)) (sym e) (ready_after p t ks m has all sound)

pub base_state : (p : Linked) (t c : ℕ) (ks : List ℕ) (m m₂ : MachineState) → m₂ ≡ base p m t ks → class_state_at (after p m t ks).state.guest c ≡ Untouched → class_state_at m₂.guest c ≡ Untouched
base_state p t c ks m m₂ e un = ap (λ (z : MachineState). class_state_at z.guest c) e ∙ un

pub base_lost : (p : Linked) (t c : ℕ) (x : ClassState) (ks : List ℕ) (m m₂ m₃ : MachineState) → m₂ ≡ base p m t ks → m₃ ≡ marked m₂ c x → length m₃.lost < lost_room
base_lost p t c x ks m m₂ m₃ e₂ e₃ = subst (λ (l : List ℕ). length l < lost_room) (sym (ap (λ (z : MachineState). z.lost) e₃ ∙ ap (λ (z : MachineState). z.lost) e₂)) (lit< tt)

pub began_done : (p : Linked) (t c : ℕ) (ks : List ℕ) (m m' : MachineState) (out out' : List Record) → length (thread_at m.guest t).frames < most_frames → fits_heap (constants_set (moment p m t) c (with_state c (Begun t) (after p m t ks))).state.heap ≡ true
    → Led (kept_of m) (begun_by (moment p m t) c (after p m t ks)).state m' × (out' ≡ out ++ (begun_by (moment p m t) c (after p m t ks)).records) → EventAnswers (begins_class (moment p m t) c (after p m t ks)) ends.Done m m' out out'
began_done p t c ks m m' out out' lt fit h =
    let e = moment p m t in
    let d = after p m t ks in
    let lt' : length (thread_at d.state.guest t).frames < most_frames = subst (λ (ts : List ThreadState). length (get_or ts t no_thread).frames < most_frames) (sym (threads_after p t ks m)) lt in
    subst (λ (x : Outcome Kept). EventAnswers x ends.Done m m' out out') (sym (few e c d lt' ∙ ends_fit (begun_by e c d) fit)) h

pub began_full : (p : Linked) (t c : ℕ) (ks : List ℕ) (m : MachineState) (out : List Record) → length (thread_at m.guest t).frames < most_frames → fits_heap (constants_set (moment p m t) c (with_state c (Begun t) (after p m t ks))).state.heap ≡ false
    → EventAnswers (begins_class (moment p m t) c (after p m t ks)) ends.ObjectLimit m m out out
began_full p t c ks m out lt fit =
    let e = moment p m t in
    let d = after p m t ks in
    let lt' : length (thread_at d.state.guest t).frames < most_frames = subst (λ (ts : List ThreadState). length (get_or ts t no_thread).frames < most_frames) (sym (threads_after p t ks m)) lt in
    subst (λ (x : Outcome Kept). EventAnswers x ends.ObjectLimit m m out out) (sym (few e c d lt' ∙ ends_full (begun_by e c d) fit)) (refl, refl)

pub began_overflows : (p : Linked) (t c : ℕ) (ks : List ℕ) (m : MachineState) → most_frames ≤ length (thread_at m.guest t).frames → begins_class (moment p m t) c (after p m t ks) ≡ throws (moment p m t) StackOverflowError (after p m t ks)
began_overflows p t c ks m le =
    begin_overflows (moment p m t) c (after p m t ks) (subst (λ (ts : List ThreadState). most_frames ≤ length (get_or ts t no_thread).frames) (sym (threads_after p t ks m)) le)
