-- What the machine throws where a thread without a frame was to be entered.
use Rattle.std.proofs.Common.{◌≡◌, ℕ, ◌<◌, List, [], ◌∷◌, ◌++◌, length, Some, None, refl, sym, ◌∙◌, ap, subst, Contains, get_or-set_same, option_to_list}
use Rattle.std.specs.Prelude.{if◌then◌else◌}
use Rattle.std.proofs.lemmas.List.{length-set, length_push}
use Rattle.std.proofs.lemmas.List.Elements.{Contains-append_left, Contains-append_right}
use Rattle.et_graph.specs.Graph.{IsReached}
use Rattle.et_base.proofs.Lists.{Contains-here}
use Rattle.et_heap.specs.Objects.{ObjectState, new_object}
use Rattle.et_state.specs.Threads.{FrameState, ThreadState, no_thread, with_pending, as_entered, has_frame}
use Rattle.et_state.specs.State.{GuestState, Kept, MachineState, kept_of}
use Rattle.et_state.specs.Words.{thread_at, with_thread, ticked, begun, steps_thread}
use Rattle.et_state.specs.Roots.{graph_of, roots_of}
use Rattle.et_state.specs.Sound.{IsSound}
use Rattle.et_state.specs.Moves.{IsOnWay, Led}
use Rattle.et_state.proofs.Places.{ended_root, pending_root, leads-new}
use Rattle.et_state.proofs.UnderWay.{root_is_reached}
use Rattle.et_state.proofs.Calls.{on_set_entered, on_throw}
use Rattle.et_state.proofs.Steps.{led_made, made_on_way, newest_held, root_there}
use Rattle.et_state.specs.declared.records.Record.{Record}
use Rattle.et_state.specs.declared.ends.EventEnd.TheVariants as ends
use Rattle.et_state.specs.Outcome.{Outcome, Goes, ObjectLimit}
use Rattle.et_program.specs.Entries.{Linked, class_at}
use Rattle.et_event.specs.declared.errors.GuestError.{GuestError}
use Rattle.et_event.specs.Errors.{error_class}
use Rattle.et_event.specs.Moments.{Moment, moment, Doing, with_thread_state, begins, instance_made, pending_now, entry_given_up, next_object, ends_event as ending, throws}
use Rattle.et_event.specs.Answered.{EventAnswers}
use Rattle.et_event.specs.Making.{MakesObject}
use Rattle.et_event.proofs.Throwing.{ends_fit, ends_full}
use Rattle.et_calls.specs.Entering.{given_up}
use Rattle.et_calls.specs.Fresh.{IsFresh}

-- WHAT STANDS IN THE ENTRY SLOT

pub entry_root : (g : GuestState) (t o : ℕ) → IsFresh g t → Contains (option_to_list (thread_at g t).entry) o → Contains (roots_of g) o
entry_root g t o is c =
    let x : ThreadState = thread_at g t in
    ended_root g t o is.unended.thread is.unended.unended (Contains-append_right (option_to_list x.pending) _ o (Contains-append_left (option_to_list x.entry) (option_to_list x.object) o c))

pub thread_given_up : (m : MachineState) (t : ℕ) → IsFresh m.guest t → thread_at (given_up m t).guest t ≡ as_entered (thread_at m.guest t)
thread_given_up m t is = get_or-set_same m.guest.threads t (as_entered (thread_at m.guest t)) no_thread is.unended.thread

pub started_given_up : (m : MachineState) (t : ℕ) → IsFresh m.guest t → t < length (given_up m t).guest.threads
started_given_up m t is = subst (λ (n : ℕ). t < n) (sym (length-set m.guest.threads t (as_entered (thread_at m.guest t)))) is.unended.thread

-- WHAT THE TABLE SAYS

gives_up : (e : Moment) (d : Doing) → (thread_at d.state.guest e.thread).frames ≡ [] → entry_given_up e d ≡ with_thread_state e (as_entered (thread_at d.state.guest e.thread)) d
gives_up e d h = ap (λ (fs : List FrameState). if has_frame fs then d else with_thread_state e (as_entered (thread_at d.state.guest e.thread)) d) h

abbrev thrown : Moment → GuestError → Doing
thrown e error = pending_now e (next_object (begins e)) (instance_made e (error_class e.program error) (with_thread_state e (as_entered (thread_at (begins e).state.guest e.thread)) (begins e)))

throws_is : (p : Linked) (t : ℕ) (m : MachineState) (error : GuestError) → IsFresh m.guest t → throws (moment p m t) error (begins (moment p m t)) ≡ ending (thrown (moment p m t) error)
throws_is p t m error is =
    let e = moment p m t in
    ap (λ (d : Doing). ending (pending_now e (next_object (begins e)) (instance_made e (error_class e.program error) d))) (gives_up e (begins e) is.frames)

-- THE EVENT

thrown_led : (m : MachineState) (t class slots : ℕ) (m₁ m₂ m₃ m₄ : MachineState) → IsSound (kept_of m) → IsFresh m.guest t
    → m₁ ≡ record m { heap = m.heap ++ Some (new_object class 0 slots) ∷ [] } → m₂ ≡ begun m₁ → m₃ ≡ given_up m₂ t
    → m₄ ≡ steps_thread m₃ t (with_pending (Some (length m.heap)) (thread_at m₃.guest t)) (option_to_list (thread_at m₃.guest t).pending)
    → Led (kept_of m) (record { heap = m.heap ++ Some (new_object class 0 slots) ∷ []; guest = with_thread (with_thread (ticked m.guest) t (as_entered (thread_at m.guest t))) t (with_pending (Some (length m.heap)) (thread_at (with_thread (ticked m.guest) t (as_entered (thread_at m.guest t))) t)) }) m₄
thrown_led m t class slots m₁ m₂ m₃ m₄ sound fresh e₁ e₂ e₃ e₄ =
    let n : ℕ = length m.heap in
    let y : ObjectState = new_object class 0 slots in
    let s : Kept = kept_of m in
    let b : MachineState = begun (record m { heap = m.heap ++ Some y ∷ [] }) in
    let c : MachineState = given_up b t in
    let x : ThreadState = with_pending (Some n) (thread_at c.guest t) in
    let lost : List ℕ = option_to_list (thread_at c.guest t).pending in
    let now : m₃ ≡ c = e₃ ∙ ap (λ (z : MachineState). given_up z t) (e₂ ∙ ap begun e₁) in
    let is : m₄ ≡ steps_thread c t x lost = e₄ ∙ ap (λ (z : MachineState). steps_thread z t (with_pending (Some n) (thread_at z.guest t)) (option_to_list (thread_at z.guest t).pending)) now in
    let w : IsOnWay s b = made_on_way m y sound (leads-new class 0 slots) refl in
    let w₂ : IsOnWay s c = on_set_entered s b t w (record { thread = fresh.unended.thread; unended = fresh.unended.unended }) (λ q z. root_there s (kept_of b) q (entry_root m.guest t q fresh z)) in
    let on : IsFresh b.guest t = record { unended = record { thread = fresh.unended.thread; unended = fresh.unended.unended }; frames = fresh.frames } in
    let started : t < length c.guest.threads = started_given_up b t on in
    let same : thread_at c.guest t ≡ as_entered (thread_at m.guest t) = thread_given_up b t on in
    let next : IsOnWay s (steps_thread c t x lost) =
    on_throw s c t n w₂ started (newest_held m.heap y) (λ q z. root_there s (kept_of c) q (pending_root m.guest t q fresh.unended.thread (subst (λ (u : ThreadState). Contains (option_to_list u.pending) q) same z))) in
    let g : GuestState = with_thread c.guest t x in
    let k : Kept = record { heap = m.heap ++ Some y ∷ []; guest = g } in
    let long : t < length g.threads = subst (λ (j : ℕ). t < j) (sym (length-set c.guest.threads t x)) started in
    let here : Contains (option_to_list (thread_at g t).pending) n = subst (λ (z : ThreadState). Contains (option_to_list z.pending) n) (sym (get_or-set_same c.guest.threads t x no_thread started)) (Contains-here n []) in
    let reached : IsReached (graph_of k) n = root_is_reached k n (pending_root g t n long here) in
    let kept : kept_of m₄ ≡ k = ap (λ (z : MachineState). kept_of z) is in
    led_made s k m₄ (subst (λ (z : MachineState). IsOnWay s z) (sym is) next)
    (ap (λ (z : MachineState). length z.heap) is ∙ length_push m.heap (Some y)) (subst (λ (z : Kept). IsReached (graph_of z) n) (sym kept) reached) kept

pub thrown_answers : (p : Linked) (t : ℕ) (error : GuestError) (class o : ℕ) (m m₁ m₂ m₃ m₄ : MachineState) (out out' : List Record) → IsSound (kept_of m) → IsFresh m.guest t → class ≡ error_class p error
    → MakesObject (instance_made (moment p m t) class (begins (moment p m t))) (Some o) m m₁ out out' → m₂ ≡ begun m₁ → m₃ ≡ given_up m₂ t
    → m₄ ≡ steps_thread m₃ t (with_pending (Some o) (thread_at m₃.guest t)) (option_to_list (thread_at m₃.guest t).pending)
    → EventAnswers (throws (moment p m t) error (begins (moment p m t))) ends.Done m m₄ out out'
thrown_answers p t error class o m m₁ m₂ m₃ m₄ out out' sound fresh name made e₂ e₃ e₄ =
    let e : Moment = moment p m t in
    let named = subst (λ (k : ℕ). MakesObject (instance_made e k (begins e)) (Some o) m m₁ out out') name made in
    let is : throws e error (begins e) ≡ Goes (thrown e error).state (thrown e error).records = throws_is p t m error fresh ∙ ends_fit (thrown e error) named.0 in
    let at : m₄ ≡ steps_thread m₃ t (with_pending (Some (length m.heap)) (thread_at m₃.guest t)) (option_to_list (thread_at m₃.guest t).pending) =
    e₄ ∙ ap (λ (k : ℕ). steps_thread m₃ t (with_pending (Some k) (thread_at m₃.guest t)) (option_to_list (thread_at m₃.guest t).pending)) named.1 in
    subst (λ (x : Outcome Kept). EventAnswers x ends.Done m m₄ out out') (sym is)
    (thrown_led m t (error_class p error) (class_at p (error_class p error)).info.slots m₁ m₂ m₃ m₄ sound fresh named.2 e₂ e₃ at, named.3)

pub unmade_answers : (p : Linked) (t : ℕ) (error : GuestError) (class : ℕ) (m m₁ : MachineState) (out out' : List Record) → IsFresh m.guest t → class ≡ error_class p error
    → MakesObject (instance_made (moment p m t) class (begins (moment p m t))) None m m₁ out out'
    → EventAnswers (throws (moment p m t) error (begins (moment p m t))) ends.ObjectLimit m m₁ out out'
unmade_answers p t error class m m₁ out out' fresh name made =
    let e : Moment = moment p m t in
    let named = subst (λ (k : ℕ). MakesObject (instance_made e k (begins e)) None m m₁ out out') name made in
    let is : throws e error (begins e) ≡ ObjectLimit = throws_is p t m error fresh ∙ ends_full (thrown e error) named.0 in
    subst (λ (x : Outcome Kept). EventAnswers x ends.ObjectLimit m m₁ out out') (sym is) (named.1, named.2)
