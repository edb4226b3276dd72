-- What the machine itself throws.
use Rattle.std.proofs.Common.{◌≡◌, ℕ, ◌<◌, Bool, true, false, List, [], ◌∷◌, ◌++◌, length, Some, None, refl, sym, ◌∙◌, ap, subst, arith, Contains, get_or-set_same, option_to_list}
use Rattle.std.specs.Prelude.{if◌then◌else◌}
use Rattle.std.proofs.lemmas.List.{length-set, length_push}
use Rattle.et_graph.specs.Graph.{IsReached}
use Rattle.et_base.proofs.Lists.{Contains-here}
use Rattle.et_heap.specs.Objects.{ObjectState, new_object}
use Rattle.et_state.specs.Threads.{FrameState, ThreadState, no_thread, with_pending, as_entered, has_frame}
use Rattle.et_state.specs.State.{GuestState, Kept, MachineState, kept_of}
use Rattle.et_state.specs.Words.{thread_at, with_thread, HasFrame, ticked, begun, steps_thread}
use Rattle.et_state.specs.Roots.{graph_of}
use Rattle.et_state.specs.Sound.{IsSound}
use Rattle.et_state.specs.Moves.{IsOnWay, Led}
use Rattle.et_state.proofs.Places.{pending_root, leads-new}
use Rattle.et_state.proofs.UnderWay.{root_is_reached}
use Rattle.et_state.proofs.Calls.{on_throw}
use Rattle.et_state.proofs.Steps.{led_made, made_on_way, newest_held, root_there}
use Rattle.et_state.specs.declared.records.Record.{Record}
use Rattle.et_state.specs.declared.ends.EventEnd.TheVariants as ends
use Rattle.et_state.specs.Outcome.{Outcome, Goes, ObjectLimit}
use Rattle.et_program.specs.Entries.{Linked, class_at}
use Rattle.et_event.specs.declared.errors.GuestError.{GuestError}
use Rattle.et_event.specs.Errors.{error_class}
use Rattle.et_event.specs.Moments.{Moment, moment, Doing, with_thread_state, begins, instance_made, pending_now, entry_given_up, next_object, ends_event as ending, fits_heap, throws}
use Rattle.et_event.specs.Answered.{EventAnswers}
use Rattle.et_event.specs.Making.{MakesObject}

-- HOW AN EVENT ENDS THAT MADE SOMETHING

pub ends_fit : (d : Doing) → fits_heap d.state.heap ≡ true → ending d ≡ Goes d.state d.records
ends_fit d e = ap (λ (b : Bool). if b then Goes d.state d.records else ObjectLimit) e

pub ends_full : (d : Doing) → fits_heap d.state.heap ≡ false → ending d ≡ ObjectLimit
ends_full d e = ap (λ (b : Bool). if b then Goes d.state d.records else ObjectLimit) e

-- A THREAD WITH A FRAME

pub framed : (fs : List FrameState) → 0 < length fs → has_frame fs ≡ true
framed [] h = absurd (omega arith)
framed (f ∷ fs) h = refl

pub not_given_up : (e : Moment) (d : Doing) → 0 < length (thread_at d.state.guest e.thread).frames → entry_given_up e d ≡ d
not_given_up e d h = ap (λ (b : Bool). if b then d else with_thread_state e (as_entered (thread_at d.state.guest e.thread)) d) (framed (thread_at d.state.guest e.thread).frames h)

-- what is thrown
abbrev thrown : Moment → GuestError → Doing
thrown e error = pending_now e (next_object (begins e)) (instance_made e (error_class e.program error) (begins e))

throws_is : (p : Linked) (t : ℕ) (m : MachineState) (error : GuestError) → HasFrame m.guest t → throws (moment p m t) error (begins (moment p m t)) ≡ ending (thrown (moment p m t) error)
throws_is p t m error has =
    let e = moment p m t in
    ap (λ (d : Doing). ending (pending_now e (next_object (begins e)) (instance_made e (error_class e.program error) d))) (not_given_up e (begins e) has.frame)

-- THE EVENT

thrown_led : (m : MachineState) (t class slots : ℕ) (m₁ m₂ m₃ : MachineState) → IsSound (kept_of m) → HasFrame m.guest t
    → m₁ ≡ record m { heap = m.heap ++ Some (new_object class 0 slots) ∷ [] } → m₂ ≡ begun m₁
    → m₃ ≡ steps_thread m₂ t (with_pending (Some (length m.heap)) (thread_at m₂.guest t)) (option_to_list (thread_at m₂.guest t).pending)
    → Led (kept_of m) (record { heap = m.heap ++ Some (new_object class 0 slots) ∷ []; guest = with_thread (ticked m.guest) t (with_pending (Some (length m.heap)) (thread_at m.guest t)) }) m₃
thrown_led m t class slots m₁ m₂ m₃ sound has e₁ e₂ e₃ =
    let n : ℕ = length m.heap in
    let y : ObjectState = new_object class 0 slots in
    let s : Kept = kept_of m in
    let b : MachineState = begun (record m { heap = m.heap ++ Some y ∷ [] }) in
    let x : ThreadState = with_pending (Some n) (thread_at m.guest t) in
    let lost : List ℕ = option_to_list (thread_at m.guest t).pending in
    let is : m₃ ≡ steps_thread b t x lost =
    e₃ ∙ ap (λ (z : MachineState). steps_thread z t (with_pending (Some n) (thread_at z.guest t)) (option_to_list (thread_at z.guest t).pending)) (e₂ ∙ ap begun e₁) in
    let w : IsOnWay s b = made_on_way m y sound (leads-new class 0 slots) refl in
    let next : IsOnWay s (steps_thread b t x lost) = on_throw s b t n w has.thread (newest_held m.heap y) (λ q c. root_there s (kept_of b) q (pending_root m.guest t q has.thread c)) in
    let g : GuestState = with_thread (ticked m.guest) t x in
    let k : Kept = record { heap = m.heap ++ Some y ∷ []; guest = g } in
    let long : t < length g.threads = subst (λ (j : ℕ). t < j) (sym (length-set m.guest.threads t x)) has.thread in
    let here : Contains (option_to_list (thread_at g t).pending) n = subst (λ (z : ThreadState). Contains (option_to_list z.pending) n) (sym (get_or-set_same m.guest.threads t x no_thread has.thread)) (Contains-here n []) in
    let reached : IsReached (graph_of k) n = root_is_reached k n (pending_root g t n long here) in
    let kept : kept_of m₃ ≡ k = ap (λ (z : MachineState). kept_of z) is in
    led_made s k m₃ (subst (λ (z : MachineState). IsOnWay s z) (sym is) next)
    (ap (λ (z : MachineState). length z.heap) is ∙ length_push m.heap (Some y)) (subst (λ (z : Kept). IsReached (graph_of z) n) (sym kept) reached) kept

pub thrown_answers : (p : Linked) (t : ℕ) (error : GuestError) (o : ℕ) (m m₁ m₂ m₃ : MachineState) (out out' : List Record) → IsSound (kept_of m) → HasFrame m.guest t
    → MakesObject (instance_made (moment p m t) (error_class p error) (begins (moment p m t))) (Some o) m m₁ out out' → m₂ ≡ begun m₁
    → m₃ ≡ steps_thread m₂ t (with_pending (Some o) (thread_at m₂.guest t)) (option_to_list (thread_at m₂.guest t).pending)
    → EventAnswers (throws (moment p m t) error (begins (moment p m t))) ends.Done m m₃ out out'
thrown_answers p t error o m m₁ m₂ m₃ out out' sound has made e₂ e₃ =
    let e : Moment = moment p m t in
    let is : throws e error (begins e) ≡ Goes (thrown e error).state (thrown e error).records = throws_is p t m error has ∙ ends_fit (thrown e error) made.0 in
    let at : m₃ ≡ steps_thread m₂ t (with_pending (Some (length m.heap)) (thread_at m₂.guest t)) (option_to_list (thread_at m₂.guest t).pending) =
    e₃ ∙ ap (λ (k : ℕ). steps_thread m₂ t (with_pending (Some k) (thread_at m₂.guest t)) (option_to_list (thread_at m₂.guest t).pending)) made.1 in
    subst (λ (x : Outcome Kept). EventAnswers x ends.Done m m₃ out out') (sym is)
    (thrown_led m t (error_class p error) (class_at p (error_class p error)).info.slots m₁ m₂ m₃ sound has made.2 e₂ at, made.3)

pub unmade_answers : (p : Linked) (t : ℕ) (error : GuestError) (m m₁ : MachineState) (out out' : List Record) → HasFrame m.guest t
    → MakesObject (instance_made (moment p m t) (error_class p error) (begins (moment p m t))) None m m₁ out out'
    → EventAnswers (throws (moment p m t) error (begins (moment p m t))) ends.ObjectLimit m m₁ out out'
unmade_answers p t error m m₁ out out' has made =
    let e : Moment = moment p m t in
    let is : throws e error (begins e) ≡ ObjectLimit = throws_is p t m error has ∙ ends_full (thrown e error) made.0 in
    subst (λ (x : Outcome Kept). EventAnswers x ends.ObjectLimit m m₁ out out') (sym is) (made.1, made.2)

-- .. of the class that has the name
pub thrown_by_name : (p : Linked) (t : ℕ) (error : GuestError) (class o : ℕ) (m m₁ m₂ m₃ : MachineState) (out out' : List Record) → IsSound (kept_of m) → HasFrame m.guest t → class ≡ error_class p error
    → MakesObject (instance_made (moment p m t) class (begins (moment p m t))) (Some o) m m₁ out out' → m₂ ≡ begun m₁
    → m₃ ≡ steps_thread m₂ t (with_pending (Some o) (thread_at m₂.guest t)) (option_to_list (thread_at m₂.guest t).pending)
    → EventAnswers (throws (moment p m t) error (begins (moment p m t))) ends.Done m m₃ out out'
thrown_by_name p t error class o m m₁ m₂ m₃ out out' sound has name made e₂ e₃ =
    thrown_answers p t error o m m₁ m₂ m₃ out out' sound has (subst (λ (k : ℕ). MakesObject (instance_made (moment p m t) k (begins (moment p m t))) (Some o) m m₁ out out') name made) e₂ e₃

pub unmade_by_name : (p : Linked) (t : ℕ) (error : GuestError) (class : ℕ) (m m₁ : MachineState) (out out' : List Record) → HasFrame m.guest t → class ≡ error_class p error
    → MakesObject (instance_made (moment p m t) class (begins (moment p m t))) None m m₁ out out'
    → EventAnswers (throws (moment p m t) error (begins (moment p m t))) ends.ObjectLimit m m₁ out out'
unmade_by_name p t error class m m₁ out out' has name made =
    unmade_answers p t error m m₁ out out' has (subst (λ (k : ℕ). MakesObject (instance_made (moment p m t) k (begins (moment p m t))) None m m₁ out out') name made)
