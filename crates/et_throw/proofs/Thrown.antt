-- `athrow`.
use Rattle.std.proofs.Common.{◌≡◌, ℕ, Bool, true, false, List, [], ◌∷◌, length, get_or, Some, None, option_to_list, sym, ◌∙◌, ap, subst, append-nil}
use Rattle.std.specs.Prelude.{Result, IfOk}
use Rattle.et_event.proofs.Referred.{no_reference}
use Rattle.et_base.specs.declared.value.Value.{Value}
use Rattle.et_base.specs.declared.value.Value.TheVariants.{Unset, Int, Long, LongHigh, Null, Ref}
use Rattle.et_heap.specs.Objects.{IsHeld}
use Rattle.et_program.specs.Entries.{Linked}
use Rattle.et_state.specs.Threads.{operand_of, with_pending}
use Rattle.et_state.specs.State.{Kept, MachineState, kept_of}
use Rattle.et_state.specs.Words.{thread_at, with_thread, top, HasFrame, ticked, begun, steps_thread}
use Rattle.et_state.specs.Sound.{IsSound}
use Rattle.et_state.specs.Moves.{IsOnWay, Led}
use Rattle.et_state.proofs.Places.{pending_root}
use Rattle.et_state.proofs.Calls.{on_begin_event, on_throw}
use Rattle.et_state.proofs.Steps.{led_plain, root_there}
use Rattle.et_state.specs.declared.records.Record.{Record}
use Rattle.et_state.specs.declared.ends.EventEnd.{EventEnd}
use Rattle.et_state.specs.declared.ends.EventEnd.TheVariants as ends
use Rattle.et_state.specs.Outcome.{Outcome}
use Rattle.et_event.specs.declared.errors.GuestError.TheVariants.{NullPointerException}
use Rattle.et_event.specs.Answered.{EventAnswers}
use Rattle.et_event.specs.Checks.{Reference, with_reference, not_null, ill_typed_unless}
use Rattle.et_event.specs.Moments.{Moment, moment, begins, ill_typed, goes, pending_now, throws}
use Rattle.et_event.specs.Throw.{throw, is_throwable}
use Rattle.et_event.specs.Tops.{entry_reference}
use Rattle.et_event.proofs.Answering.{ill_typed_answers, ill_typed_end}

-- THE REFERENCE ON TOP

pub reference_taken : {A : Type 0} (refused : A) (go : Reference → List Value → A) (ops : List Value) (r : Reference) → entry_reference (get_or ops 0 Unset) ≡ Some r → (below : List Value) × (with_reference refused ops go ≡ go r below)
reference_taken refused go [] r e = cc
reference_taken refused go (Unset ∷ below) r e = cc
reference_taken refused go (Int n ∷ below) r e = cc
reference_taken refused go (Long n ∷ below) r e = cc
reference_taken refused go (LongHigh ∷ below) r e = cc
reference_taken {A} refused go (Null ∷ below) r e = let same : None ≡ r = cc in (below, ap (λ (x : Reference). go x below) same)
reference_taken {A} refused go (Ref o ∷ below) r e = let same : Some o ≡ r = cc in (below, ap (λ (x : Reference). go x below) same)

-- THE EVENT

pub thrown_led : (m : MachineState) (t o : ℕ) (m₁ m₂ : MachineState) → IsSound (kept_of m) → HasFrame m.guest t → IsHeld m.heap o → m₁ ≡ begun m
    → m₂ ≡ steps_thread m₁ t (with_pending (Some o) (thread_at m₁.guest t)) (option_to_list (thread_at m₁.guest t).pending)
    → Led (kept_of m) (record { heap = m.heap; guest = with_thread (ticked m.guest) t (with_pending (Some o) (thread_at m.guest t)) }) m₂
thrown_led m t o m₁ m₂ sound has held e₁ e₂ =
    let s : Kept = kept_of m in
    let b : MachineState = begun m in
    let is : m₂ ≡ steps_thread b t (with_pending (Some o) (thread_at b.guest t)) (option_to_list (thread_at b.guest t).pending) =
    e₂ ∙ ap (λ (n : MachineState). steps_thread n t (with_pending (Some o) (thread_at n.guest t)) (option_to_list (thread_at n.guest t).pending)) e₁ in
    let w : IsOnWay s (steps_thread b t (with_pending (Some o) (thread_at b.guest t)) (option_to_list (thread_at b.guest t).pending)) =
    on_throw s b t o (on_begin_event m sound) has.thread held (λ q c. root_there s (kept_of b) q (pending_root m.guest t q has.thread c)) in
    led_plain s _ m₂ (subst (λ (n : MachineState). IsOnWay s n) (sym is) w) (ap (λ (n : MachineState). length n.heap) is) (ap (λ (n : MachineState). kept_of n) is)

-- what it does with a reference
abbrev throws_reference : Moment → Reference → Outcome Kept
throws_reference e r = not_null e (begins e) r (λ o. ill_typed_unless e (is_throwable e o) (goes (pending_now e o (begins e))))

throws_it : (p : Linked) (m : MachineState) (t : ℕ) (r : Reference) → entry_reference (operand_of (top m.guest t) 0) ≡ Some r → throw (moment p m t) ≡ throws_reference (moment p m t) r
throws_it p m t r e = (reference_taken (ill_typed (moment p m t)) (λ x below. throws_reference (moment p m t) x) (top m.guest t).operands r e).1

pub thrown_by_null : {E : Type 0} (p : Linked) (t : ℕ) (m m' : MachineState) (out out' : List Record) (r : Result EventEnd E) → entry_reference (operand_of (top m.guest t) 0) ≡ Some None
    → IfOk r (λ end. EventAnswers (throws (moment p m t) NullPointerException (begins (moment p m t))) end m m' out out') → IfOk r (λ end. EventAnswers (throw (moment p m t)) end m m' out out')
thrown_by_null p t m m' out out' r e h = subst (λ (x : Outcome Kept). IfOk r (λ end. EventAnswers x end m m' out out')) (sym (throws_it p m t None e)) h

pub thrown_answers : (p : Linked) (t o : ℕ) (m m' : MachineState) (out : List Record) → entry_reference (operand_of (top m.guest t) 0) ≡ Some (Some o) → is_throwable (moment p m t) o ≡ true
    → Led (kept_of m) (record { heap = m.heap; guest = with_thread (ticked m.guest) t (with_pending (Some o) (thread_at m.guest t)) }) m'
    → EventAnswers (throw (moment p m t)) ends.Done m m' out out
thrown_answers p t o m m' out e throwable led =
    let e₁ : Moment = moment p m t in
    subst (λ (x : Outcome Kept). EventAnswers x ends.Done m m' out out) (sym (throws_it p m t (Some o) e))
    (subst (λ (b : Bool). EventAnswers (ill_typed_unless e₁ b (goes (pending_now e₁ o (begins e₁)))) ends.Done m m' out out) (sym throwable) (led, sym (append-nil out)))

pub no_throwable : (p : Linked) (t o : ℕ) (m m' : MachineState) (out : List Record) (end : EventEnd) → entry_reference (operand_of (top m.guest t) 0) ≡ Some (Some o) → is_throwable (moment p m t) o ≡ false → m' ≡ m → end ≡ ill_typed_end m' t
    → EventAnswers (throw (moment p m t)) end m m' out out
no_throwable p t o m m' out end e throwable same is =
    let e₁ : Moment = moment p m t in
    subst (λ (x : Outcome Kept). EventAnswers x end m m' out out) (sym (throws_it p m t (Some o) e))
    (subst (λ (b : Bool). EventAnswers (ill_typed_unless e₁ b (goes (pending_now e₁ o (begins e₁)))) end m m' out out) (sym throwable) (ill_typed_answers p t m m' out end same is))

pub nothing_thrown : (p : Linked) (t : ℕ) (m m' : MachineState) (out : List Record) (end : EventEnd) → entry_reference (operand_of (top m.guest t) 0) ≡ None → m' ≡ m → end ≡ ill_typed_end m' t
    → EventAnswers (throw (moment p m t)) end m m' out out
nothing_thrown p t m m' out end e same is =
    subst (λ (x : Outcome Kept). EventAnswers x end m m' out out) (sym (no_reference (ill_typed (moment p m t)) (λ x below. throws_reference (moment p m t) x) (top m.guest t).operands e)) (ill_typed_answers p t m m' out end same is)
