-- What the turn does that unwinds an exception.
use Rattle.std.proofs.Common.{◌≡◌, ℕ, List, Option, Some, None, refl, sym, ◌∙◌, ap, subst}
use Rattle.std.specs.Prelude.{option_map, Result, IfOk}
use Rattle.et_code.specs.declared.body.TableRow.{TableRow}
use Rattle.et_program.specs.Entries.{Linked}
use Rattle.et_state.specs.declared.stage.Stage.{Stage}
use Rattle.et_state.specs.declared.stage.Turn.{Turn}
use Rattle.et_state.specs.declared.stage.Turn.TheVariants.{Unwind}
use Rattle.et_state.specs.Threads.{turn_of}
use Rattle.et_state.specs.State.{Kept, MachineState, kept_of}
use Rattle.et_state.specs.Words.{thread_at, top}
use Rattle.et_state.specs.declared.records.Record.{Record}
use Rattle.et_state.specs.declared.ends.EventEnd.{EventEnd}
use Rattle.et_state.specs.Outcome.{Outcome}
use Rattle.et_event.specs.Answered.{EventAnswers}
use Rattle.et_event.specs.Event.{event, does_turn}
use Rattle.et_event.specs.Moments.{Moment, moment}
use Rattle.et_event.specs.Throw.{by_handler, caught, unwinding_step, unwinds}
use Rattle.et_event.proofs.Answering.{ill_typed_answers, ill_typed_end}

-- A HANDLER OR NONE

pub by_some : (e : Moment) (o : ℕ) (x : Outcome Kept) (h : Option TableRow) (pc : ℕ) → Some pc ≡ option_map (λ (row : TableRow). row.handler) h → by_handler e o x h ≡ caught e o pc
by_some e o x None pc e₁ = cc
by_some e o x (Some row) pc e₁ = let same : pc ≡ row.handler = cc in ap (λ (k : ℕ). caught e o k) (sym same)

pub by_none : (e : Moment) (o : ℕ) (x : Outcome Kept) (h : Option TableRow) → None ≡ option_map (λ (row : TableRow). row.handler) h → by_handler e o x h ≡ x
by_none e o x None e₁ = refl
by_none e o x (Some row) e₁ = cc

-- THE TURN

step_is : (p : Linked) (m : MachineState) (t : ℕ) → turn_of (thread_at m.guest t) ≡ Unwind → event p (kept_of m) t ≡ unwinding_step (moment p m t) (thread_at m.guest t).pending
unfolding event
step_is p m t turn = ap (λ (x : Turn). does_turn (moment p m t) x) turn

unwinds_is : (p : Linked) (m : MachineState) (t o : ℕ) (stage : Stage) → turn_of (thread_at m.guest t) ≡ Unwind → (thread_at m.guest t).pending ≡ Some o → (top m.guest t).stage ≡ stage
    → event p (kept_of m) t ≡ unwinds (moment p m t) o stage
unwinds_is p m t o stage turn pending at =
    step_is p m t turn ∙ (ap (λ (q : Option ℕ). unwinding_step (moment p m t) q) pending ∙ ap (λ (x : Stage). unwinds (moment p m t) o x) at)

pub turn_answers : {E : Type 0} (p : Linked) (t o : ℕ) (stage : Stage) (m m' : MachineState) (out out' : List Record) (r : Result EventEnd E) → turn_of (thread_at m.guest t) ≡ Unwind → (thread_at m.guest t).pending ≡ Some o → (top m.guest t).stage ≡ stage
    → IfOk r (λ end. EventAnswers (unwinds (moment p m t) o stage) end m m' out out') → IfOk r (λ end. EventAnswers (event p (kept_of m) t) end m m' out out')
turn_answers p t o stage m m' out out' r turn pending at h =
    subst (λ (x : Outcome Kept). IfOk r (λ end. EventAnswers x end m m' out out')) (sym (unwinds_is p m t o stage turn pending at)) h

pub turn_ill_typed : (p : Linked) (t : ℕ) (m m' : MachineState) (out : List Record) (end : EventEnd) → turn_of (thread_at m.guest t) ≡ Unwind → (thread_at m.guest t).pending ≡ None → m' ≡ m → end ≡ ill_typed_end m' t
    → EventAnswers (event p (kept_of m) t) end m m' out out
turn_ill_typed p t m m' out end turn pending same is =
    subst (λ (x : Outcome Kept). EventAnswers x end m m' out out) (sym (step_is p m t turn ∙ ap (λ (q : Option ℕ). unwinding_step (moment p m t) q) pending)) (ill_typed_answers p t m m' out end same is)
