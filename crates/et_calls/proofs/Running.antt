-- What the turn does in which a thread is entered.
use Rattle.std.proofs.Common.{◌≡◌, ℕ, Some, refl, ◌∙◌, ap}
use Rattle.et_heap.specs.Objects.{IsHeld}
use Rattle.et_state.specs.declared.stage.Turn.{Turn}
use Rattle.et_state.specs.declared.stage.Turn.TheVariants.{Entry}
use Rattle.et_state.specs.Threads.{turn_of}
use Rattle.et_state.specs.State.{Kept, MachineState, kept_of}
use Rattle.et_state.specs.Words.{thread_at}
use Rattle.et_state.proofs.Places.{ended_root}
use Rattle.et_program.specs.Entries.{Linked}
use Rattle.et_event.specs.Calls.{entry_call}
use Rattle.et_event.specs.Event.{event, does_turn}
use Rattle.et_event.specs.Moments.{moment}
use Rattle.et_event.specs.Sound.{IsSoundFor}
use Rattle.et_calls.specs.EntryPlans.{entry_planned}
use Rattle.et_calls.specs.Fresh.{IsFresh}
use Rattle.et_calls.specs.declared.entry.plans.EntryPlan.{EntryPlan}
use Rattle.et_calls.proofs.FirstMethods.{object_argument}

-- THE TURN, by the plan

event_is : (p : Linked) (s : Kept) (t : ℕ) → turn_of (thread_at s.guest t) ≡ Entry → event p s t ≡ entry_call (record { program = p; before = s; thread = t })
unfolding event
event_is p s t turn = ap (λ (x : Turn). does_turn (record { program = p; before = s; thread = t }) x) turn

pub planned_is : (p : Linked) (t : ℕ) (m : MachineState) (plan same : EntryPlan) → turn_of (thread_at m.guest t) ≡ Entry → entry_call (moment p m t) ≡ entry_planned (moment p m t) plan → plan ≡ same → event p (kept_of m) t ≡ entry_planned (moment p m t) same
planned_is p t m plan same turn call is = event_is p (kept_of m) t turn ∙ (call ∙ ap (λ (x : EntryPlan). entry_planned (moment p m t) x) is)

-- THE THREAD OBJECT is there

pub object_held : (p : Linked) (t o : ℕ) (m : MachineState) → IsSoundFor p (kept_of m) → IsFresh m.guest t → (thread_at m.guest t).object ≡ Some o → IsHeld m.heap o
object_held p t o m sound fresh e = sound.held.roots o (ended_root m.guest t o fresh.unended.thread fresh.unended.unended (object_argument m.guest t (Some o) e o refl))
