-- An event leads from a typed state to a typed one, or check 7 refuses it.
use Rattle.std.proofs.Common.{◌≡◌, ℕ, ◌<◌, refl, sym, subst, inl, inr}
use Rattle.std.specs.Prelude.{◌^◌}
use Rattle.std.proofs.lemmas.Bool.{cases_eq}
use Rattle.et_event.specs.Event.{event}
use Rattle.et_event.specs.Moments.{Doing, Moment, begins}
use Rattle.et_event.specs.Runnable.{IsRunnable}
use Rattle.et_event.specs.Sound.{IsSoundFor}
use Rattle.et_program.specs.Entries.{Linked}
use Rattle.et_state.specs.Outcome.{Outcome}
use Rattle.et_state.specs.Outcome as outcome
use Rattle.et_state.specs.State.{Kept}
use Rattle.et_state.specs.Words.{IsUnended, thread_at}
use Rattle.et_history.proofs.steps.Folding.{MadeOf, comes_so}
use Rattle.et_history.proofs.steps.Held.{Ready}
use Rattle.et_history.proofs.steps.Turns.{event_leads}
use Rattle.et_history.specs.steps.Steps.{Ended, Leads}
use Rattle.et_theorems.specs.typings.Typed.{AreTypings, IsTyped, IsTypedThread, KeepsTyped, Typings}
use Rattle.et_theorems.proofs.typings.Others.{KeepsOthers, steps_keep}
use Rattle.et_theorems.proofs.typings.Own.{LeavesTyped}
use Rattle.et_theorems.proofs.typings.Turns.{Known, turn_typed}

module _ (e : Moment) (typings : Typings) (k : Known e typings) where
  ready : Ready e
  ready = record { knows = record { sound = k.sound; thread = k.unended; classes = k.may.owners }; may = k.may }

  first : KeepsOthers e typings (begins e)
  first = record { others = λ t lt ne. k.typed.threads t lt; objects = k.typed.objects }

  -- what was done in steps keeps the other threads and the objects
  pub others_kept : (d : Doing) → Ended e d → KeepsOthers e typings d
  others_kept d ended = let made : MadeOf e ready d = comes_so e ready d ended in steps_keep e typings first made.phase d made.comes

  both : (next : Kept) (d : Doing) → d.state ≡ next → Ended e d → IsTypedThread e.program typings (thread_at next.guest e.thread) → IsTyped e.program typings next
  both next d is ended own =
      let kept : KeepsOthers e typings d = others_kept d ended in
      subst (λ (s : Kept). IsTyped e.program typings s) is
      (record {
        threads = λ t lt. elim (cases_eq t e.thread) [
          | inl same ↦ subst (λ (n : ℕ). IsTypedThread e.program typings (thread_at d.state.guest n)) (sym same) (subst (λ (s : Kept). IsTypedThread e.program typings (thread_at s.guest e.thread)) (sym is) own)
          | inr other ↦ kept.others t lt other
        ];
        objects = kept.objects;
      })

  pub outcome_typed : (o : Outcome Kept) → Leads e o → LeavesTyped e typings o → KeepsTyped e typings o
  outcome_typed (outcome.Goes next records) leads own = both next (record { state = next; records = records }) refl leads own
  outcome_typed (outcome.Waits next) leads own = subst (λ (s : Kept). IsTyped e.program typings s) (sym leads) (record { threads = k.typed.threads; objects = k.typed.objects })
  outcome_typed (outcome.IllTyped method pc) leads own = own
  outcome_typed outcome.ObjectLimit leads own = tt

pub event_typed : (p : Linked) (typings : Typings) (s : Kept) (t : ℕ) → IsSoundFor p s → s.guest.clock < 2 ^ 40 → IsUnended s.guest t → IsRunnable p → AreTypings p typings → IsTyped p typings s → KeepsTyped (record { program = p; before = s; thread = t }) typings (event p s t)
unfolding event
event_typed p typings s t sound clock unended may kinds typed =
    let e : Moment = record { program = p; before = s; thread = t } in
    let k : Known e typings = record { sound = sound; clock = clock; unended = unended; may = may; kinds = kinds; typed = typed } in
    outcome_typed e typings k (event p s t) (event_leads p s t sound unended may) (turn_typed e typings k)
