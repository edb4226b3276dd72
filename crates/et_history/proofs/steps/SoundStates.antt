-- Where both halves meet: what is referred to is held after an event, and then the next state is sound.
use Rattle.std.proofs.Common.{ℕ, ◌<◌, ◌^◌, sym, subst}
use Rattle.et_program.specs.Entries.{Linked}
use Rattle.et_state.specs.Outcome.{Outcome}
use Rattle.et_state.specs.Outcome as outcome
use Rattle.et_state.specs.Sound.{IsSound}
use Rattle.et_state.specs.State.{Kept}
use Rattle.et_state.specs.Words.{IsUnended}
use Rattle.et_event.specs.Event.{event}
use Rattle.et_event.specs.Runnable.{IsRunnable}
use Rattle.et_event.specs.Sound.{IsSoundFor}
use Rattle.et_history.specs.soundness.Outcomes.{KeepsSound}
use Rattle.et_history.proofs.soundness.Turning.{event_sound}
use Rattle.et_history.specs.steps.Changing.{KeepsMonitors, LeadsToSound}
use Rattle.et_history.proofs.steps.MonitorRows.{event_keeps_monitors}

pub leads : (p : Linked) (s : Kept) (t : ℕ) (o : Outcome Kept) → IsSound s → KeepsMonitors (record { program = p; before = s; thread = t }) o → KeepsSound p o → LeadsToSound p o
leads p s t (outcome.Goes next records) held h keeps = keeps h.changes.sound
leads p s t (outcome.Waits next) held h keeps = keeps (subst (λ (x : Kept). IsSound x) (sym h) (record { room = held.room; none = held.none; roots = held.roots; slots = held.slots; referents = held.referents }))
leads p s t (outcome.IllTyped method pc) held h keeps = tt
leads p s t outcome.ObjectLimit held h keeps = tt

pub event_leads_to_sound : (p : Linked) (s : Kept) (t : ℕ) → IsSoundFor p s → s.guest.clock < 2 ^ 40 → IsUnended s.guest t → IsRunnable p → LeadsToSound p (event p s t)
event_leads_to_sound p s t sound few unended may = leads p s t (event p s t) sound.held (event_keeps_monitors p s t sound unended may) (event_sound p s t sound few unended may)
