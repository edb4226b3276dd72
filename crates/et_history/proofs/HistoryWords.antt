-- THE WORDS OF A HISTORY in which nothing is freed: the state that event e left, and the settled one; and of the event after it the
-- thread, and what it leads to.
use Rattle.std.proofs.Common.{ℕ, suc, Bool}
use Rattle.et_graph.specs.Graph.{Graph}
use Rattle.et_program.specs.Entries.{Linked}
use Rattle.et_state.specs.State.{Kept, State}
use Rattle.et_state.specs.Outcome.{Outcome}
use Rattle.et_state.specs.declared.options.Options.{Options}
use Rattle.et_state.specs.History as history
use Rattle.et_event.specs.Told.{event_with_texts}
use Rattle.et_history.specs.Histories.{picked, whole_at, whole_settled_at}

pub record HistoryWords : Type 0 where
  pub now : ℕ → State
  pub settled : ℕ → State
  pub turn : ℕ → ℕ
  pub step : ℕ → Outcome Kept

abbrev pub history_words : (Graph → ℕ → Bool) → Linked → Options → (ℕ → ℕ) → HistoryWords
history_words reached p options pick =
    let before : ℕ → Kept = λ e. (whole_settled_at reached p options pick e).kept in
    let thread : ℕ → ℕ = λ e. history.picked_turn (picked p options pick) (suc e) (before e) in
    record {
      now = λ e. whole_at reached p options pick e;
      settled = λ e. whole_settled_at reached p options pick e;
      turn = thread;
      step = λ e. event_with_texts p (before e) (thread e);
    }
