-- HOW A RUN ENDS, by what the two sinks took and by the counter of visits: with the history, or before. S is what a state is.
use Rattle.std.specs.Prelude.{ℕ, ◌+◌, ◌≤◌, Bool, List}
use Rattle.et_graph.specs.Graph.{Graph}
use Rattle.et_io.specs.Sink.{Log}
use Rattle.et_state.specs.declared.records.Record.{Record}
use Rattle.et_state.specs.History.{Setting}
use Rattle.et_loop.specs.declared.options.Ran.{Ran}
use Rattle.et_loop.specs.Said.{Says, SaysPrefix, IsCutSaid}
use Rattle.et_loop.specs.Traced.{WritesTrace, WritesPrefix}
use Rattle.et_loop.specs.Visits.{allowed_visits, IsCut}

module _ {S : Type 0} (reached : Graph → ℕ → Bool) (given : Setting S) (says : S → ℕ → List ℕ) (flush_visits : (ℕ → Bool) → S → ℕ) (start : S) (made : List Record) (before after heard hears : Log) (old new : ℕ) where
  -- the one sink took the trace of the history, the other what its events print, and its visits were allowed
  pub record IsOver (ran : Ran) : Type 0 where
    pub trace : WritesTrace reached given start made ran before after
    pub visits : new ≤ old + allowed_visits reached given flush_visits start made ran.event
    pub said : Says reached given says start made ran heard hears

  -- .. or each took a prefix of that, and the run was cut off in one turn, or before the first
  pub record IsCutOff : Type 0 where
    pub prefix : WritesPrefix reached given start made before after
    pub cut : IsCut reached given flush_visits start made before after old new
    pub said_prefix : SaysPrefix reached given says start made heard hears
    pub said_cut : IsCutSaid reached given says start made flush_visits heard hears old new
