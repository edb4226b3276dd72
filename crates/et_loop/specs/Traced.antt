-- What a run leaves. S is what a state is.
use Rattle.std.specs.Prelude.{◌≡◌, ℕ, Bool, List}
use Rattle.et_base.specs.declared.value.End.{End}
use Rattle.et_graph.specs.Graph.{Graph}
use Rattle.et_state.specs.declared.records.Record.{Record}
use Rattle.et_state.specs.History.{Setting, IsLastEvent, trace_of}
use Rattle.et_binary.specs.Formats.{trace_bytes}
use Rattle.et_io.specs.Sink.{Log, with_more, TakesPrefix}
use Rattle.et_loop.specs.declared.options.Ran.{Ran}

module _ {S : Type 0} (reached : Graph → ℕ → Bool) (given : Setting S) (start : S) (made : List Record) where
  -- the run ended as the history does, and the sink took the trace, no more and no less
  pub record WritesTrace (ran : Ran) (before after : Log) : Type 0 where
    pub ends : IsLastEvent reached given start made ran.event ran.end
    pub taken : after ≡ with_more before (trace_bytes given.format (trace_of reached given start made ran.event ran.end))

  -- the sink took a prefix of the trace, and nothing else
  abbrev pub WritesPrefix : Log → Log → Type 0
  WritesPrefix before after = (e : ℕ) (end : End) → IsLastEvent reached given start made e end → TakesPrefix before after (trace_bytes given.format (trace_of reached given start made e end))
