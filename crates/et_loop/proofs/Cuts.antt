-- A run that is cut off in a turn.
use Rattle.std.proofs.Common.{◌≡◌, ℕ, ◌+◌, ◌<◌, ◌≤◌, Bool, List, None, ◌∙◌, ap, inl, inr}
use Rattle.et_io.proofs.Taking.{with_more-with_more}
use Rattle.et_graph.specs.Graph.{Graph}
use Rattle.et_io.specs.Sink.{Log, with_more, TakesPrefix}
use Rattle.et_state.specs.declared.records.Record.{Record}
use Rattle.et_state.specs.Naming.{Mentions}
use Rattle.et_state.specs.History.{Setting, ending, left_by, lines_to, settled}
use Rattle.et_binary.specs.Formats.{trace_bytes}
use Rattle.et_loop.specs.Run.{Breaks}
use Rattle.et_loop.specs.Visits.{visits_to, IsCut, IsCutAfter}
use Rattle.et_loop.proofs.Headers.{lines_whole}
use Rattle.et_loop.proofs.RunLemmas.{Running}

module _ {S : Type 0} (reached : Graph → ℕ → Bool) (given : Setting S) (flush_visits : (ℕ → Bool) → S → ℕ) (start : S) (made : List Record) (before : Log) (old new : ℕ) where
  -- in a put, where these bytes were taken before it
  pub cut_in_put : (bytes : List ℕ) (e : ℕ) (now after : Log) (piece : List ℕ) → ((k : ℕ) → k < e → ending given k (settled reached given k (left_by reached given start made k)) ≡ None) → now ≡ with_more before bytes → TakesPrefix now after piece → new ≤ old + visits_to reached given flush_visits start made e
      → IsCutAfter reached given flush_visits start made before after old new bytes e
  cut_in_put bytes e now after piece goes so_far h few = record {
    goes = goes;
    rest = h.takes.prefix;
    mid = h.mid;
    taken = h.takes.taken ∙ (ap (λ (t : Log). with_more t h.takes.prefix) so_far ∙ with_more-with_more before bytes h.takes.prefix);
    left = h.rest;
    stops = h.stops;
    visits = few;
  }

  module _ (e : ℕ) (s : S) (last : ℕ → ℕ) (m : Mentions) (now : Log) (runs : Running reached given start made e s last m before now) (few : new ≤ old + visits_to reached given flush_visits start made e) where
    -- what was taken so far
    taken_is : now ≡ with_more before (trace_bytes given.format (lines_to reached given start made e))
    taken_is = runs.lines ∙ ap (λ (bytes : List ℕ). with_more before bytes) (lines_whole reached given start made given.format e)

    -- in a put of the lines of the turn
    pub cut_putting : (after : Log) (piece : List ℕ) → TakesPrefix now after piece → IsCut reached given flush_visits start made before after old new
    cut_putting after piece h = inr (e, cut_in_put (trace_bytes given.format (lines_to reached given start made e)) e now after piece runs.first taken_is h few)

    -- .. or in the midst of its flush, or of the last lines
    pub cut_broken : (from : S) (noted : ℕ → ℕ) (after : Log) (out : List ℕ) → Breaks reached given e from noted now after out → IsCut reached given flush_visits start made before after old new
    cut_broken from noted after out (inl h) = cut_putting after _ h
    cut_broken from noted after out (inr h) = cut_putting after _ h.1.takes
