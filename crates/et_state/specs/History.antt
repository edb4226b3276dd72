-- The history of a run, the deaths at its flushes and its trace, for any rule of events. S is what a state is.
use Rattle.std.specs.Prelude.{◌≡◌, ℕ, zero, suc, ◌%◌, ◌<◌, Bool, ◌||◌, ◌==◌, if◌then◌else◌, List, [], ◌∷◌, ◌++◌, Option, Some, None, length, map, slice_index}
use Rattle.std.specs.List.{list_any}
use Rattle.et_base.specs.declared.format.Format.{Format}
use Rattle.et_base.specs.declared.line.TraceLine.{TraceLine}
use Rattle.et_base.specs.declared.line.TraceLine.TheVariants.{Header, Flush, Death, Finish}
use Rattle.et_base.specs.declared.value.End.{End}
use Rattle.et_base.specs.declared.value.End.TheVariants.{Finished, EventLimit, IllTyped, ObjectLimit}
use Rattle.et_graph.specs.Graph.{Graph}
use Rattle.et_state.specs.declared.records.Record.{Record}
use Rattle.et_state.specs.Outcome.{Outcome, state_after, records_of, end_by}
use Rattle.et_text.specs.Ranges.{header_version}
pub use Rattle.et_text.specs.Rules.{is_flush_point}
use Rattle.et_state.specs.Naming.{Names, Mentions, nothing_mentioned, mentions_after, lines_of}

-- the rule of events
pub record Rule (S : Type 0) : Type 0 where
  -- what an event of a thread leads to from a state
  pub event : S → ℕ → Outcome S
  -- the threads that have not ended, in order of start
  pub unended : S → List ℕ
  -- the objects made, the root places, what objects lead to, and the objects that were reported
  pub graph : S → Graph
  -- what a flush leaves, where the test says of each object whether it is reached
  pub flushed : (ℕ → Bool) → S → S

-- what a run is given
pub record Setting (S : Type 0) : Type 0 where
  pub rule : Rule S
  pub names : Names
  -- a number for each event: of r threads that have not ended, the one at this number modulo r has the turn
  pub pick : ℕ → ℕ
  -- a flush comes after each multiple of this event, or only after the last event where it is 0
  pub interval : ℕ
  -- the greatest number of events
  pub limit : ℕ
  -- the spelling of the trace
  pub format : Format

-- the object was reported
abbrev pub is_gone : Graph → ℕ → Bool
is_gone g o = list_any (λ x. x == o) g.gone

-- of the objects up to o, in rising order, those that are neither here nor gone, each with a time
abbrev pub deaths_to : (ℕ → Bool) → (ℕ → Bool) → (ℕ → ℕ) → ℕ → List (ℕ × ℕ)
deaths_to here gone time zero = []
deaths_to here gone time (suc o) = deaths_to here gone time o ++ (if here (suc o) || gone (suc o) then [] else (suc o, time (suc o)) ∷ [])

-- an F line with the number of deaths, and a D line for each
abbrev pub flush_lines : ℕ → List (ℕ × ℕ) → List TraceLine
flush_lines e deaths = Flush e (length deaths) ∷ map (λ d. Death d.0 d.1) deaths

-- how a Z line spells the end
abbrev pub how_of : End → ℕ
how_of Finished = 0
how_of EventLimit = 1
how_of (IllTyped thread method pc) = 2
how_of ObjectLimit = 3

module _ {S : Type 0} where
  -- the thread that has the turn at event e, in the state before it
  abbrev pub picked_turn : Setting S → ℕ → S → ℕ
  picked_turn given e s = slice_index (given.rule.unended s) (given.pick e % length (given.rule.unended s))

  -- what event e leads to from the state before it
  abbrev pub outcome_step : Setting S → ℕ → S → Outcome S
  outcome_step given e s = given.rule.event s (picked_turn given e s)

  -- how the history ends after event e in state s, if it does
  abbrev pub ending : Setting S → ℕ → S → Option End
  ending given e s =
      if length (given.rule.unended s) == 0 then Some Finished
      else (if e == given.limit then Some EventLimit else end_by (picked_turn given (suc e) s) (outcome_step given (suc e) s))

module _ {S : Type 0} (reached : Graph → ℕ → Bool) (given : Setting S) where
  -- a state that event e left, after the flush there, if one is due
  abbrev pub settled : ℕ → S → S
  settled e s = if is_flush_point given.interval e then given.rule.flushed (reached (given.rule.graph s)) s else s

-- The history from a starting state, whose own records are `made`. `reached` is a test that decides reachability.
module _ {S : Type 0} (reached : Graph → ℕ → Bool) (given : Setting S) (start : S) (made : List Record) where
  -- the state that event e left, before any flush there
  unfoldable pub left_by : ℕ → S
  left_by zero = start
  left_by (suc e) = state_after (settled reached given e (left_by e)) (outcome_step given (suc e) (settled reached given e (left_by e)))

  -- the records of event e, which leads from the state after event e - 1
  abbrev pub records_at : ℕ → List Record
  records_at zero = made
  records_at (suc e) = records_of (outcome_step given (suc e) (settled reached given e (left_by e)))

  -- event e is the last one, and the history ends so
  pub record IsLastEvent (e : ℕ) (end : End) : Type 0 where
    pub ends : ending given e (settled reached given e (left_by e)) ≡ Some end
    pub first : (k : ℕ) → k < e → ending given k (settled reached given k (left_by k)) ≡ None

  -- the greatest event up to e that left a state in which o is reached, found by trying each
  unfoldable pub last_reached : ℕ → ℕ → ℕ
  last_reached o zero = zero
  last_reached o (suc e) = if reached (given.rule.graph (left_by (suc e))) o then suc e else last_reached o e

  -- the deaths of a flush after event e: each object made that is neither reached nor reported before, with the last
  -- event at which it was reached
  abbrev pub deaths : ℕ → List (ℕ × ℕ)
  deaths e =
      let g = given.rule.graph (left_by e) in
      deaths_to (reached g) (is_gone g) (λ o. last_reached o e) g.made

  -- what the lines up to the records of event e mention
  unfoldable pub mentions_to : ℕ → Mentions
  mentions_to zero = mentions_after given.names nothing_mentioned made
  mentions_to (suc e) = mentions_after given.names (mentions_to e) (records_at (suc e))

  -- the lines up to the records of event e
  unfoldable pub lines_to : ℕ → List TraceLine
  lines_to zero = Header (header_version given.format) given.interval ∷ lines_of given.names nothing_mentioned made
  lines_to (suc e) =
      lines_to e ++ (if is_flush_point given.interval e then flush_lines e (deaths e) else [])
      ++ lines_of given.names (mentions_to e) (records_at (suc e))

  -- the trace, where event e is the last one: a flush comes after it in any case
  abbrev pub trace_of : ℕ → End → List TraceLine
  trace_of e end = lines_to e ++ flush_lines e (deaths e) ++ Finish e (how_of end) ∷ []
