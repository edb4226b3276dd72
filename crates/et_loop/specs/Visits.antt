-- How many visits of objects a run may make: at each flush as many as the guest says, eight for each event, and one for
-- each object that an event makes. S is what a state is.
use Rattle.std.specs.Prelude.{◌≡◌, ℕ, zero, suc, ◌+◌, ◌-◌, ◌*◌, ◌<◌, ◌≤◌, ◌⊎◌, Bool, true, false, if◌then◌else◌, List, ◌++◌, Option, Some, None}
use Rattle.et_base.specs.declared.value.End.{End}
use Rattle.et_graph.specs.Graph.{Graph}
use Rattle.et_state.specs.declared.records.Record.{Record}
use Rattle.et_state.specs.Outcome.{state_after}
use Rattle.et_state.specs.History.{Setting, is_flush_point, ending, outcome_step, settled, left_by, lines_to}
use Rattle.et_binary.specs.Formats.{trace_bytes}
use Rattle.et_io.specs.Sink.{Log, with_more, Stops}

-- a flush that comes only where it is due
abbrev pub due_visits : Bool → ℕ → ℕ
due_visits true visits = visits
due_visits false visits = 0

-- .. or only where it was not
abbrev pub last_visits : Bool → ℕ → ℕ
last_visits true visits = 0
last_visits false visits = visits

-- an event that makes so many objects, or one that was not done, since the history ends before it
abbrev pub event_visits : Option End → ℕ → ℕ
event_visits None made = 8 + made
event_visits (Some end) made = 8

-- a turn: the flush that may be due and the next event, or the last flush and an event that was not done
abbrev pub turn_visits : Option End → Bool → (flush made : ℕ) → ℕ
turn_visits None due flush made = due_visits due flush + (8 + made)
turn_visits (Some end) due flush made = flush + 8

module _ {S : Type 0} (given : Setting S) (e : ℕ) where
  -- the objects that are made in state s once the event after event e was done
  abbrev pub made_after : S → ℕ
  made_after s = (given.rule.graph (state_after s (outcome_step given (suc e) s))).made

  -- the event after event e, in state s
  abbrev pub visits_of_event : S → ℕ
  visits_of_event s = event_visits (ending given e s) (made_after s - (given.rule.graph s).made)

-- the turn after event e, which left s
abbrev pub visits_of_turn : {S : Type 0} → (Graph → ℕ → Bool) → Setting S → ((ℕ → Bool) → S → ℕ) → ℕ → S → ℕ
visits_of_turn reached given flush_visits e s =
    turn_visits (ending given e (settled reached given e s)) (is_flush_point given.interval e) (flush_visits (reached (given.rule.graph s)) s)
    (made_after given e (settled reached given e s) - (given.rule.graph s).made)

module _ {S : Type 0} (reached : Graph → ℕ → Bool) (given : Setting S) (flush_visits : (ℕ → Bool) → S → ℕ) (start : S) (made : List Record) where
  -- a flush after event e
  abbrev pub visits_at : ℕ → ℕ
  visits_at e = let s = left_by reached given start made e in flush_visits (reached (given.rule.graph s)) s

  -- the flushes at the multiples of the interval below event e
  unfoldable pub visits_below : ℕ → ℕ
  visits_below zero = 0
  visits_below (suc e) = visits_below e + (if is_flush_point given.interval e then visits_at e else 0)

  -- event e is the last one, and a flush follows it
  abbrev pub allowed_visits : ℕ → ℕ
  allowed_visits e = visits_below e + visits_at e + 8 * (e + 1) + ((given.rule.graph (left_by reached given start made e)).made - (given.rule.graph start).made)

  -- the turns up to the one after event e, in which the history goes on or ends
  abbrev pub visits_to : ℕ → ℕ
  visits_to e =
      visits_below e + 8 * e + ((given.rule.graph (left_by reached given start made e)).made - (given.rule.graph start).made)
      + visits_of_turn reached given flush_visits e (left_by reached given start made e)

  module _ (before after : Log) (old new : ℕ) where
    -- The run was cut off in the turn after event e: the history goes on before that event, and the sink took all these bytes,
    -- and maybe more; a put that failed is the last one. The counter of visits, which was old, allows for the turns so far and
    -- this one.
    pub record IsCutAfter (bytes : List ℕ) (e : ℕ) : Type 0 where
      pub goes : (k : ℕ) → k < e → ending given k (settled reached given k (left_by reached given start made k)) ≡ None
      pub rest : List ℕ
      pub mid : Log
      pub taken : mid ≡ with_more before (bytes ++ rest)
      pub left : List ℕ
      pub stops : Stops mid after left
      pub visits : new ≤ old + visits_to e

    -- It took all lines up to the records of that event; or it was before the first turn, and then nothing was visited.
    abbrev pub IsCut : Type 0
    IsCut = (new ≡ old) ⊎ ((e : ℕ) × IsCutAfter (trace_bytes given.format (lines_to reached given start made e)) e)
