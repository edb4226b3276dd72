-- The parts of one turn of a run's loop, and what a run leaves. S is what a state is.
use Rattle.std.specs.Prelude.{◌≡◌, ℕ, suc, ◌⊎◌, Bool, true, false, if◌then◌else◌, List, [], ◌∷◌, ◌++◌, Option, Some, None, slice_index}
use Rattle.et_base.specs.declared.format.Format.{Format}
use Rattle.et_base.specs.declared.line.TraceLine.{TraceLine}
use Rattle.et_base.specs.declared.line.TraceLine.TheVariants.{Finish}
use Rattle.et_base.specs.declared.value.End.{End}
use Rattle.et_base.specs.declared.value.End.TheVariants.{IllTyped, ObjectLimit}
use Rattle.et_io.specs.Sink.{Log, TakesUpTo, TakesPrefix}
use Rattle.et_graph.specs.Graph.{Graph}
use Rattle.et_graph.specs.Listed.{AreListed}
use Rattle.et_state.specs.declared.records.Record.{Record}
use Rattle.et_state.specs.declared.ends.EventEnd.{EventEnd}
use Rattle.et_state.specs.declared.ends.EventEnd.TheVariants as ends
use Rattle.et_state.specs.Outcome.{state_after, records_of}
use Rattle.et_state.specs.Naming.{Mentions, mentions_after, lines_of}
use Rattle.et_state.specs.History.{Setting, flush_lines, deaths_to, is_gone, is_flush_point, how_of, ending, outcome_step, settled}
use Rattle.et_binary.specs.Formats.{lines_written_in}
use Rattle.et_loop.specs.declared.options.Ran.{Ran}

-- the last event noted for an object, after this event was noted for those that are here
abbrev pub time_noted : (ℕ → Bool) → (ℕ → ℕ) → ℕ → ℕ → ℕ
time_noted here last e o = if here o then e else last o

-- the lines of a flush after event e, by which objects are here and when each was last
abbrev pub flush_of : (ℕ → Bool) → (ℕ → ℕ) → ℕ → Graph → List TraceLine
flush_of here last e g = flush_lines e (deaths_to here (is_gone g) last g.made)

-- what is written where a flush is due
abbrev pub due_lines : Bool → List TraceLine → List TraceLine
due_lines true lines = lines
due_lines false lines = []

-- .. and the state that is left
abbrev pub due_state : {S : Type 0} → Bool → S → S → S
due_state true after s = after
due_state false after s = s

-- what is written at the end, where a flush was due before or not
abbrev pub last_lines : Bool → End → ℕ → List TraceLine → List TraceLine
last_lines true end e lines = Finish e (how_of end) ∷ []
last_lines false end e lines = lines ++ Finish e (how_of end) ∷ []

-- A flush after event e, where one is due, of a graph g with these stamps: its lines stand behind those that were in the buffer.
-- The sink took all of these but what is in the buffer now.
pub record PutsFlush (g : Graph) (stamps : List ℕ) (format : Format) (due : Bool) (e : ℕ) (taken taken' : Log) (old new : List ℕ) : Type 0 where
  pub bytes : List ℕ
  pub lines : (deaths : List (ℕ × ℕ)) → (due ≡ true → AreListed g (slice_index stamps) deaths) → bytes ≡ lines_written_in format (due_lines due (flush_lines e deaths))
  pub put : TakesUpTo taken taken' (old ++ bytes) new

-- .. and what is written at the end, where a flush was due before or not
pub record PutsLast (g : Graph) (stamps : List ℕ) (format : Format) (due : Bool) (ran : Ran) (taken taken' : Log) (old new : List ℕ) : Type 0 where
  pub bytes : List ℕ
  pub lines : (deaths : List (ℕ × ℕ)) → (due ≡ false → AreListed g (slice_index stamps) deaths) → bytes ≡ lines_written_in format (last_lines due ran.end ran.event (flush_lines ran.event deaths))
  pub put : TakesUpTo taken taken' (old ++ bytes) new

-- how the history ends, if it does, where an event of the thread went so
abbrev pub end_after : ℕ → EventEnd → Option End
end_after thread ends.Done = None
end_after thread ends.Waited = None
end_after thread (ends.IllTyped method pc) = Some (IllTyped thread method pc)
end_after thread ends.ObjectLimit = Some ObjectLimit
end_after thread (ends.Native method) = None

module _ {S : Type 0} (given : Setting S) (e : ℕ) (s : S) (m : Mentions) (s' : S) (m' : Mentions) (out out' : List ℕ) where
  -- the event after event e is done in state s
  pub record StepsTo : Type 0 where
    pub goes : ending given e s ≡ None
    pub state : s' ≡ state_after s (outcome_step given (suc e) s)
    pub mentions : m' ≡ mentions_after given.names m (records_of (outcome_step given (suc e) s))
    pub lines : out' ≡ out ++ lines_written_in given.format (lines_of given.names m (records_of (outcome_step given (suc e) s)))

  -- the history ends after event e
  pub record StopsAt (end : End) : Type 0 where
    pub ends : ending given e s ≡ Some end
    pub state : s' ≡ s
    pub mentions : m' ≡ m
    pub lines : out' ≡ out

  abbrev pub Goes : Option End → Type 0
  Goes None = StepsTo
  Goes (Some end) = StopsAt end

module _ {S : Type 0} (reached : Graph → ℕ → Bool) (given : Setting S) (e : ℕ) (s : S) (last : ℕ → ℕ) where
  -- the records of the event after event e, which left s
  abbrev pub records_next : List Record
  records_next = records_of (outcome_step given (suc e) (settled reached given e s))

  -- the lines of a flush after event e
  abbrev pub flush_now : List TraceLine
  flush_now = flush_of (reached (given.rule.graph s)) (time_noted (reached (given.rule.graph s)) last e) e (given.rule.graph s)

  module _ (m : Mentions) (s' : S) (last' : ℕ → ℕ) (m' : Mentions) (out out' : List ℕ) where
    -- one turn of the loop, after event e left s
    pub record Advances : Type 0 where
      pub goes : ending given e (settled reached given e s) ≡ None
      pub state : s' ≡ state_after (settled reached given e s) (outcome_step given (suc e) (settled reached given e s))
      pub notes : (o : ℕ) → last' o ≡ time_noted (reached (given.rule.graph s)) last e o
      pub mentions : m' ≡ mentions_after given.names m records_next
      pub lines : out' ≡ out ++ lines_written_in given.format (due_lines (is_flush_point given.interval e) flush_now ++ lines_of given.names m records_next)

    -- the last turn
    pub record Concludes (end : End) : Type 0 where
      pub ends : ending given e (settled reached given e s) ≡ Some end
      pub lines : out' ≡ out ++ lines_written_in given.format (flush_now ++ Finish e (how_of end) ∷ [])

    abbrev pub Turns : Option End → Type 0
    Turns None = Advances
    Turns (Some end) = Concludes end

  module _ (taken taken' : Log) (out : List ℕ) where
    -- The turn was broken off, with `out` in the buffer before it: of that and of the lines of the flush, if one is due, the sink
    -- took the first ones.
    abbrev pub BreaksFlush : Type 0
    BreaksFlush = TakesPrefix taken taken' (out ++ lines_written_in given.format (due_lines (is_flush_point given.interval e) flush_now))

    -- .. or the history ends, and so it is with the lines of the last turn
    pub record BreaksLast (end : End) : Type 0 where
      pub ends : ending given e (settled reached given e s) ≡ Some end
      pub takes : TakesPrefix taken taken' (out ++ lines_written_in given.format (flush_now ++ Finish e (how_of end) ∷ []))

    abbrev pub Breaks : Type 0
    Breaks = BreaksFlush ⊎ ((end : End) × BreaksLast end)
