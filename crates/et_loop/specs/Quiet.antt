-- EVENTS THAT TELL NOTHING: they are done one after the other, with no line in between, and nothing printed. S is what a state
-- is, and `said` what the event of a thread prints in a state, where it is done.
use Rattle.std.specs.Prelude.{◌≡◌, ℕ, zero, suc, ◌+◌, ◌-◌, ◌*◌, ◌<◌, ◌≤◌, Bool, false, List, [], None, IfNone, length, slice_index}
use Rattle.et_io.specs.Sink.{Log, TakesUpTo}
use Rattle.et_graph.specs.Graph.{Graph, Decides}
use Rattle.et_graph.specs.Listed.{AreListed}
use Rattle.et_state.specs.declared.records.Record.{Record}
use Rattle.et_state.specs.Answers.{Answers, SaysWhereDone}
use Rattle.et_state.specs.Outcome.{Outcome, state_after, records_of, end_by}
use Rattle.et_state.specs.Naming.{Mentions}
use Rattle.et_state.specs.History.{Setting, deaths_to, is_gone, is_flush_point, picked_turn, ending, outcome_step}
use Rattle.et_loop.specs.declared.guest.Stretch.{Stretch}
use Rattle.et_loop.specs.declared.tracer.Progress.{Progress}
use Rattle.et_loop.specs.Run.{time_noted, Goes, Turns, Breaks}
use Rattle.et_loop.specs.Said.{SaysStep, SaysTurn}
use Rattle.et_loop.specs.Stamping.{StepsWhereDone, StampsMark, Stamped, Passes}
use Rattle.et_loop.specs.Visits.{visits_of_event, visits_of_turn}

-- EVENTS OF THE THREAD AT A PLACE, among those that have not ended
module _ {S : Type 0} (event : S → ℕ → Outcome S) (said : S → ℕ → List ℕ) (unended : S → List ℕ) (graph : S → Graph) (place : ℕ) where
  abbrev pub event_at : S → Outcome S
  event_at s = event s (slice_index (unended s) place)

  -- what it prints
  abbrev pub said_there : S → List ℕ
  said_there s = said s (slice_index (unended s) place)

  -- The event after event e, in state s, is quiet: it is done, or the thread waits; it has no records, prints nothing, and makes
  -- no object; as many threads have not ended, and the one at the place is the same. The stamps are marked.
  pub record IsQuiet (e : ℕ) (s s' : S) (old new : List ℕ) : Type 0 where
    pub done : end_by 0 (event_at s) ≡ None
    pub state : s' ≡ state_after s (event_at s)
    pub told : records_of (event_at s) ≡ []
    pub unsaid : said_there s ≡ []
    pub made : (graph s').made ≡ (graph s).made
    pub count : length (unended s') ≡ length (unended s)
    pub turn : slice_index (unended s') place ≡ slice_index (unended s) place
    pub marks : StampsMark e (graph s) (graph s') (slice_index old) (slice_index new)
    pub long : length new ≡ length old

  -- so many quiet events, of which the first is the one after event e
  unfoldable pub AreQuiet : ℕ → ℕ → S → S → List ℕ → List ℕ → Type 0
  AreQuiet zero e s s' old new = (s' ≡ s) × (new ≡ old)
  AreQuiet (suc k) e s s' old new = (mid : S) × (between : List ℕ) × AreQuiet k e s mid old between × IsQuiet (e + k) mid s' between new

  module _ (most e : ℕ) (s : S) (old new : List ℕ) (before after : ℕ) where
    -- By so many quiet events, fewer than `most`, the machine came to state `mid`, and tried one more there. It made eight
    -- visits of objects at most for each, and one for each object that the last one makes.
    pub record ComesTo (quiet : ℕ) (mid : S) : Type 0 where
      pub few : quiet < most
      pub events : AreQuiet quiet e s mid old new
      pub visits : after ≤ before + 8 * (quiet + 1) + ((graph (state_after mid (event_at mid))).made - (graph mid).made)

    -- The last one was answered: records, printed bytes and lost objects are its own.
    pub record IsStretch (s' : S) (out : List Record) (bytes lost : List ℕ) (stretch : Stretch) : Type 0 where
      pub mid : S
      pub comes : ComesTo stretch.quiet mid
      pub answers : Answers (event_at mid) stretch.end mid s' [] out
      pub says : SaysWhereDone stretch.end (said_there mid) [] bytes
      pub step : StepsWhereDone stretch.end (graph mid) (graph s') lost

    -- .. or it was broken off
    pub record IsBrokenOff : Type 0 where
      pub quiet : ℕ
      pub mid : S
      pub comes : ComesTo quiet mid

-- EVENTS OF A HISTORY
module _ {S : Type 0} (given : Setting S) (said : S → ℕ → List ℕ) where
  -- the event after event e is done in state s, has no records and prints nothing, and no flush is due before it
  pub record GoesQuietly (e : ℕ) (s s' : S) (old new : List ℕ) : Type 0 where
    pub between : is_flush_point given.interval e ≡ false
    pub goes : ending given e s ≡ None
    pub state : s' ≡ state_after s (outcome_step given (suc e) s)
    pub told : records_of (outcome_step given (suc e) s) ≡ []
    pub unsaid : said s (picked_turn given (suc e) s) ≡ []
    pub made : (given.rule.graph s').made ≡ (given.rule.graph s).made
    pub marks : StampsMark e (given.rule.graph s) (given.rule.graph s') (slice_index old) (slice_index new)

  -- so many of them
  unfoldable pub GoQuietly : ℕ → ℕ → S → S → List ℕ → List ℕ → Type 0
  GoQuietly zero e s s' old new = (s' ≡ s) × (new ≡ old)
  GoQuietly (suc k) e s s' old new = (mid : S) × (between : List ℕ) × GoQuietly k e s mid old between × GoesQuietly (e + k) mid s' between new

  module _ (e : ℕ) (s : S) (old : List ℕ) (before after : ℕ) where
    -- By so many of them, behind none of which a flush is due, the run came to state `mid`, and tried the next event there.
    pub record ComesQuietly (quiet : ℕ) (mid : S) (between : List ℕ) : Type 0 where
      pub events : GoQuietly quiet e s mid old between
      pub later : 0 < quiet → is_flush_point given.interval (e + quiet) ≡ false
      pub visits : after ≤ before + 8 * quiet + visits_of_event given (e + quiet) mid

    -- That event was done, or the history ends before it.
    pub record IsStep (m : Mentions) (s' : S) (m' : Mentions) (out out' bytes new : List ℕ) (progress : Progress) : Type 0 where
      pub mid : S
      pub between : List ℕ
      pub comes : ComesQuietly progress.quiet mid between
      pub goes : Goes given (e + progress.quiet) mid m s' m' out out' progress.end
      pub says : SaysStep given said (e + progress.quiet) mid bytes progress.end
      pub stamped : Stamped progress.end (e + progress.quiet) (given.rule.graph mid) (given.rule.graph s') between new

    -- .. or it was broken off
    pub record IsBrokenStep : Type 0 where
      pub quiet : ℕ
      pub mid : S
      pub between : List ℕ
      pub comes : ComesQuietly quiet mid between

    -- THE SAME FOR A WHOLE TURN, whose flush, if one is due, comes before all events: then there are no quiet ones.
    module _ (flush_visits : (ℕ → Bool) → S → ℕ) where
      pub record ComesInTurn (quiet : ℕ) (from : S) (between : List ℕ) : Type 0 where
        pub events : GoQuietly quiet e s from old between
        pub visits : (reached : Graph → ℕ → Bool) → Decides reached → after ≤ before + 8 * quiet + visits_of_turn reached given flush_visits (e + quiet) from

      -- the stamps show the deaths of a flush there
      abbrev ShowsDeaths : (Graph → ℕ → Bool) → (ℕ → ℕ) → ℕ → S → List ℕ → Type 0
      ShowsDeaths reached last quiet from between = AreListed (given.rule.graph from) (slice_index between) (let g = given.rule.graph from in deaths_to (reached g) (is_gone g) (time_noted (reached g) last (e + quiet)) g.made)

      -- The lines of the turn stand behind `out`, which was in the buffer before it. The sink took all of it but what is left there.
      pub record IsTurn (m : Mentions) (s' : S) (m' : Mentions) (taken taken' : Log) (out left bytes new : List ℕ) (progress : Progress) : Type 0 where
        pub from : S
        pub between : List ℕ
        pub comes : ComesInTurn progress.quiet from between
        pub whole : List ℕ
        pub put : TakesUpTo taken taken' whole left
        pub turns : (reached : Graph → ℕ → Bool) → Decides reached → (last : ℕ → ℕ) → ShowsDeaths reached last progress.quiet from between
            → Turns reached given (e + progress.quiet) from last m s' (time_noted (reached (given.rule.graph from)) last (e + progress.quiet)) m' out whole progress.end
        pub says : (reached : Graph → ℕ → Bool) → Decides reached → SaysTurn reached given said (e + progress.quiet) from bytes progress.end
        pub passes : IfNone progress.end (Passes (is_flush_point given.interval (e + progress.quiet)) (e + progress.quiet) (given.rule.graph from) (given.rule.graph s') (slice_index between) (slice_index new))

      pub record IsBrokenTurn (taken taken' : Log) (out : List ℕ) : Type 0 where
        pub quiet : ℕ
        pub from : S
        pub between : List ℕ
        pub comes : ComesInTurn quiet from between
        pub breaks : (reached : Graph → ℕ → Bool) → Decides reached → (last : ℕ → ℕ) → ShowsDeaths reached last quiet from between → Breaks reached given (e + quiet) from last taken taken' out
