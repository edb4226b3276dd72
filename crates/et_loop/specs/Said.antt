-- WHAT A HISTORY PRINTS, and what of it the sink of the guest takes. `said` is what the event of a thread prints in a state,
-- where it is done. S is what a state is.
use Rattle.std.specs.Prelude.{◌≡◌, ℕ, zero, suc, ◌+◌, ◌⊎◌, Bool, List, [], ◌++◌, Option, Some, None}
use Rattle.et_base.specs.declared.value.End.{End}
use Rattle.et_graph.specs.Graph.{Graph}
use Rattle.et_io.specs.Faults.{count_after}
use Rattle.et_io.specs.Sink.{Log, with_more, TakesPrefix}
use Rattle.et_state.specs.declared.records.Record.{Record}
use Rattle.et_state.specs.History.{Setting, IsLastEvent, left_by, picked_turn, settled}
use Rattle.et_loop.specs.declared.options.Ran.{Ran}
use Rattle.et_loop.specs.Visits.{IsCutAfter}

-- these bytes are what the event after event e prints, which leads from s, where it is done; at the end there are none
module _ {S : Type 0} (given : Setting S) (said : S → ℕ → List ℕ) (e : ℕ) (s : S) (bytes : List ℕ) where
  abbrev pub SaysStep : Option End → Type 0
  SaysStep None = bytes ≡ said s (picked_turn given (suc e) s)
  SaysStep (Some end) = bytes ≡ []

module _ {S : Type 0} (reached : Graph → ℕ → Bool) (given : Setting S) (said : S → ℕ → List ℕ) where
  -- .. in a turn of the loop, after event e left s
  abbrev pub SaysTurn : ℕ → S → List ℕ → Option End → Type 0
  SaysTurn e s bytes end = SaysStep given said e (settled reached given e s) bytes end

  module _ (start : S) (made : List Record) where
    -- what event e prints
    abbrev pub said_at : ℕ → List ℕ
    said_at zero = []
    said_at (suc e) =
        let s = settled reached given e (left_by reached given start made e) in
        said s (picked_turn given (suc e) s)

    -- what the events up to event e print, in their order
    unfoldable pub said_to : ℕ → List ℕ
    said_to zero = []
    said_to (suc e) = said_to e ++ said_at (suc e)

    -- the run ended as the history does, and the guest's sink took what its events print, no more and no less
    pub record Says (ran : Ran) (before after : Log) : Type 0 where
      pub ends : IsLastEvent reached given start made ran.event ran.end
      pub taken : after ≡ with_more before (said_to ran.event)

    -- it took a prefix of that, and nothing else
    abbrev pub SaysPrefix : Log → Log → Type 0
    SaysPrefix before after = (e : ℕ) (end : End) → IsLastEvent reached given start made e end → TakesPrefix before after (said_to e)

    -- It was cut off in a turn, and took what the events up to that one print, and maybe a part of what the event of the turn
    -- prints; or before the first turn, and then nothing was visited.
    abbrev pub IsCutSaid : ((ℕ → Bool) → S → ℕ) → Log → Log → ℕ → ℕ → Type 0
    IsCutSaid flush_visits before after old new = ((new ≡ old) × (after ≡ before)) ⊎ ((e : ℕ) × IsCutAfter reached given flush_visits start made before after old new (said_to e) e)

-- a failed put was counted, by the one sink or by the other
abbrev pub CountsWrite : Bool → (a a' b b' : ℕ) → Type 0
CountsWrite failed a a' b b' = ((a' ≡ count_after failed a) × (b' ≡ b)) ⊎ ((a' ≡ a) × (b' ≡ count_after failed b))
