-- THE BYTES THAT A RUN CAN STILL REACH at an event or later: those of the objects made by then that are reached in the state
-- that the event left, or in that of a later event.
use Rattle.std.specs.Prelude.{ℕ, zero, suc, ◌+◌, ◌-◌, ◌||◌, Bool, if◌then◌else◌, List}
use Rattle.std.specs.List.{sum_by}
use Rattle.et_graph.specs.Graph.{Graph}
use Rattle.et_program.specs.Entries.{Linked}
use Rattle.et_state.specs.State.{State}
use Rattle.et_state.specs.Roots.{numbers_from}
use Rattle.et_state.specs.History.{Setting, left_by}
use Rattle.et_state.specs.declared.records.Record.{Record}
use Rattle.et_history.specs.Allocations.{object_in}
use Rattle.et_history.specs.steps.Records.{size_of}

module _ {S : Type 0} (reached : Graph → ℕ → Bool) (given : Setting S) (start : S) (made : List Record) where
  -- o is reached in the state that event e left, or in that of one of the n events after it, found by trying each
  unfoldable pub is_reached_from : ℕ → ℕ → ℕ → Bool
  is_reached_from o e zero = reached (given.rule.graph (left_by reached given start made e)) o
  is_reached_from o e (suc n) = is_reached_from o e n || reached (given.rule.graph (left_by reached given start made (e + suc n))) o

  -- the sum of the sizes of the objects made up to event e that are reached then or later, up to the event `last`
  abbrev pub bytes_reached : (S → ℕ → ℕ) → ℕ → ℕ → ℕ
  bytes_reached size e last =
      let s = left_by reached given start made e in
      sum_by (λ o. if is_reached_from o e (last - e) then size s o else 0) (numbers_from 1 (given.rule.graph s).made)

-- the bytes of an object that was made, held or reported
abbrev pub object_size : Linked → State → ℕ → ℕ
object_size p s o = size_of p (object_in s o)
