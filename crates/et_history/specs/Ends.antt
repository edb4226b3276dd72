-- THE END OF A HISTORY. S is what a state is.
use Rattle.std.specs.Prelude.{◌≡◌, ℕ, ◌≤◌, Bool, List}
use Rattle.et_base.specs.declared.value.End.{End}
use Rattle.et_graph.specs.Graph.{Graph}
use Rattle.et_state.specs.declared.records.Record.{Record}
use Rattle.et_state.specs.History.{Setting, IsLastEvent}

module _ {S : Type 0} (reached : Graph → ℕ → Bool) (given : Setting S) (start : S) (made : List Record) where
  -- there is a last event, within the limit, after which the history ends so, and no other
  pub record HasOneEnd : Type 0 where
    pub event : ℕ
    pub end : End
    pub within : event ≤ given.limit
    pub last : IsLastEvent reached given start made event end
    pub only : (other : ℕ) (how : End) → IsLastEvent reached given start made other how → (other ≡ event) × (how ≡ end)
