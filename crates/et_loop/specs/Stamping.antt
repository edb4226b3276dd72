-- How an event changes the stamps.
use Rattle.std.specs.Prelude.{◌≡◌, ℕ, suc, ◌<◌, ◌≤◌, ◌^◌, ◌⊎◌, Bool, List, Option, Some, None, length, Contains, slice_index}
use Rattle.et_base.specs.declared.value.End.{End}
use Rattle.et_state.specs.declared.ends.EventEnd.{EventEnd}
use Rattle.et_state.specs.declared.ends.EventEnd.TheVariants as ends
use Rattle.et_graph.specs.Graph.{Graph, IsMade}
use Rattle.et_loop.specs.Kept.{IsStepTo, Settles}

-- where the event was done, a legal step leads from g to h and loses these objects
abbrev pub StepsWhereDone : EventEnd → Graph → Graph → List ℕ → Type 0
StepsWhereDone ends.Done g h lost = IsStepTo g h lost
StepsWhereDone ends.Waited g h lost = IsStepTo g h lost
StepsWhereDone (ends.IllTyped method pc) g h lost = Unit {0}
StepsWhereDone ends.ObjectLimit g h lost = Unit {0}
StepsWhereDone (ends.Native method) g h lost = Unit {0}

-- Of the objects up to `made`, those above `before` get the event after e, the lost ones among the others get e, and
-- the rest keeps its stamps.
pub record Restamps (e before made : ℕ) (lost : List ℕ) (old new : ℕ → ℕ) : Type 0 where
  pub fresh : (o : ℕ) → before < o → o ≤ made → new o ≡ suc e
  pub lost_before : (o : ℕ) → o ≤ before → Contains lost o → new o ≡ e
  pub kept : (o : ℕ) → (o ≤ before) ⊎ (made < o) → ¬ Contains lost o → new o ≡ old o

-- the event after e led from g to h, and the stamps changed with it
abbrev pub StampsMark : ℕ → Graph → Graph → (ℕ → ℕ) → (ℕ → ℕ) → Type 0
StampsMark e g h old new = (lost : List ℕ) × IsStepTo g h lost × Restamps e g.made h.made lost old new

-- .. after a flush, where one was due
abbrev pub Passes : Bool → ℕ → Graph → Graph → (ℕ → ℕ) → (ℕ → ℕ) → Type 0
Passes due e g h old new = (settled : Graph) × Settles due g settled × StampsMark e settled h old new

-- there is a stamp for each object, and no more objects than have numbers
pub record HasStamps (g : Graph) (stamps : List ℕ) : Type 0 where
  pub few : g.made < 2 ^ 32
  pub places : g.made < length stamps

-- What becomes of the stamps in a turn: they are marked where the event was done, and stay where the history ends.
abbrev pub Stamped : Option End → ℕ → Graph → Graph → List ℕ → List ℕ → Type 0
Stamped None e g h old new = StampsMark e g h (slice_index old) (slice_index new)
Stamped (Some end) e g h old new = new ≡ old

-- what is referred to was made
pub record AreMade (g : Graph) : Type 0 where
  pub roots : (r : ℕ) → Contains g.roots r → IsMade g r
  pub pairs : (u x : ℕ) → Contains g.pairs (u, x) → IsMade g x
