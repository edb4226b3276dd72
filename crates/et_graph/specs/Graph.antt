-- Graphs of objects, and what is reached in them. The Java Virtual Machine Specification (SE 8, section 2.5.3) leaves
-- the collector free to reclaim whatever a program can't get at any more. As every tracing collector does, we take for
-- that what no path of references leads to from a root.
use Rattle.std.specs.Prelude.{◌≡◌, ℕ, ◌≤◌, ◌<◌, ◌↔◌, Bool, IsTrue, List, [], ◌∷◌, Contains}
use Rattle.std.specs.List.Sorted.{IsStrictlyIncreasing}

-- The objects made so far are 1 to `made`. A pair (u, x) says that u refers to x: that x stands in a slot of u, is the queue of
-- u, or waits in u. What u refers to weakly gives no pair.
-- `gone` has the objects that were reported as dead.
pub record Graph : Type 0 where
  pub made : ℕ
  pub roots : List ℕ
  pub pairs : List (ℕ × ℕ)
  pub gone : List ℕ

abbrev pub nothing_made : Graph
nothing_made = record { made = 0; roots = []; pairs = []; gone = [] }

abbrev pub IsMade : Graph → ℕ → Type 0
IsMade g o = (0 < o) × (o ≤ g.made)

-- the list has the objects right after u, goes along pairs, and ends at o, which is u itself where the list is empty
abbrev pub IsWalk : List (ℕ × ℕ) → ℕ → List ℕ → ℕ → Type 0
IsWalk pairs u [] o = u ≡ o
IsWalk pairs u (x ∷ walk) o = Contains pairs (u, x) × IsWalk pairs x walk o

-- the pairs lead from u to o; each object leads to itself
abbrev pub Leads : List (ℕ × ℕ) → ℕ → ℕ → Type 0
Leads pairs u o = (walk : List ℕ) × IsWalk pairs u walk o

abbrev pub LeadsTo : Graph → ℕ → ℕ → Type 0
LeadsTo g u o = Leads g.pairs u o

-- a root leads to o
abbrev pub IsReached : Graph → ℕ → Type 0
IsReached g o = (root : ℕ) × Contains g.roots root × LeadsTo g root o

-- the test says of each object of each graph whether it is reached
abbrev pub Decides : (Graph → ℕ → Bool) → Type 0
Decides reached = (g : Graph) (o : ℕ) → IsTrue (reached g o) ↔ IsReached g o

-- made, not reached, and not reported before
abbrev pub IsDead : Graph → ℕ → Type 0
IsDead g o = IsMade g o × ¬ IsReached g o × ¬ Contains g.gone o

-- the dead objects in rising order
pub record AreDead (g : Graph) (dead : List ℕ) : Type 0 where
  pub rising : IsStrictlyIncreasing dead
  pub exact : (o : ℕ) → Contains dead o ↔ IsDead g o

-- What holds of each graph to which legal steps, ties and flushes lead.
pub record IsSoundGraph (g : Graph) : Type 0 where
  -- what is named was made
  pub roots_made : (r : ℕ) → Contains g.roots r → IsMade g r
  pub pairs_made : (u x : ℕ) → Contains g.pairs (u, x) → IsMade g u × IsMade g x
  pub gone_made : (o : ℕ) → Contains g.gone o → IsMade g o
  -- no root is gone, and only gone objects refer to a gone one
  pub roots_held : (r : ℕ) → Contains g.roots r → ¬ Contains g.gone r
  pub gone_before : (u x : ℕ) → Contains g.pairs (u, x) → Contains g.gone x → Contains g.gone u
