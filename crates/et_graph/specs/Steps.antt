-- Steps, ties and flushes that lead from one graph to the next, and when they are legal.
use Rattle.std.specs.Prelude.{◌≡◌, ℕ, ◌+◌, ◌<◌, ◌↔◌, ◌⊎◌, List, length, Contains, slice_index}
use Rattle.et_graph.specs.Graph.{Graph, IsMade, IsReached, AreDead}

-- One step: the graph after it, the objects that it made, and those that it lost. Lost is what it took a reference
-- away from, whether or not another one is left.
pub record Step : Type 0 where
  pub after : Graph
  pub fresh : List ℕ
  pub lost : List ℕ

-- was reached before the step, or is new
abbrev pub IsKnown : Graph → Step → ℕ → Type 0
IsKnown g s o = IsReached g o ⊎ Contains s.fresh o

-- the pair is there before the step and not after it
abbrev pub IsRemoved : Graph → Step → ℕ → ℕ → Type 0
IsRemoved g s u x = Contains g.pairs (u, x) × ¬ Contains s.after.pairs (u, x)

-- the pair is there after the step and not before it
abbrev pub IsAdded : Graph → Step → ℕ → ℕ → Type 0
IsAdded g s u x = Contains s.after.pairs (u, x) × ¬ Contains g.pairs (u, x)

-- What is asked of a step from g, but that its new objects need not be reached yet: a step that is under way.
pub record IsDraft (g : Graph) (s : Step) : Type 0 where
  -- the new objects have the next numbers in order
  pub made : s.after.made ≡ g.made + length s.fresh
  pub fresh_next : (k : ℕ) → k < length s.fresh → slice_index s.fresh k ≡ g.made + 1 + k
  -- the target of each removed root and pair is lost, and a removed pair begins at an object that was reached
  pub roots_lost : (r : ℕ) → Contains g.roots r → ¬ Contains s.after.roots r → Contains s.lost r
  pub pairs_lost : (u x : ℕ) → IsRemoved g s u x → Contains s.lost x
  pub pairs_from_reached : (u x : ℕ) → IsRemoved g s u x → IsReached g u
  -- a new pair joins objects that were reached or are new
  pub pairs_known : (u x : ℕ) → IsAdded g s u x → IsKnown g s u × IsKnown g s x
  -- what is lost was reached or is new
  pub lost_known : (o : ℕ) → Contains s.lost o → IsKnown g s o
  -- a root may be any object that was made and isn't gone, so a weak reference may bring back one that wasn't reached
  pub roots_held : (r : ℕ) → Contains s.after.roots r → IsMade s.after r × ¬ Contains g.gone r
  -- a step reports nothing
  pub gone : s.after.gone ≡ g.gone

-- a legal step is a draft after which each new object is reached
pub record IsLegalStep (g : Graph) (s : Step) : Type 0 where
  pub draft : IsDraft g s
  pub fresh_reached : (o : ℕ) → Contains s.fresh o → IsReached s.after o

-- A tie leads from g to h, which differs from g by more pairs alone, each between objects that are reached in g. It makes
-- and loses nothing.
pub record IsTie (g h : Graph) : Type 0 where
  pub made : h.made ≡ g.made
  pub roots : h.roots ≡ g.roots
  pub pairs_kept : (u x : ℕ) → Contains g.pairs (u, x) → Contains h.pairs (u, x)
  pub pairs_reached : (u x : ℕ) → Contains h.pairs (u, x) → ¬ Contains g.pairs (u, x) → IsReached g u × IsReached g x
  pub gone : h.gone ≡ g.gone

-- A flush leads from g to h and reports the dead of g: h is g but that these are gone.
pub record IsFlush (g : Graph) (reports : List ℕ) (h : Graph) : Type 0 where
  pub dead : AreDead g reports
  pub made : h.made ≡ g.made
  pub roots : h.roots ≡ g.roots
  pub pairs : (u x : ℕ) → Contains h.pairs (u, x) ↔ Contains g.pairs (u, x)
  pub gone : (o : ℕ) → Contains h.gone o ↔ (Contains g.gone o ⊎ Contains reports o)
