-- What a search over a heap keeps to.
use Rattle.std.specs.Prelude.{◌≡◌, ℕ, ◌-◌, ◌<◌, ◌↔◌, Bool, not, false, List, length, map, filter, Contains, slice_index, slice_index_or}
use Rattle.std.specs.List.Sorted.{IsStrictlyIncreasing}
use Rattle.et_graph.specs.declared.objects.Death.{Death}
use Rattle.et_graph.specs.Order.{IsOneOf}
use Rattle.et_graph.specs.Times.{IsSet}
use Rattle.et_heap.specs.Objects.{Objects, IsHeld}
use Rattle.et_heap.specs.Refs.{pairs_of}
use Rattle.et_flush.specs.declared.times.TheConstants.{NOW}
use Rattle.et_flush.specs.declared.ranks.Ranks.{Ranks}
use Rattle.et_flush.specs.Ranks.{AreRanked}

-- what an object leads to is held
abbrev pub ArePairsHeld : Objects → Type 0
ArePairsHeld heap = (u o : ℕ) → Contains (pairs_of heap) (u, o) → IsHeld heap o

-- the objects that are held, in rising order
pub record AreAllHeld (heap : Objects) (held : List ℕ) : Type 0 where
  pub rising : IsStrictlyIncreasing held
  pub exact : (o : ℕ) → Contains held o ↔ IsHeld heap o

-- a search can go over the objects that are held, by their ranks
pub record IsSearched (heap : Objects) (held : List ℕ) (ranks : Ranks) : Type 0 where
  pub all : AreAllHeld heap held
  pub pairs : ArePairsHeld heap
  pub ranked : AreRanked held ranks

-- there is a flag for each
abbrev pub AreFlagsOf : List ℕ → List Bool → Type 0
AreFlagsOf held flags = length flags ≡ length held

-- the pairs that lead to what is not left out
abbrev pub pairs_left : List Bool → List (ℕ × ℕ) → List (ℕ × ℕ)
pairs_left left_out pairs = filter (λ p. not (slice_index_or left_out (p.1 - 1) false)) pairs

-- one of the first n ranks, and not left out
pub record IsLeftRank (n : ℕ) (left_out : List Bool) (rank : ℕ) : Type 0 where
  pub one : IsOneOf n rank
  pub left : ¬ IsSet left_out rank

-- the rank of an object that is held, and that the search over these does not leave out
pub record IsSearchedRank (heap : Objects) (held : List ℕ) (ranks : Ranks) (left_out : List Bool) (rank : ℕ) : Type 0 where
  pub searched : IsSearched heap held ranks
  pub flags : AreFlagsOf held left_out
  pub one : IsLeftRank (length held) left_out rank

-- these are the ranks of what wasn't reached, each with its time
pub record AreSources (times : List ℕ) (reached : List Bool) (order : List Death) : Type 0 where
  pub each : (s : Death) → Contains order s → IsLeftRank (length times) reached s.object × (s.time ≡ slice_index times (s.object - 1))
  pub all : (rank : ℕ) → IsLeftRank (length times) reached rank → (s : Death) × Contains order s × (s.object ≡ rank)

-- The times as a search begins, by rank: each object that is held has its stamp.
pub record AreTimes (held stamps times : List ℕ) : Type 0 where
  pub long : length times ≡ length held
  pub each : (k : ℕ) → k < length held → slice_index times k ≡ slice_index stamps (slice_index held k)

-- the objects that are held and whose times are below NOW, in rising order, each with its time
pub record AreDyingIn (heap : Objects) (time : ℕ → ℕ) (deaths : List (ℕ × ℕ)) : Type 0 where
  pub rising : IsStrictlyIncreasing (map (λ d. d.0) deaths)
  pub exact : (o t : ℕ) → Contains deaths (o, t) ↔ (IsHeld heap o × (time o ≡ t) × (t < NOW))
