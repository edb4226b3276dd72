-- What the roots lead to.
use Rattle.std.specs.Prelude.{ℕ, ◌-◌, ◌<◌, ◌≤◌, Bool, List, [], Contains, slice_index}
use Rattle.et_graph.specs.Times.{IsSet, IsSpread, AreFollowed}
use Rattle.et_flush.specs.declared.times.TheConstants.{NOW}

-- what was seen waits, and is one of these ranks
pub record AreMarked (ranks : List ℕ) (seen : List Bool) (waiting : List ℕ) : Type 0 where
  pub wait : (rank : ℕ) → 0 < rank → IsSet seen rank → Contains waiting rank
  pub marked : (rank : ℕ) → Contains waiting rank → IsSet seen rank × Contains ranks rank

-- the pairs of all that waits are followed, and those of all that they lead to, with the time t
pub record FollowsPairs (pairs : List (ℕ × ℕ)) (t : ℕ) (times : List ℕ) (seen : List Bool) (waiting : List ℕ)
    (times' : List ℕ) (seen' : List Bool) : Type 0 where
  pub spreads : (start : List ℕ) → IsSpread pairs start t times seen waiting → AreFollowed pairs times seen (λ v. Contains waiting v)
      → IsSpread pairs start t times' seen' [] × AreFollowed pairs times' seen' (λ v. ⊥)

-- what was reached leads to nothing else, and its time is NOW or more where a pair leads to it
pub record AreReached (pairs : List (ℕ × ℕ)) (times : List ℕ) (reached : List Bool) : Type 0 where
  pub closed : (u x : ℕ) → Contains pairs (u, x) → IsSet reached u → IsSet reached x
  pub now : (u x : ℕ) → Contains pairs (u, x) → IsSet reached x → NOW ≤ slice_index times (x - 1)
