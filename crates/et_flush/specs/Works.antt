-- The places of a flush, and the times that it finds.
use Rattle.std.specs.Prelude.{◌≡◌, ℕ, ◌*◌, ◌≤◌, List, [], length, vec_capacity, slice_index}
use Rattle.et_graph.specs.Graph.{IsReached}
use Rattle.et_graph.specs.Listed.{IsGreatest}
use Rattle.et_graph.specs.Times.{IsSet}
use Rattle.et_heap.specs.Objects.{Objects, IsHeld}
use Rattle.et_flush.specs.declared.ranks.TheConstants.{BLOCK_SIZE}
use Rattle.et_flush.specs.declared.times.TheConstants.{NOW}
use Rattle.et_flush.specs.declared.work.Work.{Work}
use Rattle.et_flush.specs.Ranks.{HasRankRoom, AreRanked}
use Rattle.et_flush.specs.Searches.{AreAllHeld, AreFlagsOf}
use Rattle.et_flush.specs.Flushes.{heap_graph}

-- there are places for n objects that are held, of which none has a number above m
pub record HasWorkPlaces (m n : ℕ) (w : Work) : Type 0 where
  pub runs : m ≤ length w.ranks.runs.items * BLOCK_SIZE
  pub ranks : HasRankRoom n w.ranks
  pub times : n ≤ vec_capacity w.times
  pub reached : n ≤ vec_capacity w.reached
  pub seen : n ≤ vec_capacity w.seen
  pub waiting : n ≤ vec_capacity w.waiting
  pub held : n ≤ vec_capacity w.held
  pub deaths : n ≤ vec_capacity w.deaths

-- The objects that are held are listed by their ranks, each with a time and two flags. None of them is seen, and none waits.
pub record IsWorkReady (heap : Objects) (w : Work) : Type 0 where
  pub held : AreAllHeld heap w.held.items
  pub ranked : AreRanked w.held.items w.ranks
  pub times : length w.times.items ≡ length w.held.items
  pub reached : AreFlagsOf w.held.items w.reached.items
  pub seen : AreFlagsOf w.held.items w.seen.items
  pub unseen : (rank : ℕ) → ¬ IsSet w.seen.items rank
  pub idle : w.waiting.items ≡ []

-- the time of each object that is held is NOW or more where it is reached, and else the greatest stamp that leads to it
pub record IsSettled (heap : Objects) (roots stamps : List ℕ) (time : ℕ → ℕ) : Type 0 where
  pub reached : (o : ℕ) → IsHeld heap o → IsReached (heap_graph heap roots) o → NOW ≤ time o
  pub unreached : (o : ℕ) → IsHeld heap o → ¬ IsReached (heap_graph heap roots) o → IsGreatest (heap_graph heap roots) (slice_index stamps) o (time o)
