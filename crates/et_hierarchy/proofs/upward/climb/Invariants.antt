-- The way up, as far as it was gone.
use Rattle.std.proofs.Common.{false, length, replicate}
use Rattle.et_hierarchy.specs.Search.{unmarked}
use Rattle.et_hierarchy.proofs.UpLemmas.{IsClimbing, marked_by}
use Rattle.et_hierarchy.proofs.upward.climb.Given as goal

abbrev pub invariant-loop-next : goal.invariant-loop-next
invariant-loop-next l = IsClimbing l.table l.fn.class l.list.items l.next

abbrev pub decreases-loop-next : goal.decreases-loop-next
decreases-loop-next l = unmarked (marked_by (replicate (length l.table) false) l.list.items)
