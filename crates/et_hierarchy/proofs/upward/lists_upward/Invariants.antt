-- The last classes of the order have their lists.
use Rattle.std.proofs.Common.{ℕ, ◌<◌, ◌≤◌, length}
use Rattle.std.specs.List.{slice_index_or}
use Rattle.et_hierarchy.specs.Upward.{HasListUp, AreListsUp}
use Rattle.et_hierarchy.proofs.upward.lists_upward.Given as goal

abbrev pub invariant-loop-i : goal.invariant-loop-i
invariant-loop-i l = record {
  lists : AreListsUp l.table l.lists.items;
  done : (j : ℕ) → l.i ≤ j → j < length l.order → HasListUp l.table l.lists.items (slice_index_or l.order j 0);
}
