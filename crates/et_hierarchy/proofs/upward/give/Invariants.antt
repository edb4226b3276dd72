-- The first classes of the list have their parts.
use Rattle.std.proofs.Common.{◌≡◌, ℕ, ◌<◌, List, Some, length}
use Rattle.et_hierarchy.specs.Links.{LinkEntry}
use Rattle.et_hierarchy.specs.Upward.{LeadsUp, HasListUp, AreListsUp, ListsGrow}
use Rattle.et_hierarchy.proofs.upward.give.Given as goal

abbrev pub invariant-loop-i : goal.invariant-loop-i
invariant-loop-i l = record {
  long : length l.lists.items ≡ length l.fn.lists.items;
  grow : (table : List LinkEntry) (class : ℕ) → AreListsUp table l.fn.lists.items → LeadsUp table (Some class) l.list → ListsGrow table l.fn.lists.items l.lists.items;
  first : (table : List LinkEntry) (class : ℕ) → AreListsUp table l.fn.lists.items → LeadsUp table (Some class) l.list → 0 < l.i → HasListUp table l.lists.items class;
}
