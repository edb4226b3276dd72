use Rattle.std.proofs.Common.{◌≡◌, ℕ, ◌<◌, length}
use Rattle.std.specs.List.{slice_index_or}
use Rattle.et_hierarchy.proofs.sorting.all_classes.Given as goal

abbrev pub invariant-loop-class : goal.invariant-loop-class
invariant-loop-class l = record {
  size : length l.all.items ≡ l.class;
  numbers : (c : ℕ) → c < l.class → slice_index_or l.all.items c 0 ≡ c;
}
