use Rattle.std.proofs.Common.{◌≡◌, ◌+◌, drop}
use Rattle.et_hierarchy.specs.Sorting.{GrowsSorted, placed_count}
use Rattle.et_hierarchy.proofs.sorting.Sorting.place_all.Given as goal

abbrev pub invariant-loop-class : goal.invariant-loop-class
invariant-loop-class l = record {
  grows : GrowsSorted l.table (drop l.class-index l.classes) l.self;
  count : placed_count l.self ≡ placed_count l.fn.self + l.class-index;
  next : l.self.next ≡ l.fn.self.next;
}
