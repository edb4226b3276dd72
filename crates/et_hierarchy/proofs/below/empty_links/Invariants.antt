use Rattle.std.proofs.Common.{◌≡◌, ℕ, length}
use Rattle.std.specs.List.{slice_index_or}
use Rattle.et_hierarchy.specs.Links.{no_links}
use Rattle.et_hierarchy.proofs.below.empty_links.Given as goal

abbrev pub invariant-loop : goal.invariant-loop
invariant-loop l = record {
  size : length l.table.items ≡ l.counter;
  none : (k : ℕ) → slice_index_or l.table.items k no_links ≡ no_links;
}
