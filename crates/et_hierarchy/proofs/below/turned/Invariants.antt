-- The links of the first classes are turned round.
use Rattle.std.proofs.Common.{◌≡◌, ℕ, ◌<◌, length, Contains}
use Rattle.et_hierarchy.specs.Links.{parents, HasLinksWithin}
use Rattle.et_hierarchy.proofs.below.turned.Given as goal

abbrev pub invariant-loop-k : goal.invariant-loop-k
invariant-loop-k l = record {
  long : length l.below.items ≡ length l.table;
  within : HasLinksWithin (length l.table) l.below.items;
  turned : (c p : ℕ) → c < l.k → Contains (parents l.table c) p → Contains (parents l.below.items p) c;
}
