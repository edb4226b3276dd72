-- The first of those right above are linked.
use Rattle.std.proofs.Common.{◌≡◌, ℕ, ◌<◌, length, get_or, Contains}
use Rattle.et_hierarchy.specs.Links.{parents_of, parents, HasLinksWithin}
use Rattle.et_hierarchy.proofs.below.link_down.Given as goal

abbrev pub invariant-loop-i : goal.invariant-loop-i
invariant-loop-i l = record {
  long : length l.below.items ≡ length l.fn.below.items;
  within : (n : ℕ) → l.class < n → HasLinksWithin n l.fn.below.items → HasLinksWithin n l.below.items;
  kept : (p c : ℕ) → Contains (parents l.fn.below.items p) c → Contains (parents l.below.items p) c;
  linked : (j : ℕ) → j < l.i → j < length (parents_of l.links) → Contains (parents l.below.items (get_or (parents_of l.links) j 0)) l.class;
}
