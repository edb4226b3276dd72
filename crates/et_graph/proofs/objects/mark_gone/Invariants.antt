-- The flags below i are marked, and the others are as they were.
use Rattle.std.proofs.Common.{◌≡◌, ℕ, ◌<◌, ◌≤◌, ◌||◌, false, get_or, nat_lt}
use Rattle.et_graph.proofs.objects.mark_gone.Given as goal

abbrev pub invariant-loop-i : goal.invariant-loop-i
invariant-loop-i l = record {
  below : (k : ℕ) → k < l.i → get_or l.gone k false ≡ (get_or l.fn.gone k false || nat_lt (get_or l.times k 0) l.top);
  above : (k : ℕ) → l.i ≤ k → get_or l.gone k false ≡ get_or l.fn.gone k false;
}
