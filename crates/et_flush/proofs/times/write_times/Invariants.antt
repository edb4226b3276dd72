-- The objects so far have their stamps.
use Rattle.std.proofs.Common.{◌≡◌, ℕ, ◌<◌, ◌≤◌, length, get_or, vec_capacity}
use Rattle.et_flush.proofs.times.write_times.Given as goal

abbrev pub invariant-loop-object : goal.invariant-loop-object
invariant-loop-object l = record {
  long : length l.times.items ≡ l.object-index;
  times : (k : ℕ) → k < l.object-index → get_or l.times.items k 0 ≡ get_or l.stamps (get_or l.held k 0) 0;
  room : vec_capacity l.fn.times ≤ vec_capacity l.times;
}
