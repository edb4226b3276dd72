-- What is before `low` is lower, and what is from `high` on is higher.
use Rattle.std.proofs.Common.{ℕ, ◌-◌, ◌<◌, ◌≤◌, length}
use Rattle.et_flow.specs.Locals.{local_at}
use Rattle.et_flow.proofs.locals.search.Given as goal

abbrev pub invariant-loop-low : goal.invariant-loop-low
invariant-loop-low l = record {
  inside : l.high ≤ length l.held;
  between : l.low ≤ l.high;
  before : (k : ℕ) → k < l.low → local_at l.held k < l.local;
  behind : (k : ℕ) → l.high ≤ k → k < length l.held → l.local < local_at l.held k;
}

abbrev pub decreases-loop-low : goal.decreases-loop-low
decreases-loop-low l = l.high - l.low
