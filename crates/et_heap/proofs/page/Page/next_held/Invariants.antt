use Rattle.std.proofs.Common.{ℕ, ◌<◌, ◌≤◌}
use Rattle.et_heap.specs.Stored.{IsStored}
use Rattle.et_heap.proofs.page.Page.next_held.Given as goal

abbrev pub invariant-loop-place : goal.invariant-loop-place
invariant-loop-place l = (u : ℕ) → l.from ≤ u → u < l.place → IsStored l.self-inside.kept.items u → ⊥
