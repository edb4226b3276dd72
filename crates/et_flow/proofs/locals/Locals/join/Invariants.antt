-- The entries so far are joined, and the others are as they were.
use Rattle.std.proofs.Common.{◌≡◌}
use Rattle.et_flow.proofs.Held.{IsJoined}
use Rattle.et_flow.proofs.locals.Locals.join.Given as goal

abbrev pub invariant-loop-at : goal.invariant-loop-at
invariant-loop-at l = record {
  count : l.self-inside.count ≡ l.initial.self-inside.count;
  joined : IsJoined l.initial.self-inside.held.items l.others l.self-inside.held.items l.at l.changed;
}
