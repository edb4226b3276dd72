-- The methods so far have typings, and so many of them have code.
use Rattle.std.proofs.Common.{◌≡◌}
use Rattle.et_verify.proofs.Verified.{AreSeen, counted}
use Rattle.et_verify.proofs.verdict.verify.Given as goal

abbrev pub invariant-loop-method : goal.invariant-loop-method
invariant-loop-method l = record {
  seen : AreSeen l.program l.method-index;
  count : l.count ≡ counted l.program l.method-index;
}
