use Rattle.std.proofs.Common.{ℕ, ◌<◌}
use Rattle.et_hierarchy.specs.Faults.{Shows}
use Rattle.et_hierarchy.specs.declared.fault.FaultKind.TheVariants.{NoSuper}
use Rattle.et_hierarchy.proofs.links.first_without.Given as goal

abbrev pub invariant-loop-i : goal.invariant-loop-i
invariant-loop-i l = (k : ℕ) → k < l.i → Shows l.set NoSuper k → ⊥
