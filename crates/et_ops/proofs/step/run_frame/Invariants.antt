use Rattle.std.proofs.Common.{◌-◌}
use Rattle.et_ops.proofs.Stepping.{SoFar}
use Rattle.et_ops.proofs.step.run_frame.Given as goal

abbrev pub invariant-steps : goal.invariant-steps
invariant-steps l = SoFar l.code l.e l.most l.count l.fn.running l.running l.fn.stamps l.stamps

abbrev pub decreases-steps : goal.decreases-steps
decreases-steps l = l.most - l.count
