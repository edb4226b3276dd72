use Rattle.std.proofs.Common.{sym, subst}
use Rattle.et_program.specs.Entries.{Linked}
use Rattle.et_program.specs.Resolved.{AreResolved}
use Rattle.et_program.proofs.program.Program.keep_resolved.Goals as goal

pub invariant_of-self : goal.invariant_of-self
invariant_of-self c = (
  c.self.invariant.0,
  c.self.invariant.1,
  c.self.invariant.2,
  c.self.invariant.3,
  c.self.invariant.4,
  subst (λ (l : Linked). AreResolved l c.args.resolved.items) (sym c.self.view_is) c.requires,
)
