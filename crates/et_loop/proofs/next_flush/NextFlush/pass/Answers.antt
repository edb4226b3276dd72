use Rattle.std.proofs.Common.{◌≡◌, true, subst, sym}
use Rattle.et_state.specs.History.{is_flush_point}
use Rattle.et_loop.proofs.Pacing.{next_due}
use Rattle.et_loop.proofs.next_flush.NextFlush.pass.Goals as goal

pub returns-clause-next : goal.returns-clause-next
returns-clause-next c some =
    let due : is_flush_point c.args.interval c.args.e ≡ true = subst (λ x. is_flush_point c.args.interval x ≡ true) (sym c.if-e-self.false) (c.requires.next some).is_due in
    next_due c.args.interval c.args.e some due
