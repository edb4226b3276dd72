use Rattle.et_loop.proofs.Pacing.{first_due}
use Rattle.et_loop.proofs.next_flush.NextFlush.begin.Goals as goal

pub returns : goal.returns
returns c some = first_due c.args.interval some
