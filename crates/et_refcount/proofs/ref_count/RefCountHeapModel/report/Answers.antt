use Rattle.et_refcount.proofs.Standing.{stands_tally}
use Rattle.et_refcount.proofs.ref_count.RefCountHeapModel.report.Goals as goal

pub returns : goal.returns
returns c = λ reached decides policy objects past t. stands_tally reached decides c.args.self.now.policy policy c.args.self.now.counts objects past t
