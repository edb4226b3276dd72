use Rattle.et_verify.proofs.Verified.{rejected_among}
use Rattle.et_verify.proofs.laws.verdicts_differ.Goals as goal

pub returns : goal.returns
returns c p m verified rejected = rejected.none (verified m (rejected_among p m rejected))
