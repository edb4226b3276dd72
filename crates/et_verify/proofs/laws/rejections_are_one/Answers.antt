use Rattle.et_verify.proofs.Verified.{rejected_one}
use Rattle.et_verify.proofs.laws.rejections_are_one.Goals as goal

pub returns : goal.returns
returns c p m k x y = rejected_one p m k x y
