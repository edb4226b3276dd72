use Rattle.et_boot.proofs.PoolLemmas.{pools_are_read}
use Rattle.et_boot.proofs.laws.pools_are_read.Goals as goal

pub returns : goal.returns
returns c = pools_are_read
