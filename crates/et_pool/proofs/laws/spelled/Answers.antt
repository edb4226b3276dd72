use Rattle.et_pool.proofs.Spelled.{pool_spelled, spelled_pool}
use Rattle.et_pool.proofs.laws.spelled.Goals as goal

pub returns : goal.returns
returns c = λ bytes at slots after fits. ((λ p. pool_spelled bytes at slots after fits p), (λ s. spelled_pool bytes at slots after s))
