use Rattle.et_class.proofs.Respelled.{class_spelled, spelled_class}
use Rattle.et_class.proofs.laws.spelled.Goals as goal

pub returns : goal.returns
returns c = λ bytes c fits. ((λ r. class_spelled bytes c fits r), (λ s. spelled_class bytes c s))
