use Rattle.et_link.proofs.LoadedLemmas.{files_alike}
use Rattle.et_link.proofs.laws.files_are_classes.Goals as goal

pub returns : goal.returns
returns c = files_alike
