use Rattle.et_theorems.proofs.traces.ClassNames.{class_names_apart}
use Rattle.et_theorems.proofs.good_laws.class_names_are_apart.Goals as goal

pub returns : goal.returns
returns c files p named linkable is = class_names_apart files p named linkable is
