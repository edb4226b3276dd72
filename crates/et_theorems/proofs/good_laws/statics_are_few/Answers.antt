use Rattle.std.proofs.Common.{map}
use Rattle.et_program.specs.Loaded.{loaded_class}
use Rattle.et_theorems.proofs.traces.Traceable.{file_texts, statics_within}
use Rattle.et_theorems.proofs.good_laws.statics_are_few.Goals as goal

pub returns : goal.returns
returns c p is = statics_within (map loaded_class is.classes) p (file_texts is.classes is.of_files) is.linkable is.program
