use Rattle.et_program.proofs.WordLemmas.{specific_words}
use Rattle.et_program.proofs.laws.specific_methods_are_maximal.Goals as goal

pub returns : goal.returns
returns c = specific_words
