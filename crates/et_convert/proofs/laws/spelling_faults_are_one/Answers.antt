use Rattle.et_convert.specs.Spellings.{format_in}
use Rattle.et_convert.proofs.SpellingLemmas.{one_fault_in}
use Rattle.et_convert.proofs.laws.spelling_faults_are_one.Goals as goal

pub returns : goal.returns
returns c bytes k n l m = one_fault_in (format_in bytes) bytes k n l m (c.faults_are_one.ensures bytes k n l m) (c.pack_faults_are_one.ensures bytes k n l m)
