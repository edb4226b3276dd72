use Rattle.et_binary.proofs.Portions.{nothing_held}
use Rattle.et_binary.proofs.reader.BinaryReader.begin.Goals as goal

pub invariant_of-result : goal.invariant_of-result
invariant_of-result c = λ none. nothing_held c.begin.result c.new.result.items c.begin.ensures c.new.ensures.items
