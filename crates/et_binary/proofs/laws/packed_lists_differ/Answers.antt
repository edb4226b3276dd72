use Rattle.et_binary.proofs.OnePack.{one_list}
use Rattle.et_binary.proofs.laws.packed_lists_differ.Goals as goal

pub returns : goal.returns
returns c = one_list
