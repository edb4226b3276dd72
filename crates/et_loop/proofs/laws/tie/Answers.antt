use Rattle.et_loop.proofs.Wholes.{whole_tied, tie_kept, tie_whole}
use Rattle.et_loop.proofs.laws.tie.Goals as goal

pub returns : goal.returns
returns c g whole h kept sound tie = (whole_tied whole h, tie_kept g whole h kept sound tie, tie_whole g whole h kept sound tie)
