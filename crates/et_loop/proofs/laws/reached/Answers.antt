use Rattle.et_loop.proofs.Wholes.{reached_whole, reached_kept}
use Rattle.et_loop.proofs.laws.reached.Goals as goal

pub returns : goal.returns
returns c g whole kept sound o = (reached_whole g whole kept o, reached_kept g whole kept sound o)
