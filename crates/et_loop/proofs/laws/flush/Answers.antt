use Rattle.et_loop.proofs.Wholes.{whole_flushed, flush_kept, flush_whole}
use Rattle.et_loop.proofs.laws.flush.Goals as goal

pub returns : goal.returns
returns c g whole h reports kept sound cleared dead = (whole_flushed whole h, flush_kept g whole h reports kept sound cleared dead, flush_whole g whole h reports kept sound cleared dead)
