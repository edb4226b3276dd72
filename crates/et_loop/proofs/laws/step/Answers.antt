use Rattle.et_loop.proofs.Wholes.{whole_after, step_kept, legal_whole}
use Rattle.et_loop.proofs.laws.step.Goals as goal

pub returns : goal.returns
returns c g whole h fresh lost kept sound legal = (whole_after whole h, step_kept g whole h fresh lost kept sound legal, legal_whole g whole h fresh lost kept sound legal)
