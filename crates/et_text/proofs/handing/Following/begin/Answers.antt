use Rattle.std.proofs.Common.{refl}
use Rattle.et_text.proofs.handing.Following.begin.Goals as goal

pub returns : goal.returns
returns g c = λ version new. record { stands = c.begin.ensures; fine = tt; at = refl; followed = new }
