use Rattle.std.proofs.Common.{◌≡◌, ap, ◌∙◌}
use Rattle.indexmap.specs.IndexSet.{insert_key}
use Rattle.et_asm.proofs.Alike.{alike}
use Rattle.et_asm.proofs.uses.insert.Goals as goal

pub returns : goal.returns
returns c = c.in_ok-insert.ensures.keys ∙ ap (λ eq. insert_key eq c.args.pool.now.keys c.args.e) alike
