use Rattle.std.proofs.Common.{◌≡◌, None, rules}
use Rattle.std.specs.Prelude.{slice_get}
use Rattle.et_initialize.proofs.Strings.{no_text_of}
use Rattle.et_initialize.proofs.limits.text_of.Goals as goal

pub returns-in-None : goal.returns-in-None
returns-in-None c =
    let none : slice_get c.args.program.now.pools c.field-info.result.now.class ≡ None = search rules in
    no_text_of c.args.program.now c.args.field c.field-info.result.now c.field-info.ensures.value none
