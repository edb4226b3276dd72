use Rattle.std.proofs.Common.{◌∙◌}
use Rattle.et_convert.proofs.Converting.{first_says, some_first}
use Rattle.et_convert.proofs.conversion.version_of.Goals as goal

pub returns-in-Some : goal.returns-in-Some
returns-in-Some c = c.version_in.ensures ∙ first_says c.args.lines.now c.in-Some.header.now c.requires.good c.in-Some.ensures.value

pub returns-in-None : goal.returns-in-None
returns-in-None c = absurd (some_first c.args.lines.now c.requires.good c.in-None.ensures.value)
