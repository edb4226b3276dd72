use Rattle.std.proofs.Common.{sym, ◌∙◌}
use Rattle.et_command.proofs.OptionLemmas.{any_shown}
use Rattle.et_command.proofs.options.is_among.Goals as goal

pub returns : goal.returns
returns c = c.has.ensures ∙ sym (any_shown c.args.name.now c.args.names.now)
