use Rattle.std.proofs.Common.{◌≡◌, drop}
use Rattle.et_command.specs.Command.{option_value}
use Rattle.et_command.proofs.options.value_of.Given as goal

abbrev pub invariant-options : goal.invariant-options
invariant-options l = option_value l.name (drop l.option-index l.options) ≡ option_value l.name l.options
