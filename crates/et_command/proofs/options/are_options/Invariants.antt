use Rattle.std.proofs.Common.{◌≡◌, drop, map}
use Rattle.et_command.specs.Command.{are_options}
use Rattle.et_command.proofs.options.are_options.Given as goal

abbrev pub invariant-options : goal.invariant-options
invariant-options l = are_options (map (λ name. name.now) l.names) (drop l.place l.options) ≡ are_options (map (λ name. name.now) l.names) l.options
