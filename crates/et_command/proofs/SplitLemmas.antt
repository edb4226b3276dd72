-- Options before the parts of what is behind them.
use Rattle.std.specs.Prelude.{List, ◌++◌, Option, option_map}
use Rattle.et_command.specs.Words.{Given, Split}

abbrev pub after : List Given → Option Split → Option Split
after options rest = option_map (λ s. record { options = options ++ s.options; operands = s.operands }) rest
