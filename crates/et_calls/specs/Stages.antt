-- The class of an initializer.
use Rattle.std.specs.Prelude.{ℕ, ◌<◌}
use Rattle.et_state.specs.declared.stage.Stage.{Stage}
use Rattle.et_state.specs.declared.stage.Stage.TheVariants.{Plain, Before, Clinit}

-- where a frame runs a <clinit>, its class is one of so many
abbrev pub IsClassIn : Stage → ℕ → Type 0
IsClassIn Plain count = Unit {0}
IsClassIn (Before c) count = Unit {0}
IsClassIn (Clinit c) count = c < count
