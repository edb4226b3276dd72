-- What contracts see of the parts of a command line.
use Rattle.std.specs.Prelude.{◌≡◌, ℕ, ◌<◌, List, true, false, None, map, string_bytes, length}
use Rattle.et_command.specs.declared.split.Step.{Step}
use Rattle.et_command.specs.declared.split.Step.TheVariants as steps
use Rattle.et_command.specs.declared.split as code
use Rattle.et_command.specs.Words.{Split, begins_option, ends_options, split, only_operands, with_option}

abbrev pub split_of : code.Split.Split → Split
split_of s = record { options = s.options.items; operands = map string_bytes s.operands.now }

-- the word is an option, or begins one
pub record IsOption (word : List ℕ) : Type 0 where
  pub begins : begins_option word ≡ true
  pub goes_on : ends_options word ≡ false

-- the first part of some words: operands from here on, an option without a value, or an option and what is behind it
abbrev pub IsAsStepBegins : List (List ℕ) → Step → Type 0
IsAsStepBegins words (steps.Operands operands) = split words ≡ only_operands (map string_bytes operands.now)
IsAsStepBegins words steps.NoValue = split words ≡ None
IsAsStepBegins words (steps.Option given behind) =
    (split words ≡ with_option given (split (map string_bytes behind.now))) × (length behind.now < length words)
