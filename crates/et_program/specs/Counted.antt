-- Methods counted one after another.
use Rattle.std.specs.Prelude.{ℕ, ◌<◌, Option, None, Some}
use Rattle.et_program.specs.declared.errors.Specific.{Specific}
use Rattle.et_program.specs.declared.errors.Specific.TheVariants.{Nothing, One, Several}

abbrev pub and_more : Specific → Option ℕ → Specific
and_more found None = found
and_more Nothing (Some m) = One m
and_more (One n) (Some m) = Several
and_more Several (Some m) = Several

abbrev pub IsOneBelow : ℕ → Specific → Type 0
IsOneBelow n Nothing = Unit {0}
IsOneBelow n (One m) = m < n
IsOneBelow n Several = Unit {0}
