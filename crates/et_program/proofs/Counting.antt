-- Counting a list of methods from the front.
use Rattle.std.proofs.Common.{◌≡◌, ℕ, List, [], ◌∷◌, Option, None, Some, refl}
use Rattle.std.specs.List.{cons_option}
use Rattle.et_program.specs.declared.errors.Specific.{Specific}
use Rattle.et_program.specs.declared.errors.Specific.TheVariants.{Nothing, One, Several}
use Rattle.et_program.specs.Members.{amount}
use Rattle.et_program.specs.Counted.{and_more}

-- what those found and those of a list amount to
abbrev pub amount_after : Specific → List ℕ → Specific
amount_after Nothing ms = amount ms
amount_after (One m) [] = One m
amount_after (One m) (n ∷ ms) = Several
amount_after Several ms = Several

pub amount_after-and_more : (found : Specific) (o : Option ℕ) (ms : List ℕ) → amount_after (and_more found o) ms ≡ amount_after found (cons_option o ms)
amount_after-and_more found None ms = refl
amount_after-and_more Nothing (Some m) [] = refl
amount_after-and_more Nothing (Some m) (n ∷ ms) = refl
amount_after-and_more (One k) (Some m) ms = refl
amount_after-and_more Several (Some m) ms = refl

pub amount_after-none : (found : Specific) → amount_after found [] ≡ found
amount_after-none Nothing = refl
amount_after-none (One m) = refl
amount_after-none Several = refl

pub ruleset counting_rules = (amount_after-and_more, amount_after-none)
