-- WHAT THE VERIFIER ANSWERS.
use Rattle.std.specs.Prelude.{◌≡◌, ℕ, List, ◌∷◌, ◌++◌, length, filter, is_some, Result, Ok, Err, IsSome, Contains}
use Rattle.et_program.specs.Entries.{Linked, method_at}
use Rattle.et_verify.specs.declared.verdict.VerifyFault.{VerifyFault}
use Rattle.et_verify.specs.declared.verdict.VerifyFault.TheVariants.{Rejected, NoMemory}
use Rattle.et_verify.specs.Typings.{HasTyping, IsVerified}

-- how many methods of the files have code
abbrev pub verified_count : Linked → ℕ
verified_count p = length (filter (λ m. is_some (method_at p m).code) p.file_methods)

-- the first method of the files, in their order, that has code and no typing
pub record IsFirstRejected (p : Linked) (m : ℕ) : Type 0 where
  pub before : List ℕ
  pub after : List ℕ
  pub place : p.file_methods ≡ before ++ m ∷ after
  pub code : IsSome (method_at p m).code
  pub none : HasTyping p m → ⊥
  pub others : (k : ℕ) → Contains before k → HasTyping p k

abbrev pub Verifies : Linked → Result ℕ VerifyFault → Type 0
Verifies p (Ok n) = IsVerified p × (n ≡ verified_count p)
Verifies p (Err (Rejected m)) = IsFirstRejected p m
Verifies p (Err NoMemory) = Unit {0}
