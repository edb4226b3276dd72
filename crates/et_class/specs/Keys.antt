-- A set of names and descriptors, as the code keeps it.
use Rattle.std.specs.Prelude.{ℕ, List, Bool, false, Option, Some, None}
use Rattle.std.specs.Borrow.{Bor}
use Rattle.std.specs.HashSet.{HashSet, contains_by}
use Rattle.et_class.specs.Names.{same_key}

abbrev pub has_member_key : {S : Type 0} → HashSet (Bor (List ℕ) × Bor (List ℕ)) S → List ℕ × List ℕ → Bool
has_member_key s q = contains_by (λ k. same_key q (k.0.now, k.1.now)) s

abbrev pub has_some_key : {S : Type 0} → HashSet (Bor (List ℕ) × Bor (List ℕ)) S → Option (List ℕ × List ℕ) → Bool
has_some_key s None = false
has_some_key s (Some q) = has_member_key s q
