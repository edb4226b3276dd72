-- How redeclared methods are found.
use Rattle.std.specs.Prelude.{◌≡◌, ℕ, ◌<◌, not, nat_lt, if◌then◌else◌, ◌&&◌, Bool, true, false, List, Option, None, Some}
use Rattle.std.specs.List.{list_any}
use Rattle.et_hierarchy.specs.Outline.{Outline}
use Rattle.et_hierarchy.specs.Ancestry.{Ancestry, ancestry_at}
use Rattle.et_program.specs.declared.info.MethodInfo.{MethodInfo}
use Rattle.et_program.specs.LinkFaults.{may_redeclare, is_package_private, method_numbered, same_in, is_same_package}

abbrev pub is_private_at : List MethodInfo → Option ℕ → Bool
is_private_at methods None = false
is_private_at methods (Some j) = is_package_private (method_numbered methods j)

-- class s is in another package than class k and has a package-private method like m
abbrev pub hides : List Outline → List MethodInfo → MethodInfo → ℕ → Bool
hides set methods m s = not (is_same_package set m.class s) && is_private_at methods (same_in methods m s)

abbrev pub crosses : List Outline → List Ancestry → List MethodInfo → MethodInfo → Bool
crosses set rows methods m = may_redeclare m && list_any (hides set methods m) (ancestry_at rows m.class).supers

abbrev pub lesser : Option ℕ → ℕ → ℕ
lesser None k = k
lesser (Some j) k = if nat_lt k j then k else j

-- the least class of which one of the first n methods passes the test, or none
pub record IsLeastClass (test : MethodInfo → Bool) (methods : List MethodInfo) (n k : ℕ) : Type 0 where
  pub at : ℕ
  pub within : at < n
  pub of_class : (method_numbered methods at).class ≡ k
  pub passes : test (method_numbered methods at) ≡ true
  pub least : (j : ℕ) → j < n → test (method_numbered methods j) ≡ true → (method_numbered methods j).class < k → ⊥

abbrev pub AnswersLeast : (MethodInfo → Bool) → List MethodInfo → ℕ → Option ℕ → Type 0
AnswersLeast test methods n None = (j : ℕ) → j < n → test (method_numbered methods j) ≡ true → ⊥
AnswersLeast test methods n (Some k) = IsLeastClass test methods n k
