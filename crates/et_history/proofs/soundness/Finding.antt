-- What a search finds.
use Rattle.std.proofs.Common.{◌≡◌, Bool, true, false, List, [], ◌∷◌, Some, None, subst}
use Rattle.std.specs.Prelude.{All, find, if◌then◌else◌}
use Rattle.std.proofs.lemmas.List.Elements.{All-head, All-tail}

-- what holds of each holds of what is found
pub find_holds : {A : Type 0} (P : A → Type 0) (test : A → Bool) (xs : List A) (found : A) → All P xs → find test xs ≡ Some found → P found
find_holds P test [] found all e = absurd (nothing e)
  where
    nothing : None ≡ Some found → ⊥
    nothing q = cc
find_holds P test (x ∷ xs) found all e = by (test x) e (find_holds P test xs found (All-tail P x xs all))
  where
    same : Some x ≡ Some found → x ≡ found
    same q = cc

    by : (b : Bool) → (if b then Some x else find test xs) ≡ Some found → (find test xs ≡ Some found → P found) → P found
    by true q rest = subst P (same q) (All-head P x xs all)
    by false q rest = rest q
