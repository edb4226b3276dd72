-- A place that was found is one of the list.
use Rattle.std.proofs.Common.{◌≡◌, ℕ, ◌+◌, ◌<◌, suc, Bool, true, false, cond, List, [], ◌∷◌, length, Option, Some, IfSome, sym, subst, arith}
use Rattle.std.specs.List.{position_from}
use Rattle.et_program.specs.Entries.{Linked}
use Rattle.et_program.specs.Members.{class_named, method_in, field_in, is_method, is_field, base_array}

below : (o : Option ℕ) (a b : ℕ) → a ≡ b → IfSome o (λ j. j < a) → IfSome o (λ j. j < b)
below o a b e h = subst (λ n. IfSome o (λ j. j < n)) e h

pub position_below : {X : Type 0} (t : X → Bool) (i : ℕ) (xs : List X) → IfSome (position_from t i xs) (λ j. j < i + length xs)
position_below t i [] = tt
position_below t i (x ∷ xs) =
    let here : i < i + suc (length xs) = omega arith in
    let same : i + 1 + length xs ≡ i + suc (length xs) = omega arith in
    let rest : IfSome (position_from t (i + 1) xs) (λ j. j < i + suc (length xs)) = below _ _ _ same (position_below t (i + 1) xs) in
    elim (t x) as (λ b. IfSome (cond b (Some i) (position_from t (i + 1) xs)) (λ j. j < i + suc (length xs))) [ true ↦ here | false ↦ rest ]

pub position_within : {X : Type 0} (t : X → Bool) (xs : List X) → IfSome (position_from t 0 xs) (λ j. j < length xs)
position_within t xs = let e : 0 + length xs ≡ length xs = omega arith in below _ _ _ e (position_below t 0 xs)

pub method_within : (p : Linked) (name descriptor : List ℕ) (c : ℕ) (o : Option ℕ) → o ≡ method_in p name descriptor c → IfSome o (λ m. m < length p.methods)
method_within p name descriptor c o e = subst (λ (r : Option ℕ). IfSome r (λ m. m < length p.methods)) (sym e) (position_within (is_method name descriptor c) p.methods)

pub field_within : (p : Linked) (name descriptor : List ℕ) (c : ℕ) (o : Option ℕ) → o ≡ field_in p name descriptor c → IfSome o (λ f. f < length p.fields)
field_within p name descriptor c o e = subst (λ (r : Option ℕ). IfSome r (λ f. f < length p.fields)) (sym e) (position_within (is_field name descriptor c) p.fields)

pub class_found_within : (p : Linked) (name : List ℕ) (o : Option ℕ) → o ≡ class_named p name → IfSome o (λ c. c < length p.classes)
class_found_within p name o e = subst (λ (r : Option ℕ). IfSome r (λ c. c < length p.classes)) (sym e) (position_within _ p.classes)

pub base_array_within : (p : Linked) (kind : ℕ) (o : Option ℕ) → o ≡ base_array p kind → IfSome o (λ c. c < length p.classes)
base_array_within p kind o e = subst (λ (r : Option ℕ). IfSome r (λ c. c < length p.classes)) (sym e) (position_within _ p.classes)
