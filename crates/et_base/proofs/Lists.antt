-- Membership in lists, by cases.
use Rattle.std.proofs.Common.{◌≡◌, ℕ, zero, suc, ◌<◌, ◌==◌, ◌&&◌, ◌⊎◌, Bool, true, false, cond, List, [], ◌∷◌, filter, length, Contains, refl, sym, ap, ◌∙◌, subst, inl, inr, arith, ◌+◌, ◌++◌, get_or, replicate}
use Rattle.std.specs.List.{list_any, list_all}
use Rattle.std.proofs.lemmas.Bool.{cases_eq, eqb-true, eq-eqb, or_cases, or_left, or_right, cases_lt}
use Rattle.std.proofs.lemmas.List.Elements.{All-contains, All-filter, filter_passes, All-contains_itself, Contains-push_cases}
use Rattle.std.specs.List.Sorted.{IsStrictlyIncreasing}
use Rattle.std.specs.Str.{bytes_eq}
use Rattle.std.proofs.lemmas.List.{length-append, get_or_append_left, get_or_push}
use Rattle.std.proofs.lemmas.Slice.Eq.{bytes_eq-Decides}
use mathlib.Core.Logic.{⊎_elim}

-- a fact holds or it doesn't
abbrev pub Cases : Type 0 → Type 0
Cases P = P ⊎ (P → ⊥)

pub Contains-none : {X : Type 0} (x : X) → Contains [] x → ⊥
Contains-none x c = let h : c.0 < 0 = c.1 in absurd (omega arith)

pub Contains-here : {X : Type 0} (x : X) (xs : List X) → Contains (x ∷ xs) x
Contains-here x xs = (0, omega arith, refl)

pub Contains-there : {X : Type 0} (y : X) (xs : List X) (x : X) → Contains xs x → Contains (y ∷ xs) x
Contains-there y xs x (k, lt, e) = (suc k, omega arith, e)

pub Contains-cons : {X : Type 0} (y : X) (xs : List X) (x : X) → Contains (y ∷ xs) x → (y ≡ x) ⊎ Contains xs x
Contains-cons y xs x (zero, lt, e) = inl e
Contains-cons y xs x (suc k, lt, e) = inr (k, omega arith, e)

pub cases_contains : {X : Type 0} → ((a b : X) → Cases (a ≡ b)) → (xs : List X) (x : X) → Cases (Contains xs x)
cases_contains same [] x = inr (λ c. Contains-none x c)
cases_contains {X} same (y ∷ xs) x =
    elim (same y x) [
      | inl e ↦ inl (subst (λ (z : X). Contains (z ∷ xs) x) (sym e) (Contains-here x xs))
      | inr ne ↦ elim (cases_contains same xs x) [
        | inl c ↦ inl (Contains-there y xs x c)
        | inr out ↦ inr (λ c. elim (Contains-cons y xs x c) [ inl e ↦ ne e | inr d ↦ out d ])
      ]
    ]

pub cases_number : (xs : List ℕ) (x : ℕ) → Cases (Contains xs x)
cases_number xs x = cases_contains cases_eq xs x

pub pair_from : (p q : ℕ × ℕ) → p.0 ≡ q.0 → p.1 ≡ q.1 → p ≡ q
pair_from p q e f = ap (λ (a : ℕ). (a, p.1)) e ∙ ap (λ (b : ℕ). (q.0, b)) f

pub cases_same_pair : (p q : ℕ × ℕ) → Cases (p ≡ q)
cases_same_pair p q =
    elim (cases_eq p.0 q.0) [
      | inl e ↦ elim (cases_eq p.1 q.1) [
        | inl f ↦ inl (pair_from p q e f)
        | inr nf ↦ inr (λ (h : p ≡ q). nf (ap (λ (r : ℕ × ℕ). r.1) h))
      ]
      | inr ne ↦ inr (λ (h : p ≡ q). ne (ap (λ (r : ℕ × ℕ). r.0) h))
    ]

pub cases_pair : (ps : List (ℕ × ℕ)) (p : ℕ × ℕ) → Cases (Contains ps p)
cases_pair ps p = cases_contains cases_same_pair ps p

pub filter_kept : {X : Type 0} (p : X → Bool) (xs : List X) (x : X) → Contains (filter p xs) x → Contains xs x × (p x ≡ true)
filter_kept p xs x c = (
  All-contains (Contains xs) (filter p xs) x (All-filter p (Contains xs) xs (All-contains_itself xs)) c,
  All-contains (λ y. p y ≡ true) (filter p xs) x (filter_passes p xs) c,
)

filter_keeps_at : {X : Type 0} (b : Bool) (y : X) (ys : List X) (x : X) → ((y ≡ x) × (b ≡ true)) ⊎ Contains ys x → Contains (cond b (y ∷ ys) ys) x
filter_keeps_at true y ys x (inl h) = subst (λ z. Contains (y ∷ ys) z) h.0 (Contains-here y ys)
filter_keeps_at true y ys x (inr c) = Contains-there y ys x c
filter_keeps_at false y ys x (inl h) = absurd (let e : false ≡ true = h.1 in cc)
filter_keeps_at false y ys x (inr c) = c

pub filter_keeps : {X : Type 0} (p : X → Bool) (xs : List X) (x : X) → Contains xs x → p x ≡ true → Contains (filter p xs) x
filter_keeps p [] x c t = absurd (Contains-none x c)
filter_keeps {X} p (y ∷ ys) x c t =
    filter_keeps_at (p y) y (filter p ys) x
    (elim (Contains-cons y ys x c) [
      | inl e ↦ inl (e, subst (λ (z : X). p z ≡ true) (sym e) t)
      | inr d ↦ inr (filter_keeps p ys x d t)
    ])

-- `list_any` of a test that picks out x says whether the list contains x
pub any_contains : {X : Type 0} (t : X → Bool) (x : X) → ((y : X) → t y ≡ true → y ≡ x) → (xs : List X) → list_any t xs ≡ true → Contains xs x
any_contains t x picks [] h = absurd (cc)
any_contains {X} t x picks (y ∷ ys) h =
    elim (or_cases (t y) (list_any t ys) h) [
      | inl e ↦ subst (λ (z : X). Contains (y ∷ ys) z) (picks y e) (Contains-here y ys)
      | inr r ↦ Contains-there y ys x (any_contains t x picks ys r)
    ]

pub contains_any : {X : Type 0} (t : X → Bool) (x : X) → t x ≡ true → (xs : List X) → Contains xs x → list_any t xs ≡ true
contains_any t x tx [] c = absurd (Contains-none x c)
contains_any {X} t x tx (y ∷ ys) c =
    elim (Contains-cons y ys x c) [
      | inl e ↦ or_left (t y) (list_any t ys) (subst (λ (z : X). t z ≡ true) (sym e) tx)
      | inr d ↦ or_right (t y) (list_any t ys) (contains_any t x tx ys d)
    ]

pub has_contains : (xs : List ℕ) (x : ℕ) → list_any (λ y. y == x) xs ≡ true → Contains xs x
has_contains xs x h = any_contains (λ y. y == x) x (λ y t. eqb-true y x t) xs h

pub contains_has : (xs : List ℕ) (x : ℕ) → Contains xs x → list_any (λ y. y == x) xs ≡ true
contains_has xs x c = contains_any (λ y. y == x) x (eq-eqb x x refl) xs c

-- a list of no length is empty
pub none_long : {X : Type 0} (xs : List X) → length xs ≡ 0 → xs ≡ []
none_long [] e = refl
none_long (x ∷ xs) e = absurd (omega arith)

pub Contains-one : {X : Type 0} (x y : X) → Contains (x ∷ []) y → x ≡ y
Contains-one x y c = elim (Contains-cons x [] y c) [ inl e ↦ e | inr d ↦ absurd (Contains-none y d) ]

-- what is in a list with one more at its end
pub in_longer : (xs : List ℕ) (x y : ℕ) → Contains (xs ++ x ∷ []) y → Contains xs y ⊎ (y ≡ x)
in_longer xs x y c = elim (Contains-push_cases xs x y c) [ inl d ↦ inl d | inr e ↦ inr (sym e) ]

-- a list that rises, with a greater number at its end
pub rising_push : (xs : List ℕ) (x : ℕ) → IsStrictlyIncreasing xs → ((k : ℕ) → k < length xs → get_or xs k 0 < x) → IsStrictlyIncreasing (xs ++ x ∷ [])
rising_push xs x rising below k lt =
    ⊎_elim
    (λ b. omega (arith, rising k b, get_or_append_left xs (x ∷ []) 0 k (omega arith), get_or_append_left xs (x ∷ []) 0 (k + 1) b))
    (λ g.
    let e : length xs ≡ k + 1 = omega (arith, length-append xs (x ∷ [])) in
    omega (arith, below k (omega arith), get_or_append_left xs (x ∷ []) 0 k (omega arith), get_or_push xs x 0 (k + 1) e))
    (cases_lt (k + 1) (length xs))

pub all_true : (p : ℕ → Bool) (xs : List ℕ) → ((x : ℕ) → Contains xs x → p x ≡ true) → list_all p xs ≡ true
all_true p [] h = refl
all_true p (x ∷ xs) h = ap (λ (b : Bool). b && list_all p xs) (h x (Contains-here x xs)) ∙ all_true p xs (λ y c. h y (Contains-there x xs y c))

pub all_same : {A : Type 0} (n k : ℕ) (x : A) → get_or (replicate n x) k x ≡ x
all_same zero k x = refl
all_same (suc n) zero x = refl
all_same (suc n) (suc k) x = all_same n k x

pub same_bytes : (a : List ℕ) → bytes_eq a a ≡ true
same_bytes a = (bytes_eq-Decides a a).1 refl
