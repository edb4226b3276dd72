-- The bytes in the table are those of the objects.
use Rattle.std.proofs.Common.{◌≡◌, ◌≢◌, ℕ, suc, ◌+◌, ◌<◌, Bool, true, false, cond, eqb, List, [], ◌∷◌, length, filter, Option, Some, None, refl, sym, ap, subst, ◌∙◌, arith, inl, inr}
use Rattle.std.specs.Prelude.{Contains, unwrap_or}
use Rattle.std.specs.List.{sum_by, AllByRecursion, IsDistinct}
use Rattle.std.proofs.Math.ListN.{set}
use Rattle.std.proofs.lemmas.List.{get_or_past, get_or-set_same, get_or-set_other}
use Rattle.std.proofs.lemmas.List.Sums.{sum_by-cons, sum_by-set}
use Rattle.std.proofs.lemmas.Bool.{cases_lt}
use Rattle.et_replay.proofs.Coming.{not_both}
use Rattle.et_base.proofs.Lists.{Contains-none, Contains-here, Contains-there, Contains-cons}
use Rattle.et_base.proofs.Tests.{cases_eqb}
use Rattle.et_refcount.specs.declared.objects.Place.{Place}
use Rattle.et_refcount.specs.declared.objects.Place.TheVariants.{Unmade, Gone}
use Rattle.et_refcount.specs.Objects.{size_of, held_at, weight_of, weight}

-- the first of distinct numbers isn't among the others
pub first_apart : (x : ℕ) (xs : List ℕ) → IsDistinct eqb (x ∷ xs) → (y : ℕ) → Contains xs y → y ≢ x
unfolding IsDistinct
first_apart x xs d y c = apart xs d.0 y c
  where
    apart : (ys : List ℕ) → AllByRecursion (λ z. eqb x z ≡ false) ys → (y : ℕ) → Contains ys y → y ≢ x
    apart [] a y c = absurd (Contains-none y c)
    apart (z ∷ ys) a y c = elim (Contains-cons z ys y c) [
      | inl e ↦ λ q. elim (cases_eqb x z) [ inl f ↦ not_both (eqb x z) f.0 a.0 | inr f ↦ (let far = f.1 in far (sym q ∙ sym e)) ]
      | inr r ↦ apart ys a.1 y r
    ]

pub rest_distinct : (x : ℕ) (xs : List ℕ) → IsDistinct eqb (x ∷ xs) → IsDistinct eqb xs
unfolding IsDistinct
rest_distinct x xs d = d.1

filter_apart : (p : ℕ → Bool) (x : ℕ) (ys : List ℕ) → AllByRecursion (λ z. eqb x z ≡ false) ys → AllByRecursion (λ z. eqb x z ≡ false) (filter p ys)
filter_apart p x [] a = tt
filter_apart p x (y ∷ ys) a = elim (p y) as (λ b. AllByRecursion (λ z. eqb x z ≡ false) (cond b (y ∷ filter p ys) (filter p ys))) [ true ↦ (a.0, filter_apart p x ys a.1) | false ↦ filter_apart p x ys a.1 ]

pub filter_distinct : (p : ℕ → Bool) (xs : List ℕ) → IsDistinct eqb xs → IsDistinct eqb (filter p xs)
unfolding IsDistinct
filter_distinct p [] d = tt
filter_distinct p (x ∷ xs) d = elim (p x) as (λ b. IsDistinct eqb (cond b (x ∷ filter p xs) (filter p xs))) [ true ↦ (filter_apart p x xs d.0, filter_distinct p xs d.1) | false ↦ filter_distinct p xs d.1 ]

-- nothing is held
weight_none : (places : List Place) → ((o : ℕ) → held_at places o ≡ None) → weight places ≡ 0
weight_none [] h = refl
weight_none (x ∷ places) h =
    let here : weight_of x ≡ 0 = ap (λ (z : Option ℕ). unwrap_or z 0) (h 0) in
    let rest = weight_none places (λ o. h (suc o)) in
    let s = sum_by-cons weight_of x places in
    omega (arith, here, rest, s)

-- what is held is these objects, of these sizes
pub weight_is_sum : (f : ℕ → ℕ) (xs : List ℕ) (places : List Place) → IsDistinct eqb xs → ((o : ℕ) → Contains xs o → held_at places o ≡ Some (f o)) → ((o : ℕ) → (Contains xs o → ⊥) → held_at places o ≡ None) → weight places ≡ sum_by f xs
weight_is_sum f [] places d is none = weight_none places (λ o. none o (λ c. Contains-none o c))
weight_is_sum f (x ∷ xs) places d is none =
    let here = is x (Contains-here x xs) in
    let lt : x < length places = elim (cases_lt x (length places)) [ inl lt ↦ lt | inr ge ↦ absurd (some_none (f x) (sym here ∙ ap (λ (p : Place). size_of p) (get_or_past places x Unmade ge))) ] in
    let places' = set places x Gone in
    let there : (o : ℕ) → o ≢ x → held_at places' o ≡ held_at places o = λ o ne. ap (λ (p : Place). size_of p) (get_or-set_other places x o Gone Unmade ne) in
    let rest = weight_is_sum f xs places' (rest_distinct x xs d)
    (λ o c. there o (first_apart x xs d o c) ∙ is o (Contains-there x xs o c))
    (λ o out. elim (cases_eqb o x) [
      | inl e ↦ subst (λ (k : ℕ). held_at places' k ≡ None) (sym e.1) (ap (λ (p : Place). size_of p) (get_or-set_same places x Gone Unmade lt))
      | inr e ↦ there o e.1 ∙ none o (λ c. elim (Contains-cons x xs o c) [ inl q ↦ (let far = e.1 in far (sym q)) | inr r ↦ out r ])
    ]) in
    let s = sum_by-set weight_of places x Gone Unmade lt in
    let was : unwrap_or (held_at places x) 0 ≡ f x = ap (λ (z : Option ℕ). unwrap_or z 0) here in
    let all = sum_by-cons f x xs in
    omega (arith, rest, s, was, all)
  where
    some_none : (n : ℕ) → Some n ≡ None → ⊥
    some_none n e = cc

-- one of distinct numbers is taken out of those that pass
pub sum_without : (f : ℕ → ℕ) (p q : ℕ → Bool) (x : ℕ) (xs : List ℕ) → IsDistinct eqb xs → Contains xs x → p x ≡ true → q x ≡ false → ((o : ℕ) → o ≢ x → q o ≡ p o) → sum_by f (filter q xs) + f x ≡ sum_by f (filter p xs)
sum_without f p q x [] d c px qx same = absurd (Contains-none x c)
sum_without f p q x (y ∷ ys) d c px qx same = elim (cases_eqb y x) [
  | inl e ↦
      let apart : (o : ℕ) → Contains ys o → o ≢ x = λ o k. subst (λ (z : ℕ). o ≢ z) e.1 (first_apart y ys d o k) in
      let rest : filter q ys ≡ filter p ys = agree ys (λ o k. same o (apart o k)) in
      let py : p y ≡ true = ap p e.1 ∙ px in
      let qy : q y ≡ false = ap q e.1 ∙ qx in
      let left : sum_by f (filter q (y ∷ ys)) ≡ sum_by f (filter p ys) = ap (λ (b : Bool). sum_by f (cond b (y ∷ filter q ys) (filter q ys))) qy ∙ ap (λ (l : List ℕ). sum_by f l) rest in
      let right : sum_by f (filter p (y ∷ ys)) ≡ f y + sum_by f (filter p ys) = ap (λ (b : Bool). sum_by f (cond b (y ∷ filter p ys) (filter p ys))) py ∙ sum_by-cons f y (filter p ys) in
      let fy : f y ≡ f x = ap f e.1 in
      omega (arith, left, right, fy)
  | inr e ↦
      let k : Contains ys x = elim (Contains-cons y ys x c) [ inl g ↦ absurd (let far = e.1 in far g) | inr r ↦ r ] in
      let ih = sum_without f p q x ys (rest_distinct y ys d) k px qx same in
      let both : q y ≡ p y = same y e.1 in
      let left : sum_by f (filter q (y ∷ ys)) ≡ sum_by f (cond (p y) (y ∷ filter q ys) (filter q ys)) = ap (λ (b : Bool). sum_by f (cond b (y ∷ filter q ys) (filter q ys))) both in
      left_plus (p y) (sum_by f (filter q (y ∷ ys))) left ih
]
  where
    agree : (zs : List ℕ) → ((o : ℕ) → Contains zs o → q o ≡ p o) → filter q zs ≡ filter p zs
    agree [] h = refl
    agree (z ∷ zs) h =
        let here = h z (Contains-here z zs) in
        let rest = agree zs (λ o k. h o (Contains-there z zs o k)) in
        ap (λ (b : Bool). cond b (z ∷ filter q zs) (filter q zs)) here ∙ ap (λ (l : List ℕ). cond (p z) (z ∷ l) l) rest

    left_plus : (b : Bool) (n : ℕ) → n ≡ sum_by f (cond b (y ∷ filter q ys) (filter q ys)) → sum_by f (filter q ys) + f x ≡ sum_by f (filter p ys) → n + f x ≡ sum_by f (cond b (y ∷ filter p ys) (filter p ys))
    left_plus true n e ih = let a = sum_by-cons f y (filter q ys) in let b = sum_by-cons f y (filter p ys) in omega (arith, e, ih, a, b)
    left_plus false n e ih = omega (arith, e, ih)
