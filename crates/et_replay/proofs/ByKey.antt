-- A list in order of a key is its parts of equal key, one after another.
use Rattle.std.proofs.Common.{◌≡◌, ℕ, zero, suc, ◌<◌, ◌≤◌, Bool, true, false, eqb, ltb, List, [], ◌∷◌, ◌++◌, length, get_or, refl, sym, ap, ◌∙◌, arith, cond, inl, inr}
use Rattle.std.specs.List.{filter, All}
use Rattle.std.specs.List.Sorted.{IsNonDecreasingBy}
use Rattle.std.proofs.lemmas.Bool.Decides.{nat_tests}
use Rattle.std.proofs.lemmas.List.Elements.{filter-append}
use Rattle.et_text.proofs.Due.{le_or_above}

module _ {X : Type 0} where
  -- two tests that agree on the list
  pub filter_same : (p q : X → Bool) (xs : List X) → ((k : ℕ) (d : X) → k < length xs → p (get_or xs k d) ≡ q (get_or xs k d)) → filter p xs ≡ filter q xs
  filter_same p q [] h = refl
  filter_same p q (x ∷ xs) h =
      let here : p x ≡ q x = h 0 x (omega arith) in
      let rest = filter_same p q xs (λ k d lt. h (suc k) d (omega (arith, lt))) in
      ap (λ (b : Bool). cond b (x ∷ filter p xs) (filter p xs)) here ∙ ap (λ (t : List X). cond (q x) (x ∷ t) t) rest

  pub filter_all : (p : X → Bool) (xs : List X) → ((k : ℕ) (d : X) → k < length xs → p (get_or xs k d) ≡ true) → filter p xs ≡ xs
  filter_all p [] h = refl
  filter_all p (x ∷ xs) h =
      let here : p x ≡ true = h 0 x (omega arith) in
      let rest = filter_all p xs (λ k d lt. h (suc k) d (omega (arith, lt))) in
      rw here (ap (λ (t : List X). x ∷ t) rest)

  pub filter_none : (p : X → Bool) (xs : List X) → ((k : ℕ) (d : X) → k < length xs → p (get_or xs k d) ≡ false) → filter p xs ≡ []
  filter_none p [] h = refl
  filter_none p (x ∷ xs) h =
      let here : p x ≡ false = h 0 x (omega arith) in
      let rest = filter_none p xs (λ k d lt. h (suc k) d (omega (arith, lt))) in
      rw here rest

  swap_at : (p q : X → Bool) (x : X) (xs : List X) (a b : Bool) → p x ≡ a → q x ≡ b → filter p (filter q xs) ≡ filter q (filter p xs) → filter p (filter q (x ∷ xs)) ≡ filter q (filter p (x ∷ xs))
  swap_at p q x xs true true e f ih = rw (f, e, f) (ap (λ (t : List X). x ∷ t) ih)
  swap_at p q x xs true false e f ih = rw (f, e, f) ih
  swap_at p q x xs false true e f ih = rw (f, e) ih
  swap_at p q x xs false false e f ih = rw (f, e) ih

  pub filter_swap : (p q : X → Bool) (xs : List X) → filter p (filter q xs) ≡ filter q (filter p xs)
  filter_swap p q [] = refl
  filter_swap p q (x ∷ xs) = swap_at p q x xs (p x) (q x) refl refl (filter_swap p q xs)

module _ {X : Type 0} (key : X → ℕ) where
  abbrev pub below : ℕ → List X → List X
  below n xs = filter (λ x. ltb (key x) n) xs

  abbrev pub equal : ℕ → List X → List X
  equal n xs = filter (λ x. eqb (key x) n) xs

  rest_sorted : (x : X) (xs : List X) → IsNonDecreasingBy key (x ∷ xs) → IsNonDecreasingBy key xs
  rest_sorted x xs s = λ i j d le lt. s (suc i) (suc j) d (omega (arith, le)) (omega (arith, lt))

  least : (x : X) (xs : List X) → IsNonDecreasingBy key (x ∷ xs) → (k : ℕ) (d : X) → k < length (x ∷ xs) → key x ≤ key (get_or (x ∷ xs) k d)
  least x xs s k d lt = s 0 k d (omega arith) lt

  below_none : (n : ℕ) (x : X) (xs : List X) → IsNonDecreasingBy key (x ∷ xs) → n ≤ key x → below n (x ∷ xs) ≡ []
  below_none n x xs s le = filter_none (λ y. ltb (key y) n) (x ∷ xs) (λ k d lt. (let low = least x xs s k d lt in grind (arith, nat_tests)))

  test_same : (n m : ℕ) → n ≤ m → ltb m (suc n) ≡ eqb m n
  test_same n m le = grind (arith, nat_tests)

  -- where the list is in order, what is below n + 1 is what is below n, and then what is n
  pub below-suc : (n : ℕ) (xs : List X) → IsNonDecreasingBy key xs → below (suc n) xs ≡ below n xs ++ equal n xs
  below-suc n [] s = refl
  below-suc n (x ∷ xs) s = elim (le_or_above n (key x)) [
    | inl le ↦
        let none = below_none n x xs s le in
        filter_same (λ y. ltb (key y) (suc n)) (λ y. eqb (key y) n) (x ∷ xs) (λ k d lt. (let low = least x xs s k d lt in test_same n (key (get_or (x ∷ xs) k d)) (omega (arith, low, le))))
        ∙ ap (λ (t : List X). t ++ equal n (x ∷ xs)) (sym none)
    | inr gt ↦
        let a : ltb (key x) (suc n) ≡ true = grind (arith, nat_tests) in
        let b : ltb (key x) n ≡ true = grind (arith, nat_tests) in
        let c : eqb (key x) n ≡ false = grind (arith, nat_tests) in
        let ih = below-suc n xs (rest_sorted x xs s) in
        rw (a, b, c) (ap (λ (t : List X). x ∷ t) ih)
  ]

  pub below-all : (n : ℕ) (xs : List X) → All (λ x. key x < n) xs → below n xs ≡ xs
  below-all n xs h = filter_all (λ y. ltb (key y) n) xs (λ k d lt. (let low = h k d lt in grind (arith, nat_tests)))

  pub below-zero : (xs : List X) → below 0 xs ≡ []
  below-zero xs = filter_none (λ y. ltb (key y) 0) xs (λ k d lt. grind (arith, nat_tests))

  -- what passes a test, by the parts of equal key
  same_below : (p : X → Bool) (n : ℕ) (xs ys : List X) → IsNonDecreasingBy key xs → IsNonDecreasingBy key ys → ((m : ℕ) → filter p (equal m xs) ≡ filter p (equal m ys)) → filter p (below n xs) ≡ filter p (below n ys)
  same_below p zero xs ys s t h = ap (λ (v : List X). filter p v) (below-zero xs ∙ sym (below-zero ys))
  same_below p (suc n) xs ys s t h =
      ap (λ (v : List X). filter p v) (below-suc n xs s)
      ∙ (filter-append p (below n xs) (equal n xs)
      ∙ (ap (λ (v : List X). v ++ filter p (equal n xs)) (same_below p n xs ys s t h)
      ∙ (ap (λ (v : List X). filter p (below n ys) ++ v) (h n)
      ∙ (sym (filter-append p (below n ys) (equal n ys)) ∙ ap (λ (v : List X). filter p v) (sym (below-suc n ys t))))))

  pub same_by_key : (p : X → Bool) (n : ℕ) (xs ys : List X) → IsNonDecreasingBy key xs → IsNonDecreasingBy key ys → All (λ x. key x < n) xs → All (λ x. key x < n) ys → ((m : ℕ) → filter p (equal m xs) ≡ filter p (equal m ys)) → filter p xs ≡ filter p ys
  same_by_key p n xs ys s t a b h = ap (λ (v : List X). filter p v) (sym (below-all n xs a)) ∙ (same_below p n xs ys s t h ∙ ap (λ (v : List X). filter p v) (below-all n ys b))
