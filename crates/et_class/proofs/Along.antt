-- Rules on things that stand one after the other, as loops come to them.
use Rattle.std.proofs.Common.{◌≡◌, ℕ, ◌+◌, ◌<◌, ◌≤◌, List, [], ◌∷◌, ◌++◌, length, map, take, drop, get_or, Option, Bool, ◌||◌, refl, sym, ap, ◌∙◌, arith, append_assoc, length-append}
use Rattle.std.specs.List.{flat_map, list_any}
use Rattle.std.proofs.lemmas.List.{at_drop_more, at_drop_all, take_more, append-nil, map_push}
use mathlib.Core.Bool.{or-false}
use Rattle.et_pool.proofs.Types.{or_assoc}
use Rattle.et_base.specs.Marks.{Mark, first_from}
use Rattle.et_base.proofs.Firsts.{first_from-append}
use Rattle.et_class.specs.Along.{along}

pub list_any_push : {X : Type 0} (p : X → Bool) (xs : List X) (x : X) → list_any p (xs ++ x ∷ []) ≡ (list_any p xs || p x)
list_any_push p [] x = or-false (p x)
list_any_push p (y ∷ xs) x = ap (λ b. p y || b) (list_any_push p xs x) ∙ or_assoc (p y) (list_any p xs) (p x)

-- THE LOOP GOES OVER A LIST

module _ {A X : Type 0} (f : A → X) (bytes : X → List ℕ) (marks : List X → ℕ → X → List Mark) where
  -- the rules on what the list has from an index on
  abbrev pub left_from : Option (ℕ × ℕ) → List A → ℕ → ℕ → Option (ℕ × ℕ)
  left_from acc xs i place = first_from acc (along bytes marks (map f (take i xs)) place (map f (drop i xs)))

  pub taken : (xs : List A) (i : ℕ) (x : A) → i < length xs → x ≡ get_or xs i x → map f (take i xs) ++ f x ∷ [] ≡ map f (take (i + 1) xs)
  taken xs i x lt e =
      sym (ap (map f) (take_more xs i x lt) ∙ (map_push f (take i xs) (get_or xs i x) ∙ ap (λ y. map f (take i xs) ++ f y ∷ []) (sym e)))

  left_more : (acc : Option (ℕ × ℕ)) (xs : List A) (i place : ℕ) (x : A) → i < length xs → x ≡ get_or xs i x
      → left_from acc xs i place ≡ left_from (first_from acc (marks (map f (take i xs)) place (f x))) xs (i + 1) (place + length (bytes (f x)))
  unfolding along
  left_more acc xs i place x lt e =
      at_drop_more (λ ys. first_from acc (along bytes marks (map f (take i xs)) place (map f ys))) xs i x lt
      ∙ (ap (λ y. first_from acc (marks (map f (take i xs)) place (f y) ++ along bytes marks (map f (take i xs) ++ f y ∷ []) (place + length (bytes (f y))) (map f (drop (i + 1) xs)))) (sym e)
      ∙ (first_from-append acc (marks (map f (take i xs)) place (f x)) (along bytes marks (map f (take i xs) ++ f x ∷ []) (place + length (bytes (f x))) (map f (drop (i + 1) xs)))
      ∙ ap (λ ys. first_from (first_from acc (marks (map f (take i xs)) place (f x))) (along bytes marks ys (place + length (bytes (f x))) (map f (drop (i + 1) xs)))) (taken xs i x lt e)))

  left_none : (acc : Option (ℕ × ℕ)) (xs : List A) (i place : ℕ) → length xs ≤ i → left_from acc xs i place ≡ acc
  unfolding along first_from
  left_none acc xs i place le = at_drop_all (λ ys. first_from acc (along bytes marks (map f (take i xs)) place (map f ys))) xs i le

  -- how many bytes the things from an index on have
  abbrev size_from : List A → ℕ → ℕ
  size_from xs i = length (flat_map bytes (map f (drop i xs)))

  size_more : (xs : List A) (i : ℕ) (x : A) → i < length xs → x ≡ get_or xs i x → size_from xs i ≡ length (bytes (f x)) + size_from xs (i + 1)
  size_more xs i x lt e =
      at_drop_more (λ ys. length (flat_map bytes (map f ys))) xs i x lt
      ∙ (ap (λ y. length (bytes (f y) ++ flat_map bytes (map f (drop (i + 1) xs)))) (sym e)
      ∙ length-append (bytes (f x)) (flat_map bytes (map f (drop (i + 1) xs))))

  -- the first i things were looked at, and the next one stands at a place
  pub record Looked (first found : Option (ℕ × ℕ)) (xs : List A) (start i place : ℕ) : Type 0 where
    pub found_is : left_from found xs i place ≡ first_from first (along bytes marks [] start (map f xs))
    pub place_is : place + size_from xs i ≡ start + length (flat_map bytes (map f xs))

  pub looked_start : (first : Option (ℕ × ℕ)) (xs : List A) (start : ℕ) → Looked first first xs start 0 start
  looked_start first xs start = record { found_is = refl; place_is = refl }

  pub looked_more : (first found found' : Option (ℕ × ℕ)) (xs : List A) (start i place : ℕ) (x : A) → Looked first found xs start i place → i < length xs → x ≡ get_or xs i x
      → found' ≡ first_from found (marks (map f (take i xs)) place (f x)) → Looked first found' xs start (i + 1) (place + length (bytes (f x)))
  looked_more first found found' xs start i place x l lt e h =
      record {
        found_is = ap (λ acc. left_from acc xs (i + 1) (place + length (bytes (f x)))) h ∙ (sym (left_more found xs i place x lt e) ∙ l.found_is);
        place_is = omega (arith, l.place_is, size_more xs i x lt e);
      }

  pub looked_room : (first found : Option (ℕ × ℕ)) (xs : List A) (start i place : ℕ) (x : A) → Looked first found xs start i place → i < length xs → x ≡ get_or xs i x
      → place + length (bytes (f x)) ≤ start + length (flat_map bytes (map f xs))
  looked_room first found xs start i place x l lt e = omega (arith, l.place_is, size_more xs i x lt e)

  pub looked_end : (first found : Option (ℕ × ℕ)) (xs : List A) (start i place : ℕ) → Looked first found xs start i place → length xs ≤ i → found ≡ first_from first (along bytes marks [] start (map f xs))
  looked_end first found xs start i place l le = sym (left_none found xs i place le) ∙ l.found_is

-- THE LOOP READS THE THINGS

module _ {X : Type 0} (bytes : X → List ℕ) (marks : List X → ℕ → X → List Mark) where
  along-push : (before : List X) (place : ℕ) (xs : List X) (x : X) → along bytes marks before place (xs ++ x ∷ []) ≡ along bytes marks before place xs ++ marks (before ++ xs) (place + length (flat_map bytes xs)) x
  unfolding along
  along-push before place [] x =
      let p : place ≡ place + 0 = omega arith in
      append-nil (marks before place x) ∙ (ap (λ b. marks b place x) (sym (append-nil before)) ∙ ap (λ q. marks (before ++ []) q x) p)
  along-push before place (y ∷ xs) x =
      let p : place + length (bytes y) + length (flat_map bytes xs) ≡ place + length (bytes y ++ flat_map bytes xs) = omega (arith, length-append (bytes y) (flat_map bytes xs)) in
      ap (λ ms. marks before place y ++ ms) (along-push (before ++ y ∷ []) (place + length (bytes y)) xs x)
      ∙ (sym (append_assoc (marks before place y) (along bytes marks (before ++ y ∷ []) (place + length (bytes y)) xs) (marks ((before ++ y ∷ []) ++ xs) (place + length (bytes y) + length (flat_map bytes xs)) x))
      ∙ (ap (λ b. (marks before place y ++ along bytes marks (before ++ y ∷ []) (place + length (bytes y)) xs) ++ marks b (place + length (bytes y) + length (flat_map bytes xs)) x) (append_assoc before (y ∷ []) xs)
      ∙ ap (λ q. (marks before place y ++ along bytes marks (before ++ y ∷ []) (place + length (bytes y)) xs) ++ marks (before ++ y ∷ xs) q x) p))

  pub first_push : (acc : Option (ℕ × ℕ)) (place : ℕ) (xs : List X) (x : X) → first_from acc (along bytes marks [] place (xs ++ x ∷ [])) ≡ first_from (first_from acc (along bytes marks [] place xs)) (marks xs (place + length (flat_map bytes xs)) x)
  first_push acc place xs x = ap (first_from acc) (along-push [] place xs x) ∙ first_from-append acc (along bytes marks [] place xs) (marks xs (place + length (flat_map bytes xs)) x)

  pub size_push : (xs : List X) (x : X) → length (flat_map bytes (xs ++ x ∷ [])) ≡ length (flat_map bytes xs) + length (bytes x)
  size_push [] x = omega (arith, ap length (append-nil (bytes x)))
  size_push (y ∷ xs) x = omega (arith, size_push xs x, length-append (bytes y) (flat_map bytes (xs ++ x ∷ [])), length-append (bytes y) (flat_map bytes xs))

-- a test of each of the first things
pub any_more : {A X : Type 0} (f : A → X) (p : X → Bool) (xs : List A) (i : ℕ) (x : A) → i < length xs → x ≡ get_or xs i x → list_any p (map f (take (i + 1) xs)) ≡ (list_any p (map f (take i xs)) || p (f x))
any_more f p xs i x lt e = ap (list_any p) (sym (taken f (λ y. []) (λ before place y. []) xs i x lt e)) ∙ list_any_push p (map f (take i xs)) (f x)
