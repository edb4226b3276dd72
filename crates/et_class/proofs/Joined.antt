-- The rules of a part with places of its own, behind others.
use Rattle.std.proofs.Common.{◌≡◌, ℕ, ◌+◌, ◌<◌, Bool, true, false, cond, List, [], ◌∷◌, map, Option, Some, None, refl, sym, ap, ◌∙◌, arith, ◌⊎◌, inl, inr}
use Rattle.std.specs.Prelude.{option_map}
use Rattle.std.proofs.lemmas.Bool.{cases_lt, ltb-true, ltb-false}
use Rattle.et_base.specs.Marks.{Mark, MarksAre, IsFirstBroken, is_mark_before, first_of_two, marked, first_from}
use Rattle.et_base.proofs.Firsts.{one, found_is_first}
use Rattle.et_class.specs.Codes.{mark_moved}

-- one place and kind before another
abbrev Before : ℕ × ℕ → ℕ × ℕ → Type 0
Before a b = (a.0 < b.0) ⊎ ((a.0 ≡ b.0) × (a.1 < b.1))

yes : (a b : ℕ × ℕ) → Before a b → is_mark_before a b ≡ true
yes a b (inl lt) = grind (arith, ltb-true, ltb-false)
yes a b (inr h) = let e = h.0 in let l = h.1 in grind (arith, ltb-true, ltb-false)

is_true : (a b : ℕ × ℕ) → is_mark_before a b ≡ true → Before a b
is_true a b e =
    elim (cases_lt a.0 b.0) [
      | inl lt ↦ inl lt
      | inr le ↦ elim (cases_lt b.0 a.0) [
        | inl gt ↦ absurd (grind (arith, ltb-true, ltb-false))
        | inr ge ↦ let same : a.0 ≡ b.0 = omega arith in inr (same, grind (arith, ltb-true, ltb-false))
      ]
    ]

no : (a b : ℕ × ℕ) → (Before a b → ⊥) → is_mark_before a b ≡ false
no a b h = case (is_mark_before a b) refl
  where
    case : (t : Bool) → is_mark_before a b ≡ t → is_mark_before a b ≡ false
    case false e = e
    case true e = absurd (h (is_true a b e))

is_false : (a b : ℕ × ℕ) → is_mark_before a b ≡ false → Before a b → ⊥
is_false a b e h = false_true (sym e ∙ yes a b h)
  where
    false_true : false ≡ true → ⊥
    false_true i = cc

through : (a b c : ℕ × ℕ) → Before a b → Before b c → Before a c
through a b c (inl x) (inl y) = inl (omega arith)
through a b c (inl x) (inr y) = inl (omega (arith, y.0))
through a b c (inr x) (inl y) = inl (omega (arith, x.0))
through a b c (inr x) (inr y) = inr (x.0 ∙ y.0, omega (arith, x.1, y.1))

-- where a is before c, it is before b or b is before c
between : (a b c : ℕ × ℕ) → Before a c → Before a b ⊎ Before b c
between a b c h =
    elim (cases_lt a.0 b.0) [
      | inl lt ↦ inl (inl lt)
      | inr le ↦ elim (cases_lt b.0 c.0) [
        | inl lt ↦ inr (inl lt)
        | inr le' ↦ elim h [
          | inl lt ↦ absurd (omega arith)
          | inr e ↦ elim (cases_lt a.1 b.1) [
            | inl lt ↦ let same : a.0 ≡ b.0 = omega (arith, e.0) in inl (inr (same, lt))
            | inr ge ↦ let same : b.0 ≡ c.0 = omega (arith, e.0) in inr (inr (same, omega (arith, e.1)))
          ]
        ]
      ]
    ]

abbrev pub shift : ℕ → ℕ × ℕ → ℕ × ℕ
shift base x = (base + x.0, x.1)

shift_back : (base : ℕ) (a b : ℕ × ℕ) → Before (shift base a) (shift base b) → Before a b
shift_back base a b (inl x) = inl (omega arith)
shift_back base a b (inr x) = let e : a.0 ≡ b.0 = omega (arith, x.0) in inr (e, x.1)

shift_before : (base : ℕ) (a b : ℕ × ℕ) (t : Bool) → is_mark_before a b ≡ t → is_mark_before (shift base a) (shift base b) ≡ t
shift_before base a b true e = yes (shift base a) (shift base b) (moved_on (is_true a b e))
  where
    moved_on : Before a b → Before (shift base a) (shift base b)
    moved_on (inl x) = inl (omega arith)
    moved_on (inr x) = inr (ap (λ (n : ℕ). base + n) x.0, x.1)
shift_before base a b false e = no (shift base a) (shift base b) (λ h. is_false a b e (shift_back base a b h))

abbrev pub joined : Option (ℕ × ℕ) → Option (ℕ × ℕ) → Option (ℕ × ℕ)
joined acc None = acc
joined acc (Some x) = first_of_two acc x

-- the earliest of three, by pairs
three : (w z y : ℕ × ℕ) (zw yz yw : Bool) → is_mark_before z w ≡ zw → is_mark_before y z ≡ yz → is_mark_before y w ≡ yw
    → first_of_two (first_of_two (Some w) z) y ≡ joined (Some w) (first_of_two (Some z) y)
three w z y true true true a b c = rw (a, b, c) refl
three w z y true true false a b c = absurd (is_false y w c (through y z w (is_true y z b) (is_true z w a)))
three w z y true false yw a b c = rw (a, b, a) refl
three w z y false true yw a b c = rw (a, b) refl
three w z y false false true a b c = absurd (elim (between y z w (is_true y w c)) [ inl h ↦ is_false y z b h | inr h ↦ is_false z w a h ])
three w z y false false false a b c = rw (a, b, c, a) refl

joined_two : (acc : Option (ℕ × ℕ)) (z y : ℕ × ℕ) → first_of_two (first_of_two acc z) y ≡ joined acc (first_of_two (Some z) y)
joined_two None z y = none_case (is_mark_before y z)
  where
    none_case : (t : Bool) → cond t (Some y) (Some z) ≡ joined None (cond t (Some y) (Some z))
    none_case true = refl
    none_case false = refl
joined_two (Some w) z y = three w z y (is_mark_before z w) (is_mark_before y z) (is_mark_before y w) refl refl refl

shift_two : (base : ℕ) (z y : ℕ × ℕ) (t : Bool) → is_mark_before y z ≡ t → first_of_two (Some (shift base z)) (shift base y) ≡ option_map (shift base) (first_of_two (Some z) y)
shift_two base z y true e = rw (shift_before base y z true e, e) refl
shift_two base z y false e = rw (shift_before base y z false e, e) refl

one_more : (base : ℕ) (acc a : Option (ℕ × ℕ)) (place kind : ℕ) (holds : Bool)
    → marked (joined acc (option_map (shift base) a)) (mark_moved base (record { place = place; kind = kind; holds = holds })) ≡ joined acc (option_map (shift base) (marked a (record { place = place; kind = kind; holds = holds })))
one_more base acc a place kind true = refl
one_more base acc None place kind false = refl
one_more base acc (Some z) place kind false = joined_two acc (shift base z) (base + place, kind) ∙ ap (joined acc) (shift_two base z (place, kind) (is_mark_before (place, kind) z) refl)

all_moved : (base : ℕ) (acc a : Option (ℕ × ℕ)) (ms : List Mark) → first_from (joined acc (option_map (shift base) a)) (map (mark_moved base) ms) ≡ joined acc (option_map (shift base) (first_from a ms))
unfolding first_from
all_moved base acc a [] = refl
all_moved base acc a (m ∷ ms) = ap (λ x. first_from x (map (mark_moved base) ms)) (one_more base acc a m.place m.kind m.holds) ∙ all_moved base acc (marked a m) ms

-- the rules of a part whose places count from `base`, by the first that is broken among them alone
pub first_moved : (base : ℕ) (acc : Option (ℕ × ℕ)) (ms : List Mark) → first_from acc (map (mark_moved base) ms) ≡ joined acc (option_map (shift base) (first_from None ms))
first_moved base acc ms = all_moved base acc None ms

pub none_first : (ms : List Mark) → MarksAre ms None → first_from None ms ≡ None
none_first ms h = one ms None (first_from None ms) h (found_is_first ms)

pub some_first : (ms : List Mark) (place kind : ℕ) → IsFirstBroken ms place kind → first_from None ms ≡ Some (place, kind)
some_first ms place kind h = one ms (Some (place, kind)) (first_from None ms) h (found_is_first ms)
