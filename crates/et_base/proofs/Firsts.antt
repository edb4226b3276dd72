-- The first broken rule is one, and the fold finds it.
use Rattle.std.proofs.Common.{◌≡◌, ℕ, Bool, true, false, cond, List, [], ◌∷◌, ◌++◌, Option, Some, None, refl, sym, ap, subst, ◌∙◌, arith, ◌⊎◌, inl, inr}
use Rattle.std.proofs.lemmas.Bool.{cases_lt, ltb-true, ltb-false}
use Rattle.std.proofs.lemmas.Option.{same_Some, none-some}
use Rattle.et_base.specs.Marks.{Mark, Breaks, IsUpTo, MarksAre, IsTheOne, is_mark_before, marked, first_from}

-- what was found before, or is broken among these
abbrev Known : Option (ℕ × ℕ) → List Mark → ℕ → ℕ → Type 0
Known acc ms p k = (acc ≡ Some (p, k)) ⊎ Breaks ms p k

-- r is the first of what is known
record Least (acc : Option (ℕ × ℕ)) (ms : List Mark) (r : Option (ℕ × ℕ)) : Type 0 where
  none : r ≡ None → (p k : ℕ) → Known acc ms p k → ⊥
  known : (p k : ℕ) → r ≡ Some (p, k) → Known acc ms p k
  first : (p k : ℕ) → r ≡ Some (p, k) → (q l : ℕ) → Known acc ms q l → IsUpTo p k q l

up_to_trans : (a b c d e f : ℕ) → IsUpTo a b c d → IsUpTo c d e f → IsUpTo a b e f
up_to_trans a b c d e f (inl x) (inl y) = inl (omega arith)
up_to_trans a b c d e f (inl x) (inr y) = inl (omega (arith, y.0))
up_to_trans a b c d e f (inr x) (inl y) = inl (omega (arith, x.0))
up_to_trans a b c d e f (inr x) (inr y) = inr (x.0 ∙ y.0, omega (arith, x.1, y.1))

-- of two, one is up to the other
before_true : (a b c d : ℕ) → is_mark_before (a, b) (c, d) ≡ true → IsUpTo a b c d
before_true a b c d e =
    elim (cases_lt a c) [
      | inl lt ↦ inl lt
      | inr le ↦ elim (cases_lt c a) [
        | inl gt ↦ absurd (grind (arith, ltb-true, ltb-false))
        | inr ge ↦ let same : a ≡ c = omega arith in inr (same, grind (arith, ltb-true, ltb-false))
      ]
    ]

before_false : (a b c d : ℕ) → is_mark_before (a, b) (c, d) ≡ false → IsUpTo c d a b
before_false a b c d e =
    elim (cases_lt c a) [
      | inl lt ↦ inl lt
      | inr le ↦ elim (cases_lt a c) [
        | inl gt ↦ absurd (grind (arith, ltb-true, ltb-false))
        | inr ge ↦ let same : c ≡ a = omega arith in inr (same, grind (arith, ltb-true, ltb-false))
      ]
    ]

abbrev UpTo : ℕ × ℕ → ℕ × ℕ → Type 0
UpTo x y = IsUpTo x.0 x.1 y.0 y.1

self : (x : ℕ × ℕ) → UpTo x x
self x = inr (refl, omega arith)

pub true_false : true ≡ false → ⊥
true_false e = cc

-- the earlier of two is one of them, and up to both
pick : (b : Bool) (x y : ℕ × ℕ) → is_mark_before x y ≡ b → (q : ℕ × ℕ) × (cond b (Some x) (Some y) ≡ Some q) × UpTo q x × UpTo q y
pick true x y e = (x, refl, self x, before_true x.0 x.1 y.0 y.1 e)
pick false x y e = (y, refl, before_false x.0 x.1 y.0 y.1 e, self y)

either : (b : Bool) (x y z : ℕ × ℕ) → cond b (Some x) (Some y) ≡ Some z → (x ≡ z) ⊎ (y ≡ z)
either true x y z e = inl (same_Some x z e)
either false x y z e = inr (same_Some y z e)

-- the first so far, behind a mark, is an old one or that mark's
from_marked : (acc : Option (ℕ × ℕ)) (place kind : ℕ) (holds : Bool) (z : ℕ × ℕ) → marked acc (record { place = place; kind = kind; holds = holds }) ≡ Some z → (acc ≡ Some z) ⊎ ((holds ≡ false) × (place ≡ z.0) × (kind ≡ z.1))
from_marked acc place kind true z e = inl e
from_marked None place kind false z e = let same = same_Some (place, kind) z e in inr (refl, ap (λ (x : ℕ × ℕ). x.0) same, ap (λ (x : ℕ × ℕ). x.1) same)
from_marked (Some y) place kind false z e =
    elim (either (is_mark_before (place, kind) y) (place, kind) y z e) [
      | inl same ↦ inr (refl, ap (λ (x : ℕ × ℕ). x.0) same, ap (λ (x : ℕ × ℕ). x.1) same)
      | inr same ↦ inl (ap (λ (x : ℕ × ℕ). Some x) same)
    ]

-- and it is up to each of them
to_old : (acc : Option (ℕ × ℕ)) (place kind : ℕ) (holds : Bool) (z : ℕ × ℕ) → acc ≡ Some z → (q : ℕ × ℕ) × (marked acc (record { place = place; kind = kind; holds = holds }) ≡ Some q) × UpTo q z
to_old acc place kind true z e = (z, e, self z)
to_old None place kind false z e = absurd (none-some z e)
to_old (Some y) place kind false z e =
    let p = pick (is_mark_before (place, kind) y) (place, kind) y refl in
    (p.0, p.1, subst (λ w. UpTo p.0 w) (same_Some y z e) p.3)

to_mark : (acc : Option (ℕ × ℕ)) (place kind : ℕ) (holds : Bool) → holds ≡ false → (q : ℕ × ℕ) × (marked acc (record { place = place; kind = kind; holds = holds }) ≡ Some q) × UpTo q (place, kind)
to_mark acc place kind true e = absurd (true_false e)
to_mark None place kind false e = ((place, kind), refl, self (place, kind))
to_mark (Some y) place kind false e = let p = pick (is_mark_before (place, kind) y) (place, kind) y refl in (p.0, p.1, p.2)

back : (acc : Option (ℕ × ℕ)) (m : Mark) (ms : List Mark) (p k : ℕ) → Known (marked acc m) ms p k → Known acc (m ∷ ms) p k
back acc m ms p k (inl e) = elim (from_marked acc m.place m.kind m.holds (p, k) e) [ inl a ↦ inl a | inr b ↦ inr (inl b) ]
back acc m ms p k (inr b) = inr (inr b)

cover : (acc : Option (ℕ × ℕ)) (m : Mark) (ms : List Mark) (p k : ℕ) → Known acc (m ∷ ms) p k → (q : ℕ × ℕ) × Known (marked acc m) ms q.0 q.1 × UpTo q (p, k)
cover acc m ms p k (inl a) = let t = to_old acc m.place m.kind m.holds (p, k) a in (t.0, inl t.1, t.2)
cover acc m ms p k (inr (inl b)) = let t = to_mark acc m.place m.kind m.holds b.0 in (t.0, inl t.1, subst (λ (w : ℕ × ℕ). UpTo t.0 w) (ap (λ (x : ℕ). (x, m.kind)) b.1 ∙ ap (λ (y : ℕ). (p, y)) b.2) t.2)
cover acc m ms p k (inr (inr b)) = ((p, k), inr b, self (p, k))

least : (acc : Option (ℕ × ℕ)) (ms : List Mark) → Least acc ms (first_from acc ms)
unfolding first_from
least acc [] = record {
  none = λ e p k h. elim h [ inl a ↦ none-some (p, k) (sym e ∙ a) | inr b ↦ b ];
  known = λ p k e. inl e;
  first = λ p k e q l h. elim h [ inl a ↦ subst (λ (w : ℕ × ℕ). UpTo (p, k) w) (same_Some (p, k) (q, l) (sym e ∙ a)) (self (p, k)) | inr b ↦ absurd b ];
}
least acc (m ∷ ms) =
    let rest = least (marked acc m) ms in
    record {
      none = λ e p k h. let c = cover acc m ms p k h in rest.none e c.0.0 c.0.1 c.1;
      known = λ p k e. back acc m ms p k (rest.known p k e);
      first = λ p k e q l h. let c = cover acc m ms q l h in up_to_trans p k c.0.0 c.0.1 q l (rest.first p k e c.0.0 c.0.1 c.1) c.2;
    }

by_least : (marks : List Mark) (r : Option (ℕ × ℕ)) → Least None marks r → MarksAre marks r
by_least marks None l = λ p k b. l.none refl p k (inr b)
by_least marks (Some x) l = record {
  broken = elim (l.known x.0 x.1 refl) [ inl e ↦ absurd (none-some x e) | inr b ↦ b ];
  first = λ p k b. l.first x.0 x.1 refl p k (inr b);
}

pub found_is_first : (marks : List Mark) → MarksAre marks (first_from None marks)
found_is_first marks = by_least marks (first_from None marks) (least None marks)

same_pair : (x y : ℕ × ℕ) → UpTo x y → UpTo y x → x ≡ y
same_pair x y (inl h) (inl i) = absurd (omega arith)
same_pair x y (inl h) (inr i) = absurd (omega (arith, i.0))
same_pair x y (inr h) (inl i) = absurd (omega (arith, h.0))
same_pair x y (inr h) (inr i) = let e : x.1 ≡ y.1 = omega (arith, h.1, i.1) in ap (λ (a : ℕ). (a, x.1)) h.0 ∙ ap (λ (b : ℕ). (y.0, b)) e

-- no two answers apply
pub one : (marks : List Mark) (a b : Option (ℕ × ℕ)) → MarksAre marks a → MarksAre marks b → b ≡ a
one marks None None h i = refl
one marks None (Some y) h i = absurd (h y.0 y.1 i.broken)
one marks (Some x) None h i = absurd (i x.0 x.1 h.broken)
one marks (Some x) (Some y) h i = ap (λ (z : ℕ × ℕ). Some z) (same_pair y x (i.first x.0 x.1 h.broken) (h.first y.0 y.1 i.broken))

pub exactly_one : (marks : List Mark) → IsTheOne marks
exactly_one marks = record { answer = first_from None marks; holds = found_is_first marks; only = λ other h. one marks (first_from None marks) other (found_is_first marks) h }

-- the rules of two lists, one list after the other
pub first_from-append : (first : Option (ℕ × ℕ)) (xs ys : List Mark) → first_from first (xs ++ ys) ≡ first_from (first_from first xs) ys
unfolding first_from
first_from-append first [] ys = refl
first_from-append first (m ∷ xs) ys = first_from-append (marked first m) xs ys
