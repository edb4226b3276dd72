-- Marking, step by step.
use Rattle.std.proofs.Common.{◌≡◌, ◌≢◌, ℕ, ◌+◌, ◌<◌, ◌≤◌, Bool, true, false, cond, List, [], ◌∷◌, ◌++◌, length, get_or, refl, sym, ap, subst, ◌∙◌, arith, inl, inr, ◌⊎◌, length-append, get_or-set_same, get_or-set_other}
use Rattle.std.specs.Prelude.{Contains}
use Rattle.std.proofs.Math.ListN.{length-set}
use Rattle.std.proofs.lemmas.List.{get_or_past, get_or_default}
use Rattle.std.proofs.lemmas.List.Sums.{sum_by-set}
use Rattle.et_base.proofs.Lists.{Contains-none, Contains-here, Contains-there, Contains-cons, in_longer}
use Rattle.et_base.proofs.Tests.{cases_eqb}
use Rattle.et_models.specs.declared.places.Place.{Place}
use Rattle.et_models.specs.declared.places.Place.TheVariants.{Nowhere, Nursery, Kept, Old}
use Rattle.et_models.specs.Tables.{flag_at}
use Rattle.et_models.specs.Places.{place_at, with_place, is_nursery}
use Rattle.et_models.specs.Marking.{young, IsMarkedFrom, MarksFrom, AllMarked, IsSeed}

pub marks_none : (E : ℕ → Type 0) (places : List Place) (work : List ℕ) → MarksFrom E places work places work
marks_none E places work = record { as_long = refl; each = λ o. inl refl; grows = λ o h. h; only = λ o h. inl h; spent = refl }

-- a kept object is not of the nursery
kept_not : (p : Place) → p ≡ Kept → p ≢ Nursery
kept_not Nowhere e f = absurd cc
kept_not Nursery e f = absurd cc
kept_not Kept e f = absurd cc
kept_not Old e f = absurd cc

-- what is in a list longer at its end
pub in_front : (xs : List ℕ) (x o : ℕ) → Contains xs o → Contains (xs ++ x ∷ []) o
in_front [] x o h = absurd (Contains-none o h)
in_front (y ∷ xs) x o h = elim (Contains-cons y xs o h) [
  | inl e ↦ subst (λ (k : ℕ). Contains (y ∷ (xs ++ x ∷ [])) k) e (Contains-here y (xs ++ x ∷ []))
  | inr t ↦ Contains-there y (xs ++ x ∷ []) o (in_front xs x o t)
]

pub at_end : (xs : List ℕ) (x : ℕ) → Contains (xs ++ x ∷ []) x
at_end [] x = Contains-here x []
at_end (y ∷ xs) x = Contains-there y (xs ++ x ∷ []) x (at_end xs x)

-- one object is marked
within : (places : List Place) (o : ℕ) → place_at places o ≡ Nursery → o < length places
within places o e = elim (less o (length places)) [ inl lt ↦ lt | inr ge ↦ absurd (nowhere_not (get_or places o Nowhere) (get_or_past places o Nowhere ge) e) ]
  where
    less : (a b : ℕ) → (a < b) ⊎ (b ≤ a)
    less a b = grind arith

    nowhere_not : (p : Place) → p ≡ Nowhere → p ≡ Nursery → ⊥
    nowhere_not p a b = cc

less_young : (places : List Place) (o : ℕ) → place_at places o ≡ Nursery → young (with_place places o Kept) + 1 ≡ young places
less_young places o e =
    let lt = within places o e in
    let test = λ (p : Place). cond (is_nursery p) 1 0 in
    let s = sum_by-set test places o Kept Nowhere lt in
    let one : test (get_or places o Nowhere) ≡ 1 = ap test e in
    omega (arith, s, one)

pub marks_one : (places : List Place) (work : List ℕ) (object : ℕ) → place_at places object ≡ Nursery → MarksFrom (λ o. o ≡ object) places work (with_place places object Kept) (work ++ object ∷ [])
marks_one places work object e =
    let lt = within places object e in
    let here : place_at (with_place places object Kept) object ≡ Kept = rw get_or-set_same refl in
    let marked : IsMarkedFrom (λ o. o ≡ object) places (with_place places object Kept) (work ++ object ∷ []) object = record { was = e; is = here; by = refl; waits = at_end work object } in
    record {
      as_long = length-set places object Kept;
      each = λ o. elim (cases_eqb o object) [
        | inl q ↦ inr (subst (λ (k : ℕ). IsMarkedFrom (λ u. u ≡ object) places (with_place places object Kept) (work ++ object ∷ []) k) (sym q.1) marked)
        | inr q ↦ (let ne : o ≢ object = q.1 in inl (rw get_or-set_other refl))
      ];
      grows = λ o h. in_front work object o h;
      only = λ o h. elim (in_longer work object o h) [ inl f ↦ inl f | inr q ↦ inr (subst (λ (k : ℕ). IsMarkedFrom (λ u. u ≡ object) places (with_place places object Kept) (work ++ object ∷ []) k) (sym q) marked) ];
      spent = omega (arith, less_young places object e, length-append work (object ∷ []));
    }

pub marked_one : (places : List Place) (object : ℕ) → place_at places object ≡ Nursery → AllMarked (λ o. o ≡ object) (with_place places object Kept)
marked_one places object e o q =
    let lt = within places object e in
    let here : place_at (with_place places object Kept) object ≡ Kept = rw get_or-set_same refl in
    subst (λ (k : ℕ). place_at (with_place places object Kept) k ≢ Nursery) (sym q) (kept_not (place_at (with_place places object Kept) object) here)

-- .. and more
pub not_back : (E : ℕ → Type 0) (places : List Place) (work : List ℕ) (places' : List Place) (work' : List ℕ) (o : ℕ) → MarksFrom E places work places' work' → place_at places o ≢ Nursery → place_at places' o ≢ Nursery
not_back E places work places' work' o m ne = elim (m.each o) [
  | inl e ↦ λ q. ne (sym e ∙ q)
  | inr k ↦ absurd (ne k.was)
]

pub marks_then : (E F : ℕ → Type 0) (p0 : List Place) (w0 : List ℕ) (p1 : List Place) (w1 : List ℕ) (p2 : List Place) (w2 : List ℕ) → ((o : ℕ) → F o → E o) → MarksFrom E p0 w0 p1 w1 → MarksFrom F p1 w1 p2 w2 → MarksFrom E p0 w0 p2 w2
marks_then E F p0 w0 p1 w1 p2 w2 of a b =
    let x = a.spent in let y = b.spent in
    record {
      as_long = b.as_long ∙ a.as_long;
      each = λ o. elim (b.each o) [
        | inl e ↦ elim (a.each o) [ inl f ↦ inl (e ∙ f) | inr k ↦ inr (record { was = k.was; is = e ∙ k.is; by = k.by; waits = b.grows o k.waits }) ]
        | inr k ↦ inr (then_marked o k (a.each o))
      ];
      grows = λ o h. b.grows o (a.grows o h);
      only = λ o h. elim (b.only o h) [
        | inl f ↦ elim (a.only o f) [ inl e ↦ inl e | inr k ↦ inr (still_marked o k (b.each o)) ]
        | inr k ↦ inr (then_marked o k (a.each o))
      ];
      spent = omega (arith, x, y);
    }
  where
    then_marked : (o : ℕ) → IsMarkedFrom F p1 p2 w2 o → (place_at p1 o ≡ place_at p0 o) ⊎ IsMarkedFrom E p0 p1 w1 o → IsMarkedFrom E p0 p2 w2 o
    then_marked o k (inl e) = record { was = sym e ∙ k.was; is = k.is; by = of o k.by; waits = k.waits }
    then_marked o k (inr j) = absurd (kept_not (place_at p1 o) j.is k.was)

    still_marked : (o : ℕ) → IsMarkedFrom E p0 p1 w1 o → (place_at p2 o ≡ place_at p1 o) ⊎ IsMarkedFrom F p1 p2 w2 o → IsMarkedFrom E p0 p2 w2 o
    still_marked o k (inl e) = record { was = k.was; is = e ∙ k.is; by = k.by; waits = b.grows o k.waits }
    still_marked o k (inr j) = record { was = k.was; is = j.is; by = k.by; waits = j.waits }

-- the live objects of the nursery
pub seed_all : (nursery : List ℕ) (dead : List Bool) (places : List Place) (i : ℕ) → length nursery ≤ i → ((k : ℕ) → k < i → flag_at dead (get_or nursery k 0) ≡ false → place_at places (get_or nursery k 0) ≢ Nursery) → AllMarked (IsSeed nursery dead) places
seed_all nursery dead places i le done o s =
    let among = s.among in
    let lt : among.0 < length nursery = among.1 in
    let at : get_or nursery among.0 0 ≡ o = get_or_default nursery among.0 0 o lt ∙ among.2 in
    subst (λ (k : ℕ). place_at places k ≢ Nursery) at (done among.0 (omega (arith, lt, le)) (ap (λ (k : ℕ). flag_at dead k) at ∙ s.lives))

-- one more of them
pub seed_marks : (nursery : List ℕ) (dead : List Bool) (p0 : List Place) (w0 : List ℕ) (p1 : List Place) (w1 : List ℕ) (p2 : List Place) (w2 : List ℕ) (i : ℕ) → i < length nursery → flag_at dead (get_or nursery i 0) ≡ false → MarksFrom (IsSeed nursery dead) p0 w0 p1 w1 → MarksFrom (λ o. o ≡ get_or nursery i 0) p1 w1 p2 w2 → MarksFrom (IsSeed nursery dead) p0 w0 p2 w2
seed_marks nursery dead p0 w0 p1 w1 p2 w2 i lt lives a b =
    let own : IsSeed nursery dead (get_or nursery i 0) = record { among = (i, lt, get_or_default nursery i (get_or nursery i 0) 0 lt); lives = lives } in
    marks_then (IsSeed nursery dead) (λ o. o ≡ get_or nursery i 0) p0 w0 p1 w1 p2 w2 (λ o e. subst (λ (k : ℕ). IsSeed nursery dead k) (sym e) own) a b

pub seed_done : (nursery : List ℕ) (dead : List Bool) (p1 : List Place) (w1 : List ℕ) (p2 : List Place) (w2 : List ℕ) (i : ℕ) → ((k : ℕ) → k < i → flag_at dead (get_or nursery k 0) ≡ false → place_at p1 (get_or nursery k 0) ≢ Nursery) → MarksFrom (λ o. o ≡ get_or nursery i 0) p1 w1 p2 w2 → AllMarked (λ o. o ≡ get_or nursery i 0) p2
    → (k : ℕ) → k < i + 1 → flag_at dead (get_or nursery k 0) ≡ false → place_at p2 (get_or nursery k 0) ≢ Nursery
seed_done nursery dead p1 w1 p2 w2 i done m all k lt lives = elim (cases_eqb k i) [
  | inl e ↦ all (get_or nursery k 0) (ap (λ (j : ℕ). get_or nursery j 0) e.1)
  | inr e ↦ (let ne = e.1 in not_back (λ o. o ≡ get_or nursery i 0) p1 w1 p2 w2 (get_or nursery k 0) m (done k (below k i lt ne) lives))
]
  where
    below : (a b : ℕ) → a < b + 1 → a ≢ b → a < b
    below a b l n = grind arith

pub seed_skips : (nursery : List ℕ) (dead : List Bool) (p : List Place) (i : ℕ) → flag_at dead (get_or nursery i 0) ≡ true → ((k : ℕ) → k < i → flag_at dead (get_or nursery k 0) ≡ false → place_at p (get_or nursery k 0) ≢ Nursery)
    → (k : ℕ) → k < i + 1 → flag_at dead (get_or nursery k 0) ≡ false → place_at p (get_or nursery k 0) ≢ Nursery
seed_skips nursery dead p i is done k lt lives = elim (cases_eqb k i) [
  | inl e ↦ absurd (both (flag_at dead (get_or nursery k 0)) (ap (λ (j : ℕ). flag_at dead (get_or nursery j 0)) e.1 ∙ is) lives)
  | inr e ↦ (let ne = e.1 in done k (below k i lt ne) lives)
]
  where
    both : (b : Bool) → b ≡ true → b ≡ false → ⊥
    both b x y = cc

    below : (a b : ℕ) → a < b + 1 → a ≢ b → a < b
    below a b l n = grind arith
