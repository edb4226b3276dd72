-- Where objects are, after a collection.
use Rattle.std.proofs.Common.{◌≡◌, ◌≢◌, ℕ, ◌<◌, Bool, true, false, cond, List, [], ◌∷◌, ◌++◌, length, refl, sym, ap, subst, ◌∙◌, arith, inl, inr, ◌⊎◌, get_or-set_same, get_or-set_other}
use Rattle.std.specs.Prelude.{Contains}
use Rattle.std.proofs.Math.ListN.{length-set}
use Rattle.std.proofs.lemmas.List.{get_or_past}
use Rattle.std.proofs.lemmas.Bool.{cases_Bool, cases_lt}
use Rattle.et_base.proofs.Lists.{Contains-none, Contains-here, Contains-there, Contains-cons, in_longer}
use Rattle.et_base.proofs.Tests.{cases_eqb}
use Rattle.et_models.specs.declared.places.Place.{Place}
use Rattle.et_models.specs.declared.places.Place.TheVariants.{Nowhere, Nursery, Kept, Old}
use Rattle.et_models.specs.Tables.{flag_at}
use Rattle.et_models.specs.Places.{place_at, with_place, is_kept, is_old, place_settled, without_one, without_dead, AreCollected}
use Rattle.et_models.proofs.Marking.{at_end}

-- AN OBJECT IS AT ONE PLACE

pub nowhere_nursery : {A : Type 0} (p : Place) → p ≡ Nowhere → p ≡ Nursery → A
nowhere_nursery p a b = absurd cc

pub nowhere_kept : {A : Type 0} (p : Place) → p ≡ Nowhere → p ≡ Kept → A
nowhere_kept p a b = absurd cc

pub nowhere_old : {A : Type 0} (p : Place) → p ≡ Nowhere → p ≡ Old → A
nowhere_old p a b = absurd cc

pub nursery_kept : {A : Type 0} (p : Place) → p ≡ Nursery → p ≡ Kept → A
nursery_kept p a b = absurd cc

pub old_nursery : {A : Type 0} (p : Place) → p ≡ Old → p ≡ Nursery → A
old_nursery p a b = absurd cc

pub old_kept : {A : Type 0} (p : Place) → p ≡ Old → p ≡ Kept → A
old_kept p a b = absurd cc

pub kept_is : (p : Place) → is_kept p ≡ true → p ≡ Kept
kept_is Nowhere e = absurd cc
kept_is Nursery e = absurd cc
kept_is Kept e = refl
kept_is Old e = absurd cc

pub old_is : (p : Place) → is_old p ≡ true → p ≡ Old
old_is Nowhere e = absurd cc
old_is Nursery e = absurd cc
old_is Kept e = absurd cc
old_is Old e = refl

pub cases_nursery : (p : Place) → (p ≡ Nursery) ⊎ (p ≢ Nursery)
cases_nursery Nowhere = inr (λ e. nowhere_nursery Nowhere refl e)
cases_nursery Nursery = inl refl
cases_nursery Kept = inr (λ e. nursery_kept Kept e refl)
cases_nursery Old = inr (λ e. old_nursery Old refl e)

-- ONE PLACE IS SET

pub set_here : (places : List Place) (o : ℕ) (p : Place) → o < length places → place_at (with_place places o p) o ≡ p
set_here places o p lt = rw get_or-set_same refl

pub set_there : (places : List Place) (object : ℕ) (p : Place) (o : ℕ) → o ≢ object → place_at (with_place places object p) o ≡ place_at places o
set_there places object p o ne = rw get_or-set_other refl

pub set_nowhere : (places : List Place) (o : ℕ) → place_at (with_place places o Nowhere) o ≡ Nowhere
set_nowhere places o = elim (cases_lt o (length places)) [
  | inl lt ↦ set_here places o Nowhere lt
  | inr ge ↦ (let long = length-set places o Nowhere in get_or_past (with_place places o Nowhere) o Nowhere (omega (arith, ge, long)))
]

-- SETTLING

pub settled_twice : (p : Place) → place_settled (place_settled p) ≡ place_settled p
settled_twice Nowhere = refl
settled_twice Nursery = refl
settled_twice Kept = refl
settled_twice Old = refl

-- a place that is set is the one that is set, or there is none
settled_set : (places : List Place) (o : ℕ) → place_at (with_place places o (place_settled (place_at places o))) o ≡ place_settled (place_at places o)
settled_set places o = elim (cases_lt o (length places)) [
  | inl lt ↦ set_here places o (place_settled (place_at places o)) lt
  | inr ge ↦
      let long = length-set places o (place_settled (place_at places o)) in
      let none : place_at places o ≡ Nowhere = get_or_past places o Nowhere ge in
      get_or_past (with_place places o (place_settled (place_at places o))) o Nowhere (omega (arith, ge, long)) ∙ sym (ap place_settled none)
]

pub settle_none : (places : List Place) → AreCollected [] places places
settle_none places = record { as_long = refl; moved = λ o c. absurd (Contains-none o c); each = λ o. inl refl }

pub settle_more : (objects : List ℕ) (x : ℕ) (start places : List Place) → AreCollected objects start places → AreCollected (objects ++ x ∷ []) start (with_place places x (place_settled (place_at places x)))
settle_more objects x start places s = record {
  as_long = length-set places x (place_settled (place_at places x)) ∙ s.as_long;
  moved = λ o c. elim (cases_eqb o x) [
    | inl e ↦ subst (λ (k : ℕ). place_at (with_place places x (place_settled (place_at places x))) k ≡ place_settled (place_at start k)) (sym e.1) (settled_set places x ∙ of_start x)
    | inr e ↦ set_there places x (place_settled (place_at places x)) o e.1 ∙ elim (in_longer objects x o c) [ inl f ↦ s.moved o f | inr q ↦ absurd (e.1 q) ]
  ];
  each = λ o. elim (cases_eqb o x) [
    | inl e ↦ inr (subst (λ (k : ℕ). Contains (objects ++ x ∷ []) k) (sym e.1) (at_end objects x))
    | inr e ↦ elim (s.each o) [ inl f ↦ inl (set_there places x (place_settled (place_at places x)) o e.1 ∙ f) | inr c ↦ inr (longer objects x o c) ]
  ];
}
  where
    longer : (xs : List ℕ) (x o : ℕ) → Contains xs o → Contains (xs ++ x ∷ []) o
    longer [] x o h = absurd (Contains-none o h)
    longer (y ∷ xs) x o h = elim (Contains-cons y xs o h) [
      | inl e ↦ subst (λ (k : ℕ). Contains (y ∷ (xs ++ x ∷ [])) k) e (Contains-here y (xs ++ x ∷ []))
      | inr t ↦ Contains-there y (xs ++ x ∷ []) o (longer xs x o t)
    ]

    of_start : (k : ℕ) → place_settled (place_at places k) ≡ place_settled (place_at start k)
    of_start k = elim (s.each k) [ inl e ↦ ap place_settled e | inr c ↦ ap place_settled (s.moved k c) ∙ settled_twice (place_at start k) ]

-- THE DEAD ARE TAKEN OUT

one_each : (dead : List Bool) (places : List Place) (x o : ℕ) → (place_at (without_one dead places x) o ≡ place_at places o) ⊎ ((x ≡ o) × (flag_at dead o ≡ true) × (place_at (without_one dead places x) o ≡ Nowhere))
one_each dead places x o = elim (cases_Bool (flag_at dead x)) [
  | inl d ↦ elim (cases_eqb o x) [
    | inl e ↦ inr (sym e.1, ap (λ (k : ℕ). flag_at dead k) e.1 ∙ d, ap (λ (b : Bool). place_at (cond b (with_place places x Nowhere) places) o) d ∙ subst (λ (k : ℕ). place_at (with_place places x Nowhere) k ≡ Nowhere) (sym e.1) (set_nowhere places x))
    | inr e ↦ inl (ap (λ (b : Bool). place_at (cond b (with_place places x Nowhere) places) o) d ∙ set_there places x Nowhere o e.1)
  ]
  | inr d ↦ inl (ap (λ (b : Bool). place_at (cond b (with_place places x Nowhere) places) o) d)
]

one_out : (dead : List Bool) (places : List Place) (x : ℕ) → flag_at dead x ≡ true → place_at (without_one dead places x) x ≡ Nowhere
one_out dead places x d = ap (λ (b : Bool). place_at (cond b (with_place places x Nowhere) places) x) d ∙ set_nowhere places x

one_long : (dead : List Bool) (places : List Place) (x : ℕ) → length (without_one dead places x) ≡ length places
one_long dead places x = elim (flag_at dead x) as (λ b. length (cond b (with_place places x Nowhere) places) ≡ length places) [ true ↦ length-set places x Nowhere | false ↦ refl ]

pub without_long : (dead : List Bool) (objects : List ℕ) (places : List Place) → length (without_dead dead objects places) ≡ length places
without_long dead [] places = refl
without_long dead (x ∷ xs) places = without_long dead xs (without_one dead places x) ∙ one_long dead places x

pub without_each : (dead : List Bool) (objects : List ℕ) (places : List Place) (o : ℕ) → (place_at (without_dead dead objects places) o ≡ place_at places o) ⊎ (Contains objects o × (flag_at dead o ≡ true) × (place_at (without_dead dead objects places) o ≡ Nowhere))
without_each dead [] places o = inl refl
without_each dead (x ∷ xs) places o = elim (without_each dead xs (without_one dead places x) o) [
  | inl e ↦ elim (one_each dead places x o) [
    | inl f ↦ inl (e ∙ f)
    | inr f ↦ inr (subst (λ (k : ℕ). Contains (x ∷ xs) k) f.0 (Contains-here x xs), f.1, e ∙ f.2)
  ]
  | inr r ↦ inr (Contains-there x xs o r.0, r.1, r.2)
]

pub without_out : (dead : List Bool) (objects : List ℕ) (places : List Place) (o : ℕ) → Contains objects o → flag_at dead o ≡ true → place_at (without_dead dead objects places) o ≡ Nowhere
without_out dead [] places o c d = absurd (Contains-none o c)
without_out dead (x ∷ xs) places o c d = elim (Contains-cons x xs o c) [
  | inl e ↦ elim (without_each dead xs (without_one dead places x) o) [
    | inl f ↦ f ∙ subst (λ (k : ℕ). place_at (without_one dead places x) k ≡ Nowhere) e (one_out dead places x (ap (λ (k : ℕ). flag_at dead k) e ∙ d))
    | inr r ↦ r.2
  ]
  | inr t ↦ without_out dead xs (without_one dead places x) o t d
]
