-- What a minor collection has to search through is noted.
use Rattle.std.proofs.Common.{◌≡◌, ◌≢◌, ℕ, ◌<◌, ◌==◌, Bool, true, false, cond, ◌&&◌, List, [], ◌∷◌, ◌++◌, length, get_or, Option, Some, None, refl, sym, ap, subst, ◌∙◌, arith, inl, inr, ◌⊎◌}
use Rattle.std.specs.Prelude.{Contains, is_some, unwrap_or, nat_eq}
use Rattle.std.specs.List.{list_any}
use Rattle.std.specs.BTreeMap.{BTreeMap, get}
use Rattle.std.specs.Ordering.{nat_cmp}
use Rattle.std.proofs.lemmas.List.Elements.{Contains-append_left, Contains-append_right, Contains-append_cases}
use Rattle.indexmap.specs.IndexSet.{insert_key}
use Rattle.indexmap.proofs.CallerLemmas.{Contains-insert_key}
use Rattle.std.proofs.lemmas.Bool.{eqb-true, cases_Bool}
use Rattle.et_base.proofs.Tests.{cases_eqb}
use Rattle.et_replay.specs.declared.item.Item.{Item}
use Rattle.et_replay.specs.Heap.{is_made, content}
use Rattle.et_models.specs.declared.places.Place.TheVariants.{Nursery, Old}
use Rattle.et_models.specs.Places.{place_at, is_nursery, is_old}
use Rattle.et_models.specs.Marking.{NamesInSlot}
use Rattle.et_models.specs.Generations.{Both, KnowsSlots, WritesSlot, reference_noted}
use Rattle.et_replay.proofs.Coming.{made_stays, not_both}
use Rattle.et_models.proofs.Contents.{content_made, element}
use Rattle.et_models.proofs.Marking.{in_front}

-- what isn't made now wasn't made before
pub unmade_before : (past : List Item) (item : Item) (o : ℕ) → is_made (item ∷ past) o ≡ false → is_made past o ≡ false
unmade_before past item o e = elim (cases_Bool (is_made past o)) [
  | inl m ↦ not_both (is_made (item ∷ past) o) (made_stays past item o m) e
  | inr n ↦ n
]

-- an object with something in a slot is made
pub names_made : (slots : List (BTreeMap ℕ ℕ)) (n : ℕ) (past : List Item) (u t : ℕ) → KnowsSlots slots n past → NamesInSlot slots u t → t ≢ 0 → is_made past u ≡ true
names_made slots n past u t k m ne =
    let s = m.refers.0 in
    let is : content past u s ≡ t = sym (k.content_is u s m.own m.within m.stands) ∙ ap (λ (v : Option ℕ). unwrap_or v 0) m.refers.1 in
    content_made past u s (λ z. ne (sym is ∙ z))

-- A LIST WITHOUT REPEATS

pub insert_keeps : (xs : List ℕ) (x o : ℕ) → Contains xs o → Contains (insert_key nat_eq xs x) o
insert_keeps xs x o c = elim (list_any (nat_eq x) xs) as (λ b. Contains (cond b xs (xs ++ x ∷ [])) o) [ true ↦ c | false ↦ in_front xs x o c ]

pub insert_has : (xs : List ℕ) (x : ℕ) → Contains (insert_key nat_eq xs x) x
insert_has xs x = Contains-insert_key nat_eq (λ a b e. eqb-true a b e) xs x

-- WHAT IS WRITTEN

-- nothing but the two lists changes
pub noted_is : (object new : ℕ) (v : Both) → reference_noted object new v ≡ record v { remembered = (reference_noted object new v).remembered; early = (reference_noted object new v).early }
noted_is object new v = elim (new == 0) as (λ b. let w = cond b v (cond (is_some (get_or v.sizes new None)) (cond (is_old (place_at v.places object) && is_nursery (place_at v.places new)) (record v { remembered = insert_key nat_eq v.remembered object }) v) (record v { early = insert_key nat_eq v.early object })) in w ≡ record v { remembered = w.remembered; early = w.early }) [
  | true ↦ refl
  | false ↦ elim (is_some (get_or v.sizes new None)) as (λ b. let w = cond b (cond (is_old (place_at v.places object) && is_nursery (place_at v.places new)) (record v { remembered = insert_key nat_eq v.remembered object }) v) (record v { early = insert_key nat_eq v.early object }) in w ≡ record v { remembered = w.remembered; early = w.early }) [
    | true ↦ elim (is_old (place_at v.places object) && is_nursery (place_at v.places new)) as (λ b. let w = cond b (record v { remembered = insert_key nat_eq v.remembered object }) v in w ≡ record v { remembered = w.remembered; early = w.early }) [ true ↦ refl | false ↦ refl ]
    | false ↦ refl
  ]
]

-- what was noted stays so
pub noted_keeps : (object new : ℕ) (v : Both) (u : ℕ) → (Contains v.remembered u → Contains (reference_noted object new v).remembered u) × (Contains v.early u → Contains (reference_noted object new v).early u)
noted_keeps object new v u = elim (new == 0) as (λ b. let w = cond b v (cond (is_some (get_or v.sizes new None)) (cond (is_old (place_at v.places object) && is_nursery (place_at v.places new)) (record v { remembered = insert_key nat_eq v.remembered object }) v) (record v { early = insert_key nat_eq v.early object })) in (Contains v.remembered u → Contains w.remembered u) × (Contains v.early u → Contains w.early u)) [
  | true ↦ (λ c. c, λ c. c)
  | false ↦ elim (is_some (get_or v.sizes new None)) as (λ b. let w = cond b (cond (is_old (place_at v.places object) && is_nursery (place_at v.places new)) (record v { remembered = insert_key nat_eq v.remembered object }) v) (record v { early = insert_key nat_eq v.early object }) in (Contains v.remembered u → Contains w.remembered u) × (Contains v.early u → Contains w.early u)) [
    | true ↦ elim (is_old (place_at v.places object) && is_nursery (place_at v.places new)) as (λ b. let w = cond b (record v { remembered = insert_key nat_eq v.remembered object }) v in (Contains v.remembered u → Contains w.remembered u) × (Contains v.early u → Contains w.early u)) [
      | true ↦ (λ c. insert_keeps v.remembered object u c, λ c. c)
      | false ↦ (λ c. c, λ c. c)
    ]
    | false ↦ (λ c. c, λ c. insert_keeps v.early object u c)
  ]
]

not_null : (new : ℕ) → new ≢ 0 → (new == 0) ≡ false
not_null new ne = elim (cases_eqb new 0) [ inl e ↦ absurd (ne e.1) | inr e ↦ e.0 ]

-- an object that isn't made is noted
pub noted_early : (object new : ℕ) (v : Both) → new ≢ 0 → is_some (get_or v.sizes new None) ≡ false → Contains (reference_noted object new v).early object
noted_early object new v ne none = rw (not_null new ne, none) (insert_has v.early object)

-- .. and one of the nursery that is given to one of the old space
pub noted_young : (object new : ℕ) (v : Both) → new ≢ 0 → is_some (get_or v.sizes new None) ≡ true → place_at v.places object ≡ Old → place_at v.places new ≡ Nursery → Contains (reference_noted object new v).remembered object
noted_young object new v ne some old young = rw (not_null new ne, some, old, young) (insert_has v.remembered object)

-- one of the two lists has it
pub in_either : (xs ys xs' ys' : List ℕ) (u : ℕ) → (Contains xs u → Contains xs' u) × (Contains ys u → Contains ys' u) → Contains (xs ++ ys) u → Contains (xs' ++ ys') u
in_either xs ys xs' ys' u k c = elim (Contains-append_cases xs ys u c) [
  | inl x ↦ Contains-append_left xs' ys' u (k.0 x)
  | inr y ↦ Contains-append_right xs' ys' u (k.1 y)
]

same_own : (slots : List (BTreeMap ℕ ℕ)) (slots' : List (BTreeMap ℕ ℕ)) (object slot new : ℕ) (t : ℕ) → WritesSlot slots slots' object slot new → NamesInSlot slots' object t → (t ≡ new) ⊎ NamesInSlot slots object t
same_own slots slots' object slot new t w n =
    let long = w.as_long in let lt' = n.within in
    let lt : object < length slots = omega (arith, long, lt') in
    let was = element slots object lt in
    let s = n.refers.0 in
    let is = w.at s was.0 n.own was.1 n.stands in
    elim (cases_eqb slot s) [
      | inl e ↦ inl (some_same t new (sym n.refers.1 ∙ (is ∙ ap (λ (b : Bool). cond b (Some new) (get nat_cmp was.0 s)) e.0)))
      | inr e ↦ inr (record { own = was.0; within = lt; stands = was.1; refers = (s, sym (is ∙ ap (λ (b : Bool). cond b (Some new) (get nat_cmp was.0 s)) e.0) ∙ n.refers.1) })
    ]
  where
    some_same : (a b : ℕ) → Some a ≡ Some b → a ≡ b
    some_same a b e = ap (λ (v : Option ℕ). unwrap_or v 0) e

-- what refers to what, after an object was written
pub names_before : (slots slots' : List (BTreeMap ℕ ℕ)) (object slot new u t : ℕ) → WritesSlot slots slots' object slot new → NamesInSlot slots' u t → ((u ≡ object) × (t ≡ new)) ⊎ NamesInSlot slots u t
names_before slots slots' object slot new u t w n = elim (cases_eqb u object) [
  | inl e ↦ elim (same_own slots slots' object slot new t w (subst (λ (k : ℕ). NamesInSlot slots' k t) e.1 n)) [
    | inl q ↦ inl (e.1, q)
    | inr m ↦ inr (subst (λ (k : ℕ). NamesInSlot slots k t) (sym e.1) m)
  ]
  | inr e ↦ (let long = w.as_long in let lt' = n.within in inr (record { own = n.own; within = omega (arith, long, lt'); stands = w.others u n.own e.1 n.stands; refers = n.refers }))
]
