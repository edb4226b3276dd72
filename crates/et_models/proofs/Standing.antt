-- Two spaces account for all items as their policy does.
use Rattle.std.proofs.Common.{◌≡◌, ℕ, ◌+◌, ◌≤◌, Bool, true, false, cond, List, [], ◌∷◌, length, get_or, Option, None, Some, refl, sym, ap, subst, ◌∙◌, arith, inl}
use Rattle.std.specs.Prelude.{is_some, unwrap_or}
use Rattle.std.specs.BTreeMap.{BTreeMap, get}
use Rattle.std.specs.Ordering.{nat_cmp}
use Rattle.std.proofs.lemmas.List.{length-replicate}
use Rattle.et_graph.specs.Graph.{Graph, Decides}
use Rattle.et_base.proofs.Lists.{Contains-none, all_same}
use Rattle.et_replay.specs.declared.item.Item.{Item}
use Rattle.et_replay.specs.declared.item.Item.TheVariants.{Alloc, Write, Death}
use Rattle.et_replay.specs.declared.model.Kind.{Kind}
use Rattle.et_replay.specs.declared.model.Kind.TheVariants.{Generational}
use Rattle.et_replay.specs.declared.model.Policy.{Policy}
use Rattle.et_replay.specs.Feeding.{MayCome, HasItemRoom}
use Rattle.et_replay.specs.Tally.{Heap, account, generations_on, generations_after, heap_by, heap_after, tally, is_exhausted}
use Rattle.et_models.specs.Tables.{Knows}
use Rattle.et_models.specs.declared.places.Place.{Place}
use Rattle.et_models.specs.declared.places.Place.TheVariants.{Nowhere}
use Rattle.et_models.specs.Generations.{Both, Opens, KnowsPlaces, IsReadyToCollect, StepsBoth, StandsAs}

-- AT FIRST

none_in : (m : BTreeMap ℕ ℕ) (s : ℕ) → m.entries ≡ [] → unwrap_or (get nat_cmp m s) 0 ≡ 0
none_in m s e = rw e refl

nothing : (m : BTreeMap ℕ ℕ) (s t : ℕ) → m.entries ≡ [] → get nat_cmp m s ≡ Some t → ⊥
nothing m s t e f = absurd (none_some (sym f ∙ none))
  where
    none : get nat_cmp m s ≡ None
    none = rw e refl

    none_some : Some t ≡ None → ⊥
    none_some g = cc

pub opened_ready : (v : Both) (first second n : ℕ) → n ≤ 16777215 → Opens first second n v → IsReadyToCollect v n [] 0 0
opened_ready v first second n few o =
    let heap = o.heap_is in
    let nowhere : (x : ℕ) → get_or v.places x Nowhere ≡ Nowhere = λ x. ap (λ (p : List Place). get_or p x Nowhere) o.places_is ∙ all_same (n + 1) x Nowhere in
    let long : length v.places ≡ n + 1 = ap (λ (p : List Place). length p) o.places_is ∙ length-replicate (n + 1) Nowhere in
    let bare : KnowsPlaces v.places n [] [] = record { long = long; young = λ x c. absurd (Contains-none x c); only = λ x. inl (nowhere x); old = λ x c. absurd (Contains-none x c) } in
    subst (λ (h : Heap). IsReadyToCollect (record v { heap = h }) n [] 0 0) (sym heap) (record {
      fed = tt;
      few = few;
      knows = record {
        sizes_long = ap (λ (p : List (Option ℕ)). length p) o.sizes_is ∙ length-replicate (n + 1) None;
        dead_long = ap (λ (p : List Bool). length p) o.dead_is ∙ length-replicate (n + 1) false;
        size_is = λ x le. ap (λ (p : List (Option ℕ)). get_or p x None) o.sizes_is ∙ all_same (n + 1) x None;
        dead_is = λ x le. ap (λ (p : List Bool). get_or p x false) o.dead_is ∙ all_same (n + 1) x false;
      };
      slots = record { long = o.slots_long; content_is = λ x s own lt at. none_in own s (subst (λ (m : BTreeMap ℕ ℕ). m.entries ≡ []) (sym at) (o.slots_empty x own lt)) };
      places = bare;
      noted = record {
        young = λ u t c m y. absurd (Contains-none u c);
        early = λ u t m nz un. absurd (nothing m.own m.refers.0 t (subst (λ (k : BTreeMap ℕ ℕ). k.entries ≡ []) (sym m.stands) (o.slots_empty u m.own m.within)) m.refers.1);
      };
      holds = record { young_bytes_is = o.young_none; old_bytes_is = o.old_none; young_made = λ k d lt. absurd (omega (arith, lt)); old_made = λ k d lt. absurd (omega (arith, lt)); sums = omega arith };
      collected = record { kept_low = omega arith; minor_low = omega arith; major_low = omega arith };
    })

pub opened_stands : (policy : Policy) (v : Both) (n : ℕ) → n ≤ 16777215 → policy.kind ≡ Generational → Opens policy.first policy.second n v → StandsAs policy policy v n []
opened_stands policy v n few kind o = record {
  policy_is = refl;
  kind_is = kind;
  first_is = o.first_is;
  second_is = o.second_is;
  stable = opened_ready v policy.first policy.second n few o;
  heap_is = λ reached d. o.heap_is;
}

-- ONE ITEM MORE

goes_on : (b : Bool) (x y : Heap) → b ≡ false → cond b x y ≡ y
goes_on false x y e = refl
goes_on true x y e = absurd cc

pub stands_next : (own policy : Policy) (v v' : Both) (n : ℕ) (past : List Item) (item : Item) → is_some v.heap.exhausted ≡ false → MayCome n past item → StepsBoth item v v' → StandsAs own policy v n past → StandsAs own policy v' n (item ∷ past)
stands_next own policy v v' n past item room c s t = record {
  policy_is = t.policy_is;
  kind_is = t.kind_is;
  first_is = s.first_is ∙ t.first_is;
  second_is = s.second_is ∙ t.second_is;
  stable = s.stable n past c t.stable;
  heap_is = λ reached d. (let g = generations_after reached v.first v.second past in
      let e = s.heap_is n past c t.stable reached d in
      let h = t.heap_is reached d in
      let on : v'.heap ≡ generations_on reached v.first v.second past item g = e ∙ ap (λ (k : Heap). generations_on reached v.first v.second past item k) h in
      let none : is_some g.exhausted ≡ false = ap (λ (k : Heap). is_some k.exhausted) (sym h) ∙ room in
      let q : v'.heap ≡ generations_after reached v.first v.second (item ∷ past) = on ∙ sym (goes_on (is_some g.exhausted) g (generations_on reached v.first v.second past item g) none) in
      subst (λ (a : ℕ). v'.heap ≡ generations_after reached a v'.second (item ∷ past)) (sym s.first_is) (subst (λ (b : ℕ). v'.heap ≡ generations_after reached v.first b (item ∷ past)) (sym s.second_is) q));
}

-- the heap is the policy's
by_kind : (reached : Graph → ℕ → Bool) (k : Kind) (first second : ℕ) (past : List Item) → k ≡ Generational → heap_by reached k first second past ≡ generations_after reached first second past
by_kind reached k first second past e = subst (λ (j : Kind). heap_by reached j first second past ≡ generations_after reached first second past) (sym e) refl

pub stands_heap : (reached : Graph → ℕ → Bool) → Decides reached → (own policy : Policy) (v : Both) (n : ℕ) (past : List Item) → StandsAs own policy v n past → v.heap ≡ heap_after reached policy past
stands_heap reached d own policy v n past t =
    t.heap_is reached d
    ∙ (ap (λ (a : ℕ). generations_after reached a v.second past) t.first_is
    ∙ (ap (λ (b : ℕ). generations_after reached policy.first b past) t.second_is
    ∙ sym (by_kind reached policy.kind policy.first policy.second past t.kind_is)))

pub stands_tally : (reached : Graph → ℕ → Bool) → Decides reached → (own policy : Policy) (v : Both) (n : ℕ) (past : List Item) → StandsAs own policy v n past → account own v.heap ≡ tally reached policy past
stands_tally reached d own policy v n past t = ap (λ (p : Policy). account p v.heap) t.policy_is ∙ ap (λ (h : Heap). account policy h) (stands_heap reached d own policy v n past t)

pub stands_exhausted : (reached : Graph → ℕ → Bool) → Decides reached → (own policy : Policy) (v : Both) (n : ℕ) (past : List Item) → StandsAs own policy v n past → is_some v.heap.exhausted ≡ is_exhausted reached policy past
stands_exhausted reached d own policy v n past t = ap (λ (h : Heap). is_some h.exhausted) (stands_heap reached d own policy v n past t)

pub stands_room : (own policy : Policy) (v : Both) (n : ℕ) (past : List Item) → StandsAs own policy v n past → HasItemRoom policy past → is_some v.heap.exhausted ≡ false
stands_room own policy v n past t r = stands_exhausted r.reached r.decides own policy v n past t ∙ r.room

-- what may come after some items may come after all that the tables know
pub may_move : (s : List (Option ℕ)) (d : List Bool) (n n' : ℕ) (past past' : List Item) (item : Item) → Knows s d n past → Knows s d n' past' → MayCome n past item → MayCome n' past' item
may_move s d n n' past past' (Alloc event object size) h h' c =
    let a = h.sizes_long in let b = h'.sizes_long in
    let last = c.last in
    let same : n ≡ n' = omega (arith, a, b) in
    let le : object ≤ n' = omega (arith, last, same) in
    record { first = c.first; last = le; new = ap (λ (x : Option ℕ). is_some x) (sym (h'.size_is object le) ∙ h.size_is object last) ∙ c.new; small = c.small }
may_move s d n n' past past' (Write event object slot new) h h' c = c
may_move s d n n' past past' (Death object time) h h' c = c
