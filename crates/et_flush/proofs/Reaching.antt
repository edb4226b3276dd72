-- What the times of a flush tell.
use Rattle.std.proofs.Common.{◌≡◌, ℕ, suc, ◌+◌, ◌<◌, ◌≤◌, ◌↔◌, Bool, true, false, List, [], ◌∷◌, ◌++◌, length, map, get_or, All, Option, Some, None, refl, sym, ◌∙◌, ap, subst, inl, inr, arith, true≢false}
use Rattle.std.specs.Prelude.{if◌then◌else◌, not, ◌&&◌}
use Rattle.std.proofs.lemmas.Bool.{cases_Bool, leb-true, le-leb}
use Rattle.std.proofs.lemmas.List.{length-append}
use Rattle.std.proofs.lemmas.List.Sums.{sum_by-cons}
use Rattle.et_graph.specs.Graph.{IsReached, IsDead, AreDead}
use Rattle.et_graph.proofs.Deaths.{map_first, first_map}
use Rattle.et_graph.proofs.Walks.{cases_reached}
use Rattle.et_heap.specs.Objects.{ObjectState, Objects, IsHeld, is_there, found, object_at, held_count, ones_in}
use Rattle.et_heap.specs.Remaining.{is_cleared, kept_referent, left_place, remaining}
use Rattle.et_heap.proofs.HeapLists.{held_within, gone_at, at_gone}
use Rattle.et_graph.specs.Listed.{IsGreatest, AreListed}
use Rattle.et_flush.specs.declared.times.TheConstants.{NOW}
use Rattle.et_flush.specs.Searches.{AreDyingIn}
use Rattle.et_flush.specs.Sweeps.{is_now, visits_of, visits_from}
use Rattle.et_flush.specs.Works.{IsSettled}
use Rattle.et_heap.specs.Cleared.{loses_referent, cleared_references}
use Rattle.et_flush.specs.Flushes.{heap_graph}
use Rattle.et_flush.proofs.Targets.{held_above}
use Rattle.et_flush.proofs.Settling.{lead_held}
use Rattle.et_flush.proofs.Orders.{cases_held}

module _ (heap : Objects) (roots stamps : List ℕ) (time : ℕ → ℕ) (none : IsHeld heap 0 → ⊥) (stamped : (o : ℕ) → IsHeld heap o → o < length stamps) (below : All (λ t. t < NOW) stamps) (settled : IsSettled heap roots stamps time) where
  unreached_below : (o : ℕ) → IsHeld heap o → ¬ IsReached (heap_graph heap roots) o → time o < NOW
  unreached_below o held unreached =
      let s = (settled.unreached o held unreached).source in
      let here : IsHeld heap s.0 = lead_held heap s.0 o s.2 held in
      omega (arith, s.3, below s.0 0 (stamped s.0 here))

  -- which are reached now
  pub now_reached : (o : ℕ) → IsHeld heap o → (is_now time o ≡ true) ↔ IsReached (heap_graph heap roots) o
  now_reached o held = (
    λ now.
        elim (cases_reached (heap_graph heap roots) o) [
          | inl r ↦ r
          | inr unreached ↦ absurd (omega (arith, unreached_below o held unreached, leb-true NOW (time o) now))
        ],
    λ r. le-leb NOW (time o) (settled.reached o held r),
  )

  dead_held : (o : ℕ) → IsDead (heap_graph heap roots) o → IsHeld heap o
  dead_held o dead =
      elim (cases_held heap o) [
        | inl held ↦ held
        | inr out ↦ absurd (dead.2 (at_gone heap o dead.0.0 (omega (arith, dead.0.0, dead.0.1)) out))
      ]

  held_dead : (o : ℕ) → IsHeld heap o → ¬ IsReached (heap_graph heap roots) o → IsDead (heap_graph heap roots) o
  held_dead o held unreached = let last : o < length heap = held_within heap o held in ((held_above heap o none held, omega arith), unreached, λ c. (gone_at heap o c).2 held)

  -- what is below NOW is dead, with the greatest stamp that leads to it
  pub below_listed : (deaths : List (ℕ × ℕ)) → AreDyingIn heap time deaths → AreListed (heap_graph heap roots) (λ u. get_or stamps u 0) deaths
  below_listed deaths are = record {
    rising = are.rising;
    exact = λ o t. (
      λ c.
          let d = (are.exact o t).0 c in
          let unreached : ¬ IsReached (heap_graph heap roots) o = λ r. omega (arith, settled.reached o d.0 r, d.1, d.2) in
          (held_dead o d.0 unreached, subst (λ (k : ℕ). IsGreatest (heap_graph heap roots) (λ u. get_or stamps u 0) o k) d.1 (settled.unreached o d.0 unreached)),
      λ (dead, greatest).
          let held : IsHeld heap o = dead_held o dead in
          let most_is = settled.unreached o held dead.1 in
          let least = most_is.greatest greatest.source.0 greatest.source.1 greatest.source.2 in
          let most = greatest.greatest most_is.source.0 most_is.source.1 most_is.source.2 in
          let same : time o ≡ t = omega (arith, least, most, greatest.source.3, most_is.source.3) in
          (are.exact o t).1 (held, same, omega (arith, same, unreached_below o held dead.1)),
    );
  }

  -- .. and these are all the dead objects
  pub below_dead : (deaths : List (ℕ × ℕ)) → AreDyingIn heap time deaths → AreDead (heap_graph heap roots) (map (λ d. d.0) deaths)
  below_dead deaths are = record {
    rising = are.rising;
    exact = λ o. (
      λ c. let at = first_map deaths o c in (((below_listed deaths are).exact o at.0).0 at.1).0,
      λ dead. map_first deaths o (time o) ((are.exact o (time o)).1 (dead_held o dead, refl, unreached_below o (dead_held o dead) dead.1)),
    );
  }

-- TESTS THAT SAY THE SAME

same_test : (a b : Bool) (R : Type 0) → (a ≡ true) ↔ R → (b ≡ true) ↔ R → a ≡ b
same_test a b R f g =
    elim (cases_Bool a) [
      | inl t ↦ t ∙ sym (g.1 (f.0 t))
      | inr n ↦ elim (cases_Bool b) [
        | inl t ↦ absurd (true≢false (sym (f.1 (g.0 t)) ∙ n))
        | inr m ↦ n ∙ sym m
      ]
    ]

pub tests_same : (heap : Objects) (R : ℕ → Type 0) (here other : ℕ → Bool) → ((o : ℕ) → IsHeld heap o → (here o ≡ true) ↔ R o) → ((o : ℕ) → IsHeld heap o → (other o ≡ true) ↔ R o) → (o : ℕ) → IsHeld heap o → here o ≡ other o
tests_same heap R here other f g o held = same_test (here o) (other o) (R o) (f o held) (g o held)

abbrev Agree : (ℕ → Bool) → (ℕ → Bool) → ℕ → Objects → Type 0
Agree here other k xs = (j : ℕ) → is_there (get_or xs j None) → here (k + j) ≡ other (k + j)

abbrev AgreeWeakly : (ℕ → Bool) → (ℕ → Bool) → Objects → Type 0
AgreeWeakly here other xs = (j r : ℕ) → (found (get_or xs j None)).referent ≡ Some r → here r ≡ other r

agree_next : (here other : ℕ → Bool) (k : ℕ) (x : Option ObjectState) (xs : Objects) → Agree here other k (x ∷ xs) → Agree here other (k + 1) xs
agree_next here other k x xs agree j there =
    let e : k + suc j ≡ k + 1 + j = omega arith in
    subst (λ (i : ℕ). here i ≡ other i) e (agree (suc j) there)

is_cleared_same : (here other : ℕ → Bool) (p : Option ℕ) → ((r : ℕ) → p ≡ Some r → here r ≡ other r) → is_cleared here p ≡ is_cleared other p
is_cleared_same here other None same = refl
is_cleared_same here other (Some r) same = ap (λ (b : Bool). not b) (same r refl)

referent_same : (here other : ℕ → Bool) (p : Option ℕ) → ((r : ℕ) → p ≡ Some r → here r ≡ other r) → kept_referent here p ≡ kept_referent other p
referent_same here other p same = ap (λ (b : Bool). if b then None else p) (is_cleared_same here other p same)

stays_same : (here other : ℕ → Bool) (b : Bool) (x : ObjectState) → ((r : ℕ) → x.referent ≡ Some r → here r ≡ other r) → left_place here b (Some x) ≡ left_place other b (Some x)
stays_same here other false x weak = refl
stays_same here other true x weak = ap (λ (r : Option ℕ). Some (record x { referent = r })) (referent_same here other x.referent weak)

place_same : (here other : ℕ → Bool) (a b : Bool) (x : Option ObjectState) → (is_there x → a ≡ b) → ((r : ℕ) → (found x).referent ≡ Some r → here r ≡ other r) → left_place here a x ≡ left_place other b x
place_same here other a b None same weak = refl
place_same here other a b (Some x) same weak = ap (λ (c : Bool). left_place here c (Some x)) (same tt) ∙ stays_same here other b x weak

remaining_from : (here other : ℕ → Bool) (k : ℕ) (xs : Objects) → Agree here other k xs → AgreeWeakly here other xs → remaining here k xs ≡ remaining other k xs
remaining_from here other k [] agree weak = refl
remaining_from here other k (x ∷ xs) agree weak =
    let first : left_place here (here k) x ≡ left_place other (other k) x = place_same here other (here k) (other k) x (λ there. subst (λ (i : ℕ). here i ≡ other i) (let e : k + 0 ≡ k = omega arith in e) (agree 0 there)) (λ r e. weak 0 r e) in
    let rest : remaining here (k + 1) xs ≡ remaining other (k + 1) xs = remaining_from here other (k + 1) xs (agree_next here other k x xs agree) (λ j r e. weak (suc j) r e) in
    ap (λ (p : Option ObjectState). p ∷ remaining here (k + 1) xs) first ∙ ap (λ (ys : Objects). left_place other (other k) x ∷ ys) rest

agrees : (heap : Objects) (here other : ℕ → Bool) → ((o : ℕ) → IsHeld heap o → here o ≡ other o) → Agree here other 0 heap
agrees heap here other same j there = subst (λ (i : ℕ). here i ≡ other i) (let e : j ≡ 0 + j = omega arith in e) (same j there)

pub remaining_same : (heap : Objects) (here other : ℕ → Bool) → ((o : ℕ) → IsHeld heap o → here o ≡ other o) → ((u r : ℕ) → (object_at heap u).referent ≡ Some r → IsHeld heap r) → remaining here 0 heap ≡ remaining other 0 heap
remaining_same heap here other same referents = remaining_from here other 0 heap (agrees heap here other same) (λ j r e. same r (referents j r e))

-- VISITS

-- the reference at number k, where its referent becomes null
abbrev cleared_one : (ℕ → Bool) → Bool → ℕ → Option ObjectState → List ℕ
cleared_one here b k x = if loses_referent here b x then k ∷ [] else []

one_long : (b : Bool) (k : ℕ) → length (if b then k ∷ [] else []) ≡ (if b then 1 else 0)
one_long true k = refl
one_long false k = refl

visits_in : (here other : ℕ → Bool) (a b : Bool) (k : ℕ) (x : Option ObjectState) → (is_there x → a ≡ b) → ((r : ℕ) → (found x).referent ≡ Some r → here r ≡ other r) → visits_of here a x ≤ ones_in x + length (cleared_one other b k x)
visits_in here other a b k None same weak = omega arith
visits_in here other false b k (Some x) same weak = omega arith
visits_in here other true b k (Some x) same weak =
    let e : length (if b && is_cleared other x.referent then k ∷ [] else []) ≡ (if is_cleared here x.referent then 1 else 0) =
    ap (λ (c : Bool). length (if c && is_cleared other x.referent then k ∷ [] else [])) (sym (same tt)) ∙ (one_long (is_cleared other x.referent) k ∙ ap (λ (c : Bool). if c then 1 else 0) (sym (is_cleared_same here other x.referent weak))) in
    omega arith

visits_at : (here other : ℕ → Bool) (k : ℕ) (xs : Objects) → Agree here other k xs → AgreeWeakly here other xs → visits_from here k xs ≤ held_count xs + length (cleared_references other k xs)
visits_at here other k [] agree weak = omega arith
visits_at here other k (x ∷ xs) agree weak =
    let first = visits_in here other (here k) (other k) k x (λ there. subst (λ (i : ℕ). here i ≡ other i) (let e : k + 0 ≡ k = omega arith in e) (agree 0 there)) (λ r e. weak 0 r e) in
    let rest = visits_at here other (k + 1) xs (agree_next here other k x xs agree) (λ j r e. weak (suc j) r e) in
    omega (arith, sum_by-cons ones_in x xs, length-append (cleared_one other (other k) k x) (cleared_references other (k + 1) xs))

pub visits_bound : (heap : Objects) (here other : ℕ → Bool) → ((o : ℕ) → IsHeld heap o → here o ≡ other o) → ((u r : ℕ) → (object_at heap u).referent ≡ Some r → IsHeld heap r) → visits_from here 0 heap ≤ held_count heap + length (cleared_references other 0 heap)
visits_bound heap here other same referents = visits_at here other 0 heap (agrees heap here other same) (λ j r e. same r (referents j r e))

-- WHAT IS CLEARED

cleared_same_place : (here other : ℕ → Bool) (a b : Bool) (x : Option ObjectState) → (is_there x → a ≡ b) → ((r : ℕ) → (found x).referent ≡ Some r → here r ≡ other r) → loses_referent here a x ≡ loses_referent other b x
cleared_same_place here other a b None same weak = refl
cleared_same_place here other a b (Some x) same weak =
    ap (λ (c : Bool). c && is_cleared here x.referent) (same tt) ∙ ap (λ (c : Bool). b && c) (is_cleared_same here other x.referent weak)

cleared_from : (here other : ℕ → Bool) (k : ℕ) (xs : Objects) → Agree here other k xs → AgreeWeakly here other xs → cleared_references here k xs ≡ cleared_references other k xs
cleared_from here other k [] agree weak = refl
cleared_from here other k (x ∷ xs) agree weak =
    let first : loses_referent here (here k) x ≡ loses_referent other (other k) x = cleared_same_place here other (here k) (other k) x (λ there. subst (λ (i : ℕ). here i ≡ other i) (let e : k + 0 ≡ k = omega arith in e) (agree 0 there)) (λ r e. weak 0 r e) in
    let rest : cleared_references here (k + 1) xs ≡ cleared_references other (k + 1) xs = cleared_from here other (k + 1) xs (agree_next here other k x xs agree) (λ j r e. weak (suc j) r e) in
    ap (λ (b : Bool). (if b then k ∷ [] else []) ++ cleared_references here (k + 1) xs) first ∙ ap (λ (rs : List ℕ). (if loses_referent other (other k) x then k ∷ [] else []) ++ rs) rest

pub cleared_same : (heap : Objects) (here other : ℕ → Bool) → ((o : ℕ) → IsHeld heap o → here o ≡ other o) → ((u r : ℕ) → (object_at heap u).referent ≡ Some r → IsHeld heap r) → cleared_references here 0 heap ≡ cleared_references other 0 heap
cleared_same heap here other same referents = cleared_from here other 0 heap (agrees heap here other same) (λ j r e. same r (referents j r e))
