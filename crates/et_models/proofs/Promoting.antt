-- What a minor collection promotes.
use Rattle.std.proofs.Common.{◌≡◌, ◌≢◌, ℕ, zero, suc, ◌<◌, ◌≤◌, Bool, true, not, eqb, List, [], ◌∷◌, ◌++◌, length, get_or, filter, Option, refl, sym, ap, subst, ◌∙◌, arith, inl, inr}
use Rattle.std.specs.Prelude.{Contains, unwrap_or}
use Rattle.std.specs.List.{All, list_any, filter_map, sum_by}
use Rattle.std.specs.BTreeMap.{BTreeMap, get}
use Rattle.std.specs.Ordering.{nat_cmp}
use Rattle.std.proofs.lemmas.List.Elements.{Contains-append_left, Contains-append_right, Contains-append_cases}
use Rattle.std.proofs.lemmas.List.Filters.{sum_by-filter_both}
use Rattle.std.proofs.lemmas.Bool.{not-true}
use Rattle.et_graph.specs.Graph.{Graph, Decides}
use Rattle.et_base.proofs.Lists.{filter_kept, filter_keeps, has_contains, contains_has}
use Rattle.et_base.proofs.Options.{some_number}
use Rattle.et_base.proofs.Tests.{bool_same}
use Rattle.et_graph.proofs.Walks.{root_reached}
use Rattle.et_replay.proofs.ByKey.{filter_same}
use Rattle.et_replay.specs.declared.item.Item.{Item}
use Rattle.et_replay.specs.Heap.{is_made, content, slot_written_by, slots}
use Rattle.et_replay.specs.Tally.{live_of, nursery_graph}
use Rattle.et_models.specs.declared.places.Place.{Place}
use Rattle.et_models.specs.declared.places.Place.TheVariants.{Nursery}
use Rattle.et_replay.specs.Fed.{AreFed}
use Rattle.et_models.specs.Tables.{size_at, flag_at}
use Rattle.et_models.specs.Places.{place_at, is_kept}
use Rattle.et_models.specs.Marking.{NamesInSlot, BeginsMarking, IsFound}
use Rattle.et_models.specs.Generations.{Both, KnowsSlots, IsReadyToCollect}
use Rattle.et_replay.proofs.Coming.{in_range}
use Rattle.et_models.proofs.Contents.{content_made, slots_have, slots_only, element}
use Rattle.et_models.proofs.Spots.{nowhere_nursery, nowhere_kept, nowhere_old, nursery_kept, old_nursery, old_kept, kept_is}
use Rattle.et_models.proofs.Totals.{unflagged_is}

-- what is filtered is no more than all
pub filter_le : (t : ℕ → Bool) (f : ℕ → ℕ) (xs : List ℕ) → sum_by f (filter t xs) ≤ sum_by f xs
filter_le t f xs = let both = sum_by-filter_both t (λ o. not (t o)) (λ o. refl) f xs in omega (arith, both)

pub kept_le : (s s' : List (Option ℕ)) (nursery other none kept kept' : List ℕ) (t : ℕ → Bool) → s' ≡ s → other ≡ nursery → none ≡ [] → kept ≡ none ++ filter t other → kept' ≡ kept → sum_by (size_at s') kept' ≤ sum_by (size_at s) nursery
kept_le s s' nursery other none kept kept' t a b c d e =
    let is : kept' ≡ filter t nursery = e ∙ (d ∙ (ap (λ (w : List ℕ). w ++ filter t other) c ∙ ap (λ (w : List ℕ). filter t w) b)) in
    let le = filter_le t (size_at s) nursery in
    let same : sum_by (size_at s') kept' ≡ sum_by (size_at s) (filter t nursery) = ap (λ (w : List (Option ℕ)). sum_by (size_at w) kept') a ∙ ap (λ (w : List ℕ). sum_by (size_at s) w) is in
    omega (arith, le, same)

pub of_all : (P : ℕ → Type 0) (xs : List ℕ) (o : ℕ) → All P xs → Contains xs o → P o
of_all P xs o all c = subst P c.2 (all c.0 o c.1)

-- the slots of the tables are those that the items tell of
names_pairs : (slots : List (BTreeMap ℕ ℕ)) (n : ℕ) (past : List Item) (u t : ℕ) → KnowsSlots slots n past → NamesInSlot slots u t → t ≢ 0 → Contains (filter_map (slot_written_by past) past) (u, t)
names_pairs slots n past u t k m ne =
    let s = m.refers.0 in
    let is : content past u s ≡ t = sym (k.content_is u s m.own m.within m.stands) ∙ ap (λ (v : Option ℕ). unwrap_or v 0) m.refers.1 in
    subst (λ (v : ℕ). Contains (filter_map (slot_written_by past) past) (u, v)) is (slots_have past past u s (λ z. ne (sym is ∙ z)))

pairs_names : (slots : List (BTreeMap ℕ ℕ)) (n : ℕ) (past : List Item) (u t : ℕ) → AreFed n past → KnowsSlots slots n past → Contains (filter_map (slot_written_by past) past) (u, t) → t ≢ 0 → NamesInSlot slots u t
pairs_names slots n past u t f k h ne =
    let r = slots_only past past u t h in
    let nz : content past u r.0 ≢ 0 = λ z. ne (sym r.1 ∙ z) in
    let le = (in_range n past u f (content_made past u r.0 nz)).1 in
    let long = k.long in
    let lt : u < length slots = omega (arith, le, long) in
    let e = element slots u lt in
    let is = k.content_is u r.0 e.0 lt e.1 ∙ r.1 in
    record { own = e.0; within = lt; stands = e.1; refers = (r.0, some_number (get nat_cmp e.0 r.0) t is ne) }

-- a minor collection may search
pub begins : (reached : Graph → ℕ → Bool) (v : Both) (n : ℕ) (past : List Item) (a b : ℕ) → IsReadyToCollect v n past a b → BeginsMarking (nursery_graph reached past v.heap) v.heap.nursery v.heap.space (v.remembered ++ v.early) v.dead v.slots v.places
begins reached v n past a b r =
    let h = v.heap in
    let g = nursery_graph reached past h in
    let test = λ (pair : ℕ × ℕ). list_any (λ object. eqb object pair.1) h.nursery in
    let live = unflagged_is n past v.sizes v.dead h.nursery r.fed r.knows r.holds.young_made in
    let some : (o : ℕ) → Contains h.nursery o → o ≢ 0 = λ o c z. (let first = (in_range n past o r.fed (of_all (λ x. is_made past x ≡ true) h.nursery o r.holds.young_made c)).0 in absurd (omega (arith, first, z))) in
    let young : (o : ℕ) → place_at v.places o ≡ Nursery → Contains h.nursery o = λ o y. elim (r.places.only o) [ inl e ↦ nowhere_nursery (place_at v.places o) e y | inr x ↦ elim x [ inl c ↦ c | inr c ↦ old_nursery (place_at v.places o) (r.places.old o c) y ] ] in
    record {
      draws = record {
        pairs = λ u t m y. filter_keeps test (slots past) (u, t) (names_pairs v.slots n past u t r.slots m (some t (young t y))) (contains_has h.nursery t (young t y));
        old = λ o c. root_reached g o (Contains-append_right (live_of past h.nursery) h.space o c);
        fresh = λ o k. elim (r.places.only o) [ inl e ↦ nowhere_kept (place_at v.places o) e k | inr x ↦ elim x [ inl c ↦ nursery_kept (place_at v.places o) (r.places.young o c) k | inr c ↦ old_kept (place_at v.places o) (r.places.old o c) k ] ];
      };
      named = λ u t c. (let k = filter_kept test (slots past) (u, t) c in let y = has_contains h.nursery t k.1 in (pairs_names v.slots n past u t r.fed r.slots k.0 (some t y), r.places.young t y));
      young = r.places.young;
      roots = λ o c. elim (Contains-append_cases (live_of past h.nursery) h.space o c) [
        | inl x ↦ (let u = filter_kept (λ p. not (flag_at v.dead p)) h.nursery o (subst (λ (l : List ℕ). Contains l o) (sym live) x) in inl (record { among = u.0; lives = not-true (flag_at v.dead o) u.1 }))
        | inr y ↦ inr y
      ];
      seeds = λ o s. root_reached g o (Contains-append_left (live_of past h.nursery) h.space o (subst (λ (l : List ℕ). Contains l o) live (filter_keeps (λ p. not (flag_at v.dead p)) h.nursery o s.among (ap not s.lives))));
      old = r.places.old;
      only_old = λ o y. elim (r.places.only o) [ inl e ↦ nowhere_old (place_at v.places o) e y | inr x ↦ elim x [ inl c ↦ old_nursery (place_at v.places o) y (r.places.young o c) | inr c ↦ c ] ];
      noted = r.noted.young;
    }

-- what was marked is what is reached
pub survive : (reached : Graph → ℕ → Bool) → Decides reached → (g : Graph) (nursery : List ℕ) (start marked : List Place) → ((o : ℕ) → Contains nursery o → place_at start o ≡ Nursery) → IsFound g start marked → filter (λ o. is_kept (place_at marked o)) nursery ≡ filter (reached g) nursery
survive reached decides g nursery start marked young found = filter_same (λ o. is_kept (place_at marked o)) (reached g) nursery
    (λ i d lt. (let o = get_or nursery i d in
    bool_same (is_kept (place_at marked o)) (reached g o)
    (λ k. (decides g o).1 (found.kept o (kept_is (place_at marked o) k)))
    (λ t. ap is_kept (found.reached o (young o (i, lt, own nursery i d lt)) ((decides g o).0 t)))))
  where
    own : (xs : List ℕ) (i d : ℕ) → i < length xs → get_or xs i (get_or xs i d) ≡ get_or xs i d
    own [] i d lt = absurd (omega (arith, lt))
    own (x ∷ xs) zero d lt = refl
    own (x ∷ xs) (suc i) d lt = own xs i d (omega (arith, lt))
