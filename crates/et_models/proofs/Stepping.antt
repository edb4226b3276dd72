-- How two spaces take an item.
use Rattle.std.proofs.Common.{◌≡◌, ℕ, ◌+◌, ◌*◌, ◌^◌, ◌<◌, ◌≤◌, Bool, true, cond, nat_lt, List, ◌∷◌, length, get_or, Option, Some, None, refl, sym, ap, subst, ◌∙◌, arith, inl, inr, ◌⊎◌}
use Rattle.std.specs.Prelude.{is_some}
use Rattle.std.specs.List.{sum_by}
use Rattle.std.specs.BTreeMap.{BTreeMap}
use Rattle.std.proofs.lemmas.Bool.{cond-false, cond-true, le-leb, le-ltb, lt-leb, lt-ltb}
use Rattle.std.proofs.lemmas.List.{get_or_past}
use Rattle.et_graph.specs.Graph.{Graph, Decides}
use Rattle.et_replay.specs.declared.item.Item.{Item}
use Rattle.et_replay.specs.declared.item.Item.TheVariants.{Alloc, Write}
use Rattle.et_replay.specs.Heap.{bytes}
use Rattle.et_replay.specs.Items.{made_objects}
use Rattle.et_replay.specs.Tally.{Heap, fits_capacity, sweep, exhaust, place, place_young, place_with, promote, minor_collection, nursery_on, generations_on}
use Rattle.et_models.specs.Tables.{size_at}
use Rattle.et_models.specs.Generations.{Both, IsReadyToCollect, IsStable, Promotes, Collects, StepsBoth, WritesSlot, swept, placed_young, placed_old, left_out, reference_noted}
use Rattle.et_models.proofs.Noted.{noted_is}
use Rattle.et_replay.proofs.Coming.{all_low, few_made}
use Rattle.et_models.proofs.Totals.{sum_is}
use Rattle.et_models.proofs.Ready.{swept_ready, promoted_ready, promoted_is, young_ready, old_ready, left_ready, ready_more, wrote_ready}

-- WHAT FITS

pub record IsLow (v : Both) : Type 0 where
  pub young : sum_by (size_at v.sizes) v.heap.nursery ≡ v.young_bytes
  pub old : sum_by (size_at v.sizes) v.heap.space ≡ v.old_bytes
  pub all : v.heap.freed + (v.young_bytes + v.old_bytes) ≤ 2 ^ 54
  pub kept : v.heap.kept ≤ v.heap.minor * 2 ^ 54
  pub minor : v.heap.minor ≤ 16777216
  pub major : v.heap.major ≤ 16777216

ready_low : (v : Both) (n : ℕ) (past : List Item) (a b : ℕ) → a ≤ 16777216 → b ≤ 16777216 → IsReadyToCollect v n past a b → IsLow v
ready_low v n past a b x y r =
    let low = all_low n past r.few r.fed in
    let sums = r.holds.sums in let yb = r.holds.young_bytes_is in let ob = r.holds.old_bytes_is in
    let minor = r.collected.minor_low in let major = r.collected.major_low in
    record {
      young = sum_is n past v.sizes v.dead v.heap.nursery r.fed r.knows r.holds.young_made ∙ sym r.holds.young_bytes_is;
      old = sum_is n past v.sizes v.dead v.heap.space r.fed r.knows r.holds.old_made ∙ sym r.holds.old_bytes_is;
      all = omega (arith, sums, low, yb, ob);
      kept = r.collected.kept_low;
      minor = omega (arith, minor, x);
      major = omega (arith, major, y);
    }

few_collections : (v : Both) (n : ℕ) (past : List Item) → IsStable v n past → length (made_objects past) + 1 ≤ 16777216
few_collections v n past r = let few = r.few in let many = few_made n past r.fed in omega (arith, few, many)

pub stable_low : (v : Both) (n : ℕ) (past : List Item) → IsStable v n past → IsLow v
stable_low v n past r = let few = few_collections v n past r in ready_low v n past (length (made_objects past)) (length (made_objects past)) (omega (arith, few)) (omega (arith, few)) r

-- COLLECTIONS

promotes_ready : (v w : Both) (n : ℕ) (past : List Item) (a b : ℕ) → IsReadyToCollect v n past a b → Promotes v w → IsReadyToCollect w n past (a + 1) b
promotes_ready v w n past a b r p = subst (λ (u : Both). IsReadyToCollect u n past (a + 1) b) (sym p.is) (promoted_ready v n past a b p.marked w.places r p.found p.cleared)

promotes_is : (reached : Graph → ℕ → Bool) → Decides reached → (v w : Both) (n : ℕ) (past : List Item) (a b : ℕ) → IsReadyToCollect v n past a b → Promotes v w → w.heap ≡ promote reached past v.heap
promotes_is reached d v w n past a b r p = ap (λ (u : Both). u.heap) p.is ∙ promoted_is reached d v n past a b p.marked w.places r p.found

pub promotes_low : (v w : Both) (n : ℕ) (past : List Item) → IsStable v n past → Promotes v w → IsLow w
promotes_low v w n past r p = let few = few_collections v n past r in ready_low w n past (length (made_objects past) + 1) (length (made_objects past)) (omega (arith, few)) (omega (arith, few)) (promotes_ready v w n past (length (made_objects past)) (length (made_objects past)) r p)

pub swept_low : (v : Both) (n : ℕ) (past : List Item) → IsStable v n past → IsLow (swept v)
swept_low v n past r = let few = few_collections v n past r in ready_low (swept v) n past (length (made_objects past)) (length (made_objects past) + 1) (omega (arith, few)) (omega (arith, few)) (swept_ready v n past (length (made_objects past)) (length (made_objects past)) r).0

collects_ready : (v w : Both) (n : ℕ) (past : List Item) (a b : ℕ) → IsReadyToCollect v n past a b → Collects v w → IsReadyToCollect w n past (a + 1) (b + 1)
collects_ready v w n past a b r k =
    let m = promotes_ready v k.middle n past a b r k.promotes in
    elim k.is [
      | inl e ↦ subst (λ (u : Both). IsReadyToCollect u n past (a + 1) (b + 1)) (sym e.1) (ready_more k.middle n past (a + 1) b (a + 1) (b + 1) (omega arith) (omega arith) m)
      | inr e ↦ subst (λ (u : Both). IsReadyToCollect u n past (a + 1) (b + 1)) (sym e.1) (swept_ready k.middle n past (a + 1) b m).0
    ]

pub collects_low : (v w : Both) (n : ℕ) (past : List Item) → IsStable v n past → Collects v w → IsLow w
collects_low v w n past r k = let few = few_collections v n past r in ready_low w n past (length (made_objects past) + 1) (length (made_objects past) + 1) (omega (arith, few)) (omega (arith, few)) (collects_ready v w n past (length (made_objects past)) (length (made_objects past)) r k)

collects_first : (v w : Both) → Collects v w → w.first ≡ v.first
collects_first v w k = elim k.is [
  | inl e ↦ ap (λ (u : Both). u.first) e.1 ∙ ap (λ (u : Both). u.first) k.promotes.is
  | inr e ↦ ap (λ (u : Both). u.first) e.1 ∙ ap (λ (u : Both). u.first) k.promotes.is
]

collects_second : (v w : Both) → Collects v w → w.second ≡ v.second
collects_second v w k = elim k.is [
  | inl e ↦ ap (λ (u : Both). u.second) e.1 ∙ ap (λ (u : Both). u.second) k.promotes.is
  | inr e ↦ ap (λ (u : Both). u.second) e.1 ∙ ap (λ (u : Both). u.second) k.promotes.is
]

collects_is : (reached : Graph → ℕ → Bool) → Decides reached → (v w : Both) (n : ℕ) (past : List Item) (a b : ℕ) → IsReadyToCollect v n past a b → Collects v w → w.heap ≡ minor_collection reached v.second past v.heap
collects_is reached d v w n past a b r k =
    let m = promotes_ready v k.middle n past a b r k.promotes in
    let h = k.middle.heap in
    let ob = m.holds.old_bytes_is in
    let cap : k.middle.second ≡ v.second = ap (λ (u : Both). u.second) k.promotes.is in
    let here : w.heap ≡ cond (fits_capacity past h.space 0 v.second) h (sweep past h) = elim k.is [
      | inl e ↦ (let le = e.0 in ap (λ (u : Both). u.heap) e.1 ∙ sym (cond-true (fits_capacity past h.space 0 v.second) h (sweep past h) (le-leb (bytes past h.space + 0) v.second (omega (arith, le, ob, cap)))))
      | inr e ↦ (let lt = e.0 in ap (λ (u : Both). u.heap) e.1 ∙ ((swept_ready k.middle n past (a + 1) b m).1 ∙ sym (cond-false (fits_capacity past h.space 0 v.second) h (sweep past h) (lt-leb (bytes past h.space + 0) v.second (omega (arith, lt, ob, cap))))))
    ] in
    subst (λ (g : Heap). w.heap ≡ cond (fits_capacity past g.space 0 v.second) g (sweep past g)) (promotes_is reached d v k.middle n past a b r k.promotes) here

-- AN OBJECT COMES

on_young : (reached : Graph → ℕ → Bool) (first second : ℕ) (past : List Item) (event object size : ℕ) (heap : Heap) → size ≤ first → generations_on reached first second past (Alloc event object size) heap ≡ nursery_on reached first second past event object size heap
on_young reached first second past event object size heap le = cond-false (nat_lt first size) (place_with sweep second past event object size heap) (nursery_on reached first second past event object size heap) (le-ltb first size le)

on_old : (reached : Graph → ℕ → Bool) (first second : ℕ) (past : List Item) (event object size : ℕ) (heap : Heap) → first < size → generations_on reached first second past (Alloc event object size) heap ≡ place_with sweep second past event object size heap
on_old reached first second past event object size heap lt = cond-true (nat_lt first size) (place_with sweep second past event object size heap) (nursery_on reached first second past event object size heap) (lt-ltb first size lt)

abbrev settle : ℕ → List Item → ℕ → ℕ → ℕ → Heap → Heap
settle second past event object size g = cond (fits_capacity past g.space 0 second) (place_young (Alloc event object size ∷ past) object g) (exhaust event g)

abbrev settle_old : ℕ → List Item → ℕ → ℕ → ℕ → Heap → Heap
settle_old second past event object size g = cond (fits_capacity past g.space size second) (place (Alloc event object size ∷ past) object g) (exhaust event g)

one_more : (past : List Item) (event object size : ℕ) → length (made_objects past) + 1 ≤ length (made_objects (Alloc event object size ∷ past))
one_more past event object size = omega arith

no_fewer : (past : List Item) (event object size : ℕ) → length (made_objects past) ≤ length (made_objects (Alloc event object size ∷ past))
no_fewer past event object size = omega arith

pub young_at_once : (v : Both) (event object size : ℕ) → size ≤ v.first → v.young_bytes + size ≤ v.first → StepsBoth (Alloc event object size) v (placed_young object size v)
young_at_once v event object size le room = record {
  first_is = refl;
  second_is = refl;
  stable = λ n past c r. (let m = length (made_objects past) in let q = length (made_objects (Alloc event object size ∷ past)) in
      ready_more (placed_young object size v) n (Alloc event object size ∷ past) m m q q (no_fewer past event object size) (no_fewer past event object size) (young_ready v n past m m event object size c r).0);
  heap_is = λ n past c r reached d. (let m = length (made_objects past) in
      let yb = r.holds.young_bytes_is in
      (young_ready v n past m m event object size c r).1
      ∙ sym (on_young reached v.first v.second past event object size v.heap le
      ∙ cond-true (fits_capacity past v.heap.nursery size v.first) (place_young (Alloc event object size ∷ past) object v.heap) (settle v.second past event object size (minor_collection reached v.second past v.heap))
      (le-leb (bytes past v.heap.nursery + size) v.first (omega (arith, room, yb)))));
}

-- .. after a collection
collected_on : (reached : Graph → ℕ → Bool) → Decides reached → (v w : Both) (n : ℕ) (past : List Item) (event object size : ℕ) → size ≤ v.first → v.first < v.young_bytes + size → IsStable v n past → Collects v w → generations_on reached v.first v.second past (Alloc event object size) v.heap ≡ settle v.second past event object size w.heap
collected_on reached d v w n past event object size le lt r k =
    let m = length (made_objects past) in
    let yb = r.holds.young_bytes_is in
    on_young reached v.first v.second past event object size v.heap le
    ∙ (cond-false (fits_capacity past v.heap.nursery size v.first) (place_young (Alloc event object size ∷ past) object v.heap) (settle v.second past event object size (minor_collection reached v.second past v.heap))
    (lt-leb (bytes past v.heap.nursery + size) v.first (omega (arith, lt, yb)))
    ∙ ap (λ (g : Heap). settle v.second past event object size g) (sym (collects_is reached d v w n past m m r k)))

pub young_after : (v w : Both) (event object size : ℕ) → size ≤ v.first → v.first < v.young_bytes + size → Collects v w → w.old_bytes ≤ w.second → StepsBoth (Alloc event object size) v (placed_young object size w)
young_after v w event object size le lt k room = record {
  first_is = collects_first v w k;
  second_is = collects_second v w k;
  stable = λ n past c r. (let m = length (made_objects past) in let q = length (made_objects (Alloc event object size ∷ past)) in
      ready_more (placed_young object size w) n (Alloc event object size ∷ past) (m + 1) (m + 1) q q (one_more past event object size) (one_more past event object size) (young_ready w n past (m + 1) (m + 1) event object size c (collects_ready v w n past m m r k)).0);
  heap_is = λ n past c r reached d. (let m = length (made_objects past) in
      let s = collects_ready v w n past m m r k in
      let ob = s.holds.old_bytes_is in
      let cap = collects_second v w k in
      (young_ready w n past (m + 1) (m + 1) event object size c s).1
      ∙ sym (collected_on reached d v w n past event object size le lt r k
      ∙ cond-true (fits_capacity past w.heap.space 0 v.second) (place_young (Alloc event object size ∷ past) object w.heap) (exhaust event w.heap)
      (le-leb (bytes past w.heap.space + 0) v.second (omega (arith, room, ob, cap)))));
}

pub young_not : (v w : Both) (event object size : ℕ) → size ≤ v.first → v.first < v.young_bytes + size → Collects v w → w.second < w.old_bytes → StepsBoth (Alloc event object size) v (left_out event object size w)
young_not v w event object size le lt k full = record {
  first_is = collects_first v w k;
  second_is = collects_second v w k;
  stable = λ n past c r. (let m = length (made_objects past) in let q = length (made_objects (Alloc event object size ∷ past)) in
      ready_more (left_out event object size w) n (Alloc event object size ∷ past) (m + 1) (m + 1) q q (one_more past event object size) (one_more past event object size) (left_ready w n past (m + 1) (m + 1) event object size c (collects_ready v w n past m m r k)).0);
  heap_is = λ n past c r reached d. (let m = length (made_objects past) in
      let s = collects_ready v w n past m m r k in
      let ob = s.holds.old_bytes_is in
      let cap = collects_second v w k in
      sym (collected_on reached d v w n past event object size le lt r k
      ∙ cond-false (fits_capacity past w.heap.space 0 v.second) (place_young (Alloc event object size ∷ past) object w.heap) (exhaust event w.heap)
      (lt-leb (bytes past w.heap.space + 0) v.second (omega (arith, full, ob, cap)))));
}

-- .. into the old space
pub old_at_once : (v : Both) (event object size : ℕ) → v.first < size → v.old_bytes + size ≤ v.second → StepsBoth (Alloc event object size) v (placed_old object size v)
old_at_once v event object size lt room = record {
  first_is = refl;
  second_is = refl;
  stable = λ n past c r. (let m = length (made_objects past) in let q = length (made_objects (Alloc event object size ∷ past)) in
      ready_more (placed_old object size v) n (Alloc event object size ∷ past) m m q q (no_fewer past event object size) (no_fewer past event object size) (old_ready v n past m m event object size c r).0);
  heap_is = λ n past c r reached d. (let m = length (made_objects past) in
      let ob = r.holds.old_bytes_is in
      let is = le-leb (bytes past v.heap.space + size) v.second (omega (arith, room, ob)) in
      (old_ready v n past m m event object size c r).1
      ∙ sym (on_old reached v.first v.second past event object size v.heap lt
      ∙ (ap (λ (g : Heap). settle_old v.second past event object size g) (cond-true (fits_capacity past v.heap.space size v.second) v.heap (sweep past v.heap) is)
      ∙ cond-true (fits_capacity past v.heap.space size v.second) (place (Alloc event object size ∷ past) object v.heap) (exhaust event v.heap) is)));
}

swept_on : (reached : Graph → ℕ → Bool) (v : Both) (n : ℕ) (past : List Item) (event object size : ℕ) → v.first < size → v.second < v.old_bytes + size → IsStable v n past → generations_on reached v.first v.second past (Alloc event object size) v.heap ≡ settle_old v.second past event object size (swept v).heap
swept_on reached v n past event object size lt full r =
    let m = length (made_objects past) in
    let ob = r.holds.old_bytes_is in
    on_old reached v.first v.second past event object size v.heap lt
    ∙ ap (λ (g : Heap). settle_old v.second past event object size g)
    (cond-false (fits_capacity past v.heap.space size v.second) v.heap (sweep past v.heap) (lt-leb (bytes past v.heap.space + size) v.second (omega (arith, full, ob)))
    ∙ sym (swept_ready v n past m m r).1)

pub old_after : (v : Both) (event object size : ℕ) → v.first < size → v.second < v.old_bytes + size → (swept v).old_bytes + size ≤ v.second → StepsBoth (Alloc event object size) v (placed_old object size (swept v))
old_after v event object size lt full room = record {
  first_is = refl;
  second_is = refl;
  stable = λ n past c r. (let m = length (made_objects past) in let q = length (made_objects (Alloc event object size ∷ past)) in
      ready_more (placed_old object size (swept v)) n (Alloc event object size ∷ past) m (m + 1) q q (no_fewer past event object size) (one_more past event object size) (old_ready (swept v) n past m (m + 1) event object size c (swept_ready v n past m m r).0).0);
  heap_is = λ n past c r reached d. (let m = length (made_objects past) in
      let s = (swept_ready v n past m m r).0 in
      let ob = s.holds.old_bytes_is in
      (old_ready (swept v) n past m (m + 1) event object size c s).1
      ∙ sym (swept_on reached v n past event object size lt full r
      ∙ cond-true (fits_capacity past (swept v).heap.space size v.second) (place (Alloc event object size ∷ past) object (swept v).heap) (exhaust event (swept v).heap)
      (le-leb (bytes past (swept v).heap.space + size) v.second (omega (arith, room, ob)))));
}

pub old_not : (v : Both) (event object size : ℕ) → v.first < size → v.second < v.old_bytes + size → v.second < (swept v).old_bytes + size → StepsBoth (Alloc event object size) v (left_out event object size (swept v))
old_not v event object size lt full none = record {
  first_is = refl;
  second_is = refl;
  stable = λ n past c r. (let m = length (made_objects past) in let q = length (made_objects (Alloc event object size ∷ past)) in
      ready_more (left_out event object size (swept v)) n (Alloc event object size ∷ past) m (m + 1) q q (no_fewer past event object size) (one_more past event object size) (left_ready (swept v) n past m (m + 1) event object size c (swept_ready v n past m m r).0).0);
  heap_is = λ n past c r reached d. (let m = length (made_objects past) in
      let s = (swept_ready v n past m m r).0 in
      let ob = s.holds.old_bytes_is in
      sym (swept_on reached v n past event object size lt full r
      ∙ cond-false (fits_capacity past (swept v).heap.space size v.second) (place (Alloc event object size ∷ past) object (swept v).heap) (exhaust event (swept v).heap)
      (lt-leb (bytes past (swept v).heap.space + size) v.second (omega (arith, none, ob)))));
}

-- SOMETHING IS WRITTEN TO A SLOT

pub some_within : (sizes : List (Option ℕ)) (o : ℕ) → is_some (get_or sizes o None) ≡ true → o < length sizes
some_within sizes o e = elim (less o (length sizes)) [ inl lt ↦ lt | inr ge ↦ absurd (none_some (get_or sizes o None) (get_or_past sizes o None ge) e) ]
  where
    less : (a b : ℕ) → (a < b) ⊎ (b ≤ a)
    less a b = grind arith

    none_some : (s : Option ℕ) → s ≡ None → is_some s ≡ true → ⊥
    none_some None a b = cc
    none_some (Some x) a b = cc

pub wrote_steps : (v : Both) (event object slot new : ℕ) (slots' : List (BTreeMap ℕ ℕ)) → is_some (get_or v.sizes object None) ≡ true → WritesSlot v.slots slots' object slot new → StepsBoth (Write event object slot new) v (record (reference_noted object new v) { slots = slots' })
wrote_steps v event object slot new slots' is w = record {
  first_is = ap (λ (u : Both). u.first) (noted_is object new v);
  second_is = ap (λ (u : Both). u.second) (noted_is object new v);
  stable = λ n past c r. (let long = r.knows.sizes_long in
      let lt = some_within v.sizes object is in
      let le : object ≤ n = omega (arith, long, lt) in
      wrote_ready v n past (length (made_objects past)) (length (made_objects past)) event object slot new slots' (ap (λ (s : Option ℕ). is_some s) (sym (r.knows.size_is object le)) ∙ is) w r);
  heap_is = λ n past c r reached d. ap (λ (u : Both). u.heap) (noted_is object new v);
}
