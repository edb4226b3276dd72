-- What holds of a heap of one space.
use Rattle.std.proofs.Common.{◌≡◌, ℕ, ◌+◌, ◌*◌, ◌^◌, ◌≤◌, true, false, cond, not, List, [], ◌∷◌, length, Option, sum, refl, ap, subst, arith, length-append}
use Rattle.std.specs.Prelude.{is_some, unwrap_or}
use Rattle.std.proofs.lemmas.List.Elements.{All-filter, All-push}
use Rattle.std.proofs.lemmas.List.Filters.{length-filter_both, sum_by-filter_both}
use Rattle.std.proofs.lemmas.List.Sums.{sum_by-cons, sum_by_push}
use Rattle.et_replay.specs.declared.item.Item.{Item}
use Rattle.et_replay.specs.declared.item.Item.TheVariants.{Alloc, Write, Death}
use Rattle.et_replay.specs.Feeding.{MayCome, IsNewObject}
use Rattle.et_replay.specs.Heap.{size_in, is_made, is_live, bytes}
use Rattle.et_replay.specs.Items.{made_objects, sizes}
use Rattle.et_replay.specs.Tally.{Heap, empty_heap, fits_capacity, sweep, collect, exhaust, place, space_on, space_after}
use Rattle.et_replay.specs.Fed.{AreFed}
use Rattle.et_replay.proofs.Coming.{AreMade, are_made_on, bytes_stay, size_here, all_low}

pub record HasFacts (past : List Item) (heap : Heap) (most : ℕ) : Type 0 where
  pub held : AreMade past heap.space
  pub short : length heap.space ≤ length (made_objects past)
  pub sums : heap.freed + bytes past heap.space ≤ sum (sizes past)
  pub kept_low : heap.kept ≤ heap.major * 2 ^ 54
  pub few : heap.major ≤ most
  pub young : heap.nursery ≡ []

pub facts_empty : HasFacts [] empty_heap 0
facts_empty = record { held = λ k d lt. absurd (omega (arith, lt)); short = omega arith; sums = omega arith; kept_low = omega arith; few = omega arith; young = refl }

made_more : (past : List Item) (item : Item) → length (made_objects past) ≤ length (made_objects (item ∷ past))
made_more past (Alloc event object size) = omega arith
made_more past (Write event object slot new) = omega arith
made_more past (Death object time) = omega arith

sizes_more : (past : List Item) (item : Item) → sum (sizes past) ≤ sum (sizes (item ∷ past))
sizes_more past (Alloc event object size) = omega (arith, sum_by-cons (λ x. x) size (sizes past))
sizes_more past (Write event object slot new) = omega arith
sizes_more past (Death object time) = omega arith

pub facts_stay : (n : ℕ) (past : List Item) (item : Item) (heap : Heap) (most most' : ℕ) → MayCome n past item → most ≤ most' → HasFacts past heap most → HasFacts (item ∷ past) heap most'
facts_stay n past item heap most most' c le f =
    let same = bytes_stay n past item heap.space c f.held in
    let sums = f.sums in let short = f.short in let few = f.few in
    record {
      held = are_made_on past item heap.space f.held;
      short = omega (arith, short, made_more past item);
      sums = omega (arith, same, sums, sizes_more past item);
      kept_low = f.kept_low;
      few = omega (arith, le, few);
      young = f.young;
    }

pub facts_sweep : (past : List Item) (heap : Heap) (most : ℕ) → HasFacts past heap most → HasFacts past (sweep past heap) (most + 1)
facts_sweep past heap most f =
    let live = is_live past in
    let dead = λ (o : ℕ). not (is_live past o) in
    let both = length-filter_both live dead (λ o. refl) heap.space in
    let parts = sum_by-filter_both live dead (λ o. refl) (λ o. unwrap_or (size_in past o) 0) heap.space in
    let sums = f.sums in let short = f.short in let few = f.few in let kept_low = f.kept_low in
    record {
      held = All-filter live (λ o. is_made past o ≡ true) heap.space f.held;
      short = omega (arith, both, short);
      sums = omega (arith, parts, sums);
      kept_low = omega (arith, kept_low);
      few = omega (arith, few);
      young = f.young;
    }

pub facts_collect : (past : List Item) (heap : Heap) (most : ℕ) → sum (sizes past) ≤ 2 ^ 54 → HasFacts past heap most → HasFacts past (collect past heap) (most + 1)
facts_collect past heap most low f =
    let s = facts_sweep past heap most f in
    let sums = s.sums in let kept_low = f.kept_low in
    record { held = s.held; short = s.short; sums = s.sums; kept_low = omega (arith, low, sums, kept_low); few = s.few; young = s.young }

pub facts_place : (n : ℕ) (past : List Item) (event object size : ℕ) (heap : Heap) (most : ℕ) → IsNewObject n past object size → HasFacts past heap most → HasFacts (Alloc event object size ∷ past) (place (Alloc event object size ∷ past) object heap) most
facts_place n past event object size heap most c f =
    let item = Alloc event object size in
    let same = bytes_stay n past item heap.space c f.held in
    let one : unwrap_or (size_in (item ∷ past) object) 0 ≡ size = ap (λ (s : Option ℕ). unwrap_or s 0) (size_here past event object size) in
    let sums = f.sums in let short = f.short in
    record {
      held = All-push (λ o. is_made (item ∷ past) o ≡ true) heap.space object (are_made_on past item heap.space f.held) (ap (λ (s : Option ℕ). is_some s) (size_here past event object size));
      short = omega (arith, short, length-append heap.space (object ∷ []));
      sums = omega (arith, same, one, sums, sum_by_push (λ o. unwrap_or (size_in (item ∷ past) o) 0) heap.space object, sum_by-cons (λ x. x) size (sizes past));
      kept_low = f.kept_low;
      few = f.few;
      young = f.young;
    }

facts_settle : (n : ℕ) (past : List Item) (event object size capacity : ℕ) (ready : Heap) (most : ℕ) → IsNewObject n past object size → HasFacts past ready most
    → HasFacts (Alloc event object size ∷ past) (cond (fits_capacity past ready.space size capacity) (place (Alloc event object size ∷ past) object ready) (exhaust event ready)) most
facts_settle n past event object size capacity ready most c f =
    elim (fits_capacity past ready.space size capacity) as (λ b. HasFacts (Alloc event object size ∷ past) (cond b (place (Alloc event object size ∷ past) object ready) (exhaust event ready)) most) [
      | true ↦ facts_place n past event object size ready most c f
      | false ↦ (let s = facts_stay n past (Alloc event object size) ready most most c (omega arith) f in record { held = s.held; short = s.short; sums = s.sums; kept_low = s.kept_low; few = s.few; young = s.young })
    ]

pub facts_ready : (past : List Item) (size capacity : ℕ) (heap : Heap) (most : ℕ) → sum (sizes past) ≤ 2 ^ 54 → HasFacts past heap most → HasFacts past (cond (fits_capacity past heap.space size capacity) heap (collect past heap)) (most + 1)
facts_ready past size capacity heap most low f = elim (fits_capacity past heap.space size capacity) as (λ b. HasFacts past (cond b heap (collect past heap)) (most + 1)) [
  | true ↦ (let few = f.few in record { held = f.held; short = f.short; sums = f.sums; kept_low = f.kept_low; few = omega (arith, few); young = f.young })
  | false ↦ facts_collect past heap most low f
]

facts_on : (n capacity : ℕ) (past : List Item) (item : Item) (heap : Heap) → n ≤ 16777215 → AreFed n past → MayCome n past item → HasFacts past heap (length (made_objects past)) → HasFacts (item ∷ past) (space_on capacity past item heap) (length (made_objects (item ∷ past)))
facts_on n capacity past (Alloc event object size) heap few a c f =
    let ready = facts_ready past size capacity heap (length (made_objects past)) (all_low n past few a) f in
    let next : length (made_objects past) + 1 ≡ length (made_objects (Alloc event object size ∷ past)) = omega arith in
    subst (λ (m : ℕ). HasFacts (Alloc event object size ∷ past) (space_on capacity past (Alloc event object size) heap) m) next (facts_settle n past event object size capacity (cond (fits_capacity past heap.space size capacity) heap (collect past heap)) (length (made_objects past) + 1) c ready)
facts_on n capacity past (Write event object slot new) heap few a c f = facts_stay n past (Write event object slot new) heap (length (made_objects past)) (length (made_objects past)) c (omega arith) f
facts_on n capacity past (Death object time) heap few a c f = facts_stay n past (Death object time) heap (length (made_objects past)) (length (made_objects past)) c (omega arith) f

facts_next : (n capacity : ℕ) (past : List Item) (item : Item) (heap : Heap) → n ≤ 16777215 → AreFed n past → MayCome n past item → HasFacts past heap (length (made_objects past)) → HasFacts (item ∷ past) (cond (is_some heap.exhausted) heap (space_on capacity past item heap)) (length (made_objects (item ∷ past)))
facts_next n capacity past item heap few a c f = elim (is_some heap.exhausted) as (λ b. HasFacts (item ∷ past) (cond b heap (space_on capacity past item heap)) (length (made_objects (item ∷ past)))) [
  | true ↦ facts_stay n past item heap (length (made_objects past)) (length (made_objects (item ∷ past))) c (made_more past item) f
  | false ↦ facts_on n capacity past item heap few a c f
]

pub space_facts : (n capacity : ℕ) (past : List Item) → n ≤ 16777215 → AreFed n past → HasFacts past (space_after capacity past) (length (made_objects past))
space_facts n capacity [] few f = facts_empty
space_facts n capacity (item ∷ past) few f = facts_next n capacity past item (space_after capacity past) few f.0 f.1 (space_facts n capacity past few f.0)
