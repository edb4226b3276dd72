-- The records of an event are such that their lines keep the rules.
use Rattle.std.proofs.Common.{◌≡◌, ℕ, zero, suc, ◌+◌, ◌*◌, ◌/◌, ◌%◌, ◌<◌, ◌≤◌, ◌^◌, ◌⊎◌, Bool, true, false, List, [], ◌∷◌, length, Option, All, refl, sym, ap, subst, inl, inr, arith}
use Rattle.std.specs.Prelude.{if◌then◌else◌, nat_le}
use Rattle.std.proofs.Math.Nat.{mod-lt}
use Rattle.std.proofs.lemmas.Bool.{and_parts, leb-true}
use Rattle.std.proofs.lemmas.List.Sums.{sum_by-cons}
use Rattle.std.proofs.lemmas.Nat.{div-add-mod'}
use Rattle.et_heap.proofs.References.{there_is}
use Rattle.et_program.specs.Entries.{Linked, class_at}
use Rattle.et_program.specs.declared.info.Element.{Element}
use Rattle.et_program.specs.declared.info.Element.TheVariants.{NoArray, Base, Class}
use Rattle.et_heap.specs.Objects.{ObjectState, Objects, IsHeld, at, object_at, made_count, slot_count, slots_in, most_objects, most_slots}
use Rattle.et_heap.proofs.HeapLists.{held_within}
use Rattle.et_state.specs.Naming.{Names}
use Rattle.et_state.specs.Naming as naming
use Rattle.et_state.specs.State.{Kept}
use Rattle.et_state.specs.declared.records.Record.{Record}
use Rattle.et_state.specs.declared.records.Record.TheVariants.{Alloc, Update, Enter, Exit, Unwind}
use Rattle.et_event.specs.Moments.{array_size, base_width, element_width}
use Rattle.et_event.specs.Sound.{IsSoundFor, IsSoundObject, slots_by}
use Rattle.et_history.specs.steps.Records.{AreRecordsOf, IsMadeBefore, IsRecordOf, IsUpdated, next_after, size_by, size_of}
use Rattle.et_theorems.proofs.traces.Lengths.{IsPlain, ArePlain}
use Rattle.et_theorems.proofs.traces.RecordLines.{MayBe, AreTold}
use Rattle.et_history.proofs.Allocations.{rises}

-- BYTES

if_both : (P : ℕ → Type 0) (b : Bool) (x y : ℕ) → P x → P y → P (if b then x else y)
if_both P true x y px py = px
if_both P false x y px py = py

narrow : (elements kind : ℕ) → elements * base_width kind ≤ elements * 8
narrow elements kind =
    let P : ℕ → Type 0 = λ w. elements * w ≤ elements * 8 in
    if_both P _ 1 _ (omega arith) (if_both P _ 2 _ (omega arith) (if_both P _ 4 8 (omega arith) (omega arith)))

-- an array of so few elements is of so few bytes
array_bytes : (elements width : ℕ) → elements * width ≤ elements * 8 → elements ≤ 2 ^ 26 → (16 ≤ array_size elements width) × (array_size elements width ≤ 2 ^ 30)
array_bytes elements width le few =
    let n : ℕ = 24 + elements * width + 7 in
    let parts : n / 8 * 8 + n % 8 ≡ n = div-add-mod' n 8 in
    let below : n % 8 < 8 = mod-lt n (omega arith) in
    (omega arith, omega (arith, le, few))

pub record HasBytes (size elements : ℕ) : Type 0 where
  pub least : 16 ≤ size
  pub most : size ≤ 2 ^ 30
  pub long : elements ≤ 2 ^ 26

bytes_by : (x : Element) (slots elements count : ℕ) → count ≡ slots_by x slots elements → count ≤ 2 ^ 26 → (x ≡ NoArray → elements ≡ 0) → HasBytes (size_by x elements count) elements
bytes_by NoArray slots elements count is few plain = record { least = omega arith; most = omega (arith, few); long = (let none = plain refl in omega arith) }
bytes_by (Base kind) slots elements count is few plain =
    let long : elements ≤ 2 ^ 26 = omega (arith, is, few) in
    let b = array_bytes elements (element_width (Base kind)) (narrow elements kind) long in
    record { least = b.0; most = b.1; long = long }
bytes_by (Class class) slots elements count is few plain =
    let long : elements ≤ 2 ^ 26 = omega (arith, is, few) in
    let b = array_bytes elements 8 (omega arith) long in
    record { least = b.0; most = b.1; long = long }

slots_within : (heap : Objects) (o : ℕ) → slots_in (at heap o) ≤ slot_count heap
slots_within [] o = omega arith
slots_within (x ∷ xs) zero = let e = sum_by-cons slots_in x xs in omega arith
slots_within (x ∷ xs) (suc o) = let le = slots_within xs o in let e = sum_by-cons slots_in x xs in omega arith

module _ (p : Linked) (s : Kept) (sound : IsSoundFor p s) where
  pub few_made : length s.heap ≤ 2 ^ 24
  few_made = let le : made_count s.heap ≤ most_objects = leb-true (made_count s.heap) most_objects (and_parts _ _ sound.fits).0 in omega arith

  pub few_slots : (o : ℕ) → IsHeld s.heap o → length (object_at s.heap o).slots ≤ 2 ^ 26
  few_slots o held =
      let most : slot_count s.heap ≤ most_slots = leb-true (slot_count s.heap) most_slots (and_parts (nat_le (made_count s.heap) most_objects) (nat_le (slot_count s.heap) most_slots) sound.fits).1 in
      let own : slots_in (at s.heap o) ≤ slot_count s.heap = slots_within s.heap o in
      let same : slots_in (at s.heap o) ≡ length (object_at s.heap o).slots = ap (λ (x : Option ObjectState). slots_in x) (there_is (at s.heap o) held) in
      omega arith

  pub has_bytes : (o : ℕ) → IsHeld s.heap o → IsPlain p (object_at s.heap o) → HasBytes (size_of p (object_at s.heap o)) (object_at s.heap o).length
  has_bytes o held plain =
      let x : ObjectState = object_at s.heap o in
      let is : IsSoundObject p x = (sound.objects o x (there_is (at s.heap o) held)).0 in
      bytes_by (class_at p x.class).info.element (class_at p x.class).info.slots x.length (length x.slots) is.slots (few_slots o held) plain

-- RECORDS
module _ (names : Names) (p : Linked) (e t : ℕ) (s : Kept) (from : ℕ) (last : ℕ → ℕ) (sound : IsSoundFor p s) (few_threads : t < 64) (few_statics : length p.statics < 2 ^ 28)
    (plain : ArePlain p s.heap) (born : (o : ℕ) → from ≤ o → o < length s.heap → e ≤ last o) where
  abbrev live : ℕ → Type 0
  live o = IsHeld s.heap o

  may_update : (next object slot : ℕ) → IsUpdated p s.heap next object slot → (slot < 2 ^ 28) × ((object ≡ 0) ⊎ ((object < next) × live object))
  may_update next object slot (inl static) = (let a = static.1 in omega (arith, few_statics), inl static.0)
  may_update next object slot (inr (before, inl low)) = (omega (arith, low), inr before)
  may_update next object slot (inr (before, inr own)) = (let few = few_slots p s sound object before.1 in omega (arith, own), inr before)

  positive : (o : ℕ) → IsHeld s.heap o → 1 ≤ o
  positive zero held = absurd (sound.held.none held)
  positive (suc o) held = omega arith

  record_told : (next : ℕ) (r : Record) → from ≤ next → IsRecordOf p e t s.heap next r → MayBe e live last next r
  record_told next (Alloc event thread object class size elements) le is =
      let a = is.2 in
      let within : object < length s.heap = held_within s.heap object a.held in
      let few = few_made p s sound in
      let same : object ≡ next = a.number_is in
      let bytes = has_bytes p s sound object a.held (plain object a.held) in (
        is.0,
        omega (arith, is.1, few_threads),
        same,
        omega arith,
        subst (λ (n : ℕ). 16 ≤ n) (sym a.size_is) bytes.least,
        subst (λ (n : ℕ). n ≤ 2 ^ 30) (sym a.size_is) bytes.most,
        subst (λ (n : ℕ). n ≤ 2 ^ 26) (sym a.length_is) bytes.long,
        born next le (omega arith),
      )
  record_told next (Update event thread object slot old new) le is =
      let u = may_update next object slot is.2 in
      (is.0, omega (arith, is.1, few_threads), u.0, u.1, is.3, is.4)
  record_told next (Enter event thread method receiver) le is = (is.0, omega (arith, is.1, few_threads), is.2)
  record_told next (Exit event thread method) le is = (is.0, omega (arith, is.1, few_threads))
  record_told next (Unwind event thread method exception) le is =
      let before : IsMadeBefore s.heap next exception = is.2 in
      (is.0, omega (arith, is.1, few_threads), positive exception before.1, before.0, before.1)

  pub records_told : (next end : ℕ) (rs : List Record) → from ≤ next → AreRecordsOf p e t s.heap next rs end → All (λ r. naming.IsNamed names r) rs → AreTold names e live last next rs end
  records_told next end [] le are named = are
  records_told next end (r ∷ rs) le are named =
      let up : next ≤ next_after next r = rises next r in
      (record_told next r le are.0, named 0 r (omega arith), records_told (next_after next r) end rs (omega arith) are.1 (λ k d lt. named (suc k) d (omega arith)))
