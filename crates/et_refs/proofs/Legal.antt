-- Arrays of some dimensions are made, and all of them are in the first one.
use Rattle.std.proofs.Common.{◌≡◌, ℕ, zero, suc, ◌+◌, ◌<◌, ◌≤◌, ◌⊎◌, List, [], ◌∷◌, ◌++◌, length, set, get_or, Option, None, Some, refl, sym, ◌∙◌, ap, subst, arith, inl, inr, Contains, get_or-set_same}
use Rattle.std.proofs.lemmas.Bool.{cases_eq}
use Rattle.std.proofs.lemmas.List.{length_push, length-set, length-replicate, get_or-set_other, get_or_append_left, get_or_at}
use Rattle.std.proofs.lemmas.List.Elements.{Contains-append_left, Contains-append_right, Contains-append_cases}
use Rattle.et_heap.proofs.References.{unset_at}
use Rattle.et_base.specs.declared.value.Value.{Value}
use Rattle.et_base.specs.declared.value.Value.TheVariants.{Unset, Ref}
use Rattle.et_base.proofs.Lists.{Contains-none, Contains-here, Contains-cons}
use Rattle.et_heap.specs.Objects.{ObjectState, Objects, IsHeld, is_there, found, new_object, at, object_at, slot_of, with_slot, with_object_at}
use Rattle.et_heap.specs.Refs.{refs_of_value, refs_of}
use Rattle.et_program.specs.Entries.{class_at}
use Rattle.et_state.specs.State.{Kept, MachineState, kept_of}
use Rattle.et_state.specs.Moves.{IsUnderWay, WasThere}
use Rattle.et_state.proofs.Places.{part_contained, leads-new}
use Rattle.et_state.proofs.UnderWay.{law_make}
use Rattle.et_state.proofs.Calls.{on_heap_set_slot}
use Rattle.et_state.proofs.Steps.{new_there, newest_held}
use Rattle.et_event.specs.Heap.{arrays_made, filled, element_class}
use Rattle.et_event.specs.Moments.{Moment, Doing, array_made, slot_written}
use Rattle.et_refs.specs.Legal.{IsTied, HasMadeArrays}

-- what is written over nothing takes no reference away
refs_stay : (vs : List Value) (i : ℕ) (v : Value) (o : ℕ) → get_or vs i Unset ≡ Unset → Contains (refs_of vs) o → Contains (refs_of (set vs i v)) o
refs_stay [] i v o e c = c
refs_stay (x ∷ xs) zero v o e c = elim (Contains-append_cases (refs_of_value x) (refs_of xs) o c) [
  | inl here ↦ absurd (Contains-none o (subst (λ (w : Value). Contains (refs_of_value w) o) e here))
  | inr there ↦ Contains-append_right (refs_of_value v) (refs_of xs) o there
]
refs_stay (x ∷ xs) (suc i) v o e c = elim (Contains-append_cases (refs_of_value x) (refs_of xs) o c) [
  | inl here ↦ Contains-append_left (refs_of_value x) (refs_of (set xs i v)) o here
  | inr there ↦ Contains-append_right (refs_of_value x) (refs_of (set xs i v)) o (refs_stay xs i v o e there)
]

-- THE ARRAY k, whose elements below i are there
record IsFilled (s : Kept) (lost : List ℕ) (d x : Doing) (n i : ℕ) : Type 0 where
  made : HasMadeArrays s lost d x
  slots : length (object_at x.state.heap (length d.state.heap)).slots ≡ n
  unset : (j : ℕ) → i ≤ j → slot_of (object_at x.state.heap (length d.state.heap)) j ≡ Unset

begun : (e : Moment) (c n : ℕ) (d : Doing) (s : Kept) (lost : List ℕ) → IsUnderWay s d.state lost → IsFilled s lost d (array_made e c n d) n 0
begun e c n d s lost w =
    let y : ObjectState = new_object c n n in
    let heap : Objects = d.state.heap ++ Some y ∷ [] in
    let long : length heap ≡ length d.state.heap + 1 = length_push d.state.heap (Some y) in
    let here : object_at heap (length d.state.heap) ≡ y = ap (λ (x : Option ObjectState). found x) (get_or_at d.state.heap (Some y) [] None (length d.state.heap) refl) in
    record {
      made = record {
        way = law_make s d.state lost y w (leads-new c n n) refl;
        guest = refl;
        grown = omega (arith, long);
        first = newest_held d.state.heap y;
        below = λ o lt. get_or_append_left d.state.heap (Some y ∷ []) None o lt;
        tied = λ o low high. absurd (omega (arith, long, low, high));
      };
      slots = ap (λ (x : ObjectState). length x.slots) here ∙ length-replicate n Unset;
      unset = λ j le. ap (λ (x : ObjectState). slot_of x j) here ∙ unset_at n j;
    }

-- one element more
record Next (s : Kept) (lost : List ℕ) (d x y : Doing) (n i : ℕ) : Type 0 where
  was : IsFilled s lost d x n i
  more : HasMadeArrays s lost x y
  lt : i < n
  old : length s.heap ≤ length d.state.heap

same_array : (s : Kept) (lost : List ℕ) (d x y : Doing) (n i : ℕ) → Next s lost d x y n i → at y.state.heap (length d.state.heap) ≡ at x.state.heap (length d.state.heap)
same_array s lost d x y n i h = h.more.below (length d.state.heap) h.was.made.grown

tied_more : (heap heap' : Objects) (k o : ℕ) → ((u : ℕ) → u < o → Contains (refs_of (object_at heap u).slots) o → Contains (refs_of (object_at heap' u).slots) o) → (k' : ℕ) → k' ≤ k → IsTied heap k o → IsTied heap' k' o
tied_more heap heap' k o h k' le t = let low = t.low in record { parent = t.parent; low = omega (arith, low, le); high = t.high; ties = h t.parent t.high t.ties }

apart : (o k : ℕ) → o < k → o ≡ k → ⊥
apart o k lt e = absurd (omega arith)

-- what was tied before an element was written is tied still
side : (s : Kept) (lost : List ℕ) (d x y : Doing) (n i : ℕ) (heap' : Objects) (o : ℕ) → length d.state.heap < o → (o < length x.state.heap) ⊎ (length x.state.heap < o) → o < length y.state.heap → Next s lost d x y n i
    → ((u o : ℕ) → Contains (refs_of (object_at y.state.heap u).slots) o → Contains (refs_of (object_at heap' u).slots) o) → IsTied heap' (length d.state.heap) o
side s lost d x y n i heap' o low (inl lt) high h ties =
    tied_more x.state.heap heap' (length d.state.heap) o
    (λ u below c. ties u o (subst (λ (v : Option ObjectState). Contains (refs_of (found v).slots) o) (sym (h.more.below u (omega (arith, below, lt)))) c))
    (length d.state.heap) (omega arith) (h.was.made.tied o low lt)
side s lost d x y n i heap' o low (inr gt) high h ties =
    let grown = h.was.made.grown in
    tied_more y.state.heap heap' (length x.state.heap) o (λ u below c. ties u o c) (length d.state.heap) (omega (arith, grown)) (h.more.tied o gt high)

less_or_more : (a b : ℕ) → (a ≡ b → ⊥) → (a < b) ⊎ (b < a)
less_or_more zero zero ne = absurd (ne refl)
less_or_more zero (suc b) ne = inl (omega arith)
less_or_more (suc a) zero ne = inr (omega arith)
less_or_more (suc a) (suc b) ne = elim (less_or_more a b (λ e. ne (ap (λ (n : ℕ). suc n) e))) [ inl lt ↦ inl (omega arith) | inr lt ↦ inr (omega arith) ]

written : (e : Moment) (d x y : Doing) (s : Kept) (lost : List ℕ) (n i : ℕ) → Next s lost d x y n i → IsFilled s lost d (slot_written e (length d.state.heap) i (Ref (length x.state.heap)) y) n (suc i)
written e d x y s lost n i h =
    let k : ℕ = length d.state.heap in
    let r : ℕ = length x.state.heap in
    let heap : Objects = y.state.heap in
    let obj : ObjectState = object_at heap k in
    let z : ObjectState = with_slot i (Ref r) obj in
    let heap' : Objects = with_object_at heap k z in
    let same : at heap k ≡ at x.state.heap k = same_array s lost d x y n i h in
    let same_object : obj ≡ object_at x.state.heap k = ap (λ (v : Option ObjectState). found v) same in
    let grown : k < r = h.was.made.grown in
    let more : r < length heap = h.more.grown in
    let inside : k < length heap = omega (arith, grown, more) in
    let long : length heap' ≡ length heap = length-set heap k (Some z) in
    let held : IsHeld heap k = subst is_there (sym same) h.was.made.first in
    let slots : length obj.slots ≡ n = ap (λ (v : ObjectState). length v.slots) same_object ∙ h.was.slots in
    let few : i < length obj.slots = let lt = h.lt in omega (arith, lt, slots) in
    let empty : slot_of obj i ≡ Unset = ap (λ (v : ObjectState). slot_of v i) same_object ∙ h.was.unset i (omega arith) in
    let old = h.old in
    let here : at heap' k ≡ Some z = get_or-set_same heap k (Some z) None inside in
    let other : (o : ℕ) → (o ≡ k → ⊥) → at heap' o ≡ at heap o = λ o ne. get_or-set_other heap k o (Some z) None ne in
    let m : MachineState = record { heap = heap; guest = y.state.guest; lost = lost } in
    let there : (o : ℕ) → Contains (refs_of_value (Ref r)) o → r ≡ o = λ o c. elim (Contains-cons r [] o c) [ inl e ↦ e | inr w ↦ absurd (Contains-none o w) ] in
    let newest : IsHeld heap r = h.more.first in
    let way : IsUnderWay s (record { heap = heap'; guest = y.state.guest }) lost =
    on_heap_set_slot s m k i (Ref r) h.more.way held (new_there s (kept_of m) k old inside) few (λ o c. subst (λ (j : ℕ). IsHeld heap j) (there o c) newest)
    (λ o c. subst (λ (j : ℕ). WasThere s (kept_of m) j) (there o c) (new_there s (kept_of m) r (omega (arith, old, grown)) more))
    (λ o c. absurd (Contains-none o (subst (λ (v : Value). Contains (refs_of_value v) o) empty c))) in
    let ties : (u o : ℕ) → Contains (refs_of (object_at heap u).slots) o → Contains (refs_of (object_at heap' u).slots) o = λ u o c. elim (cases_eq u k) [
      | inl is ↦ subst (λ (v : Option ObjectState). Contains (refs_of (found v).slots) o) (sym (ap (λ (j : ℕ). at heap' j) is ∙ here)) (refs_stay obj.slots i (Ref r) o empty (subst (λ (j : ℕ). Contains (refs_of (object_at heap j).slots) o) is c))
      | inr ne ↦ subst (λ (v : Option ObjectState). Contains (refs_of (found v).slots) o) (sym (other u ne)) c
    ] in
    let tied_r : IsTied heap' k r = record {
      parent = k;
      low = omega arith;
      high = grown;
      ties = subst (λ (v : Option ObjectState). Contains (refs_of (found v).slots) r) (sym here)
          (part_contained refs_of_value Unset (set obj.slots i (Ref r)) i r (subst (λ (j : ℕ). i < j) (sym (length-set obj.slots i (Ref r))) few)
          (subst (λ (v : Value). Contains (refs_of_value v) r) (sym (get_or-set_same obj.slots i (Ref r) Unset few)) (Contains-here r [])));
    } in
    record {
      made = record {
        way = way;
        guest = h.more.guest ∙ h.was.made.guest;
        grown = omega (arith, inside, long);
        first = subst is_there (sym here) tt;
        below = λ o lt. other o (apart o k lt) ∙ (h.more.below o (omega (arith, lt, grown)) ∙ h.was.made.below o lt);
        tied = λ o low high. elim (cases_eq o r) [
          | inl is ↦ subst (λ (j : ℕ). IsTied heap' k j) (sym is) tied_r
          | inr ne ↦ side s lost d x y n i heap' o low (less_or_more o r ne) (omega (arith, high, long)) h ties
        ];
      };
      slots = ap (λ (v : Option ObjectState). length (found v).slots) here ∙ (length-set obj.slots i (Ref r) ∙ slots);
      unset = λ j le. ap (λ (v : Option ObjectState). slot_of (found v) j) here ∙ (get_or-set_other obj.slots i j (Ref r) Unset (λ is. absurd (omega (arith, is, le)))
          ∙ (ap (λ (v : ObjectState). slot_of v j) same_object ∙ h.was.unset j (omega (arith, le))));
    }

filled_so_far : (e : Moment) (c n : ℕ) (d : Doing) (s : Kept) (lost : List ℕ) (make : Doing → Doing) → IsUnderWay s d.state lost → length s.heap ≤ length d.state.heap
    → ((x : Doing) → IsUnderWay s x.state lost → length s.heap ≤ length x.state.heap → HasMadeArrays s lost x (make x)) → (i : ℕ) → i ≤ n → IsFilled s lost d (filled e (length d.state.heap) make i (array_made e c n d)) n i
filled_so_far e c n d s lost make w old h zero le = begun e c n d s lost w
filled_so_far e c n d s lost make w old h (suc i) le =
    let x = filled e (length d.state.heap) make i (array_made e c n d) in
    let was : IsFilled s lost d x n i = filled_so_far e c n d s lost make w old h i (omega (arith, le)) in
    let grown = was.made.grown in
    written e d x (make x) s lost n i (record { was = was; more = h x was.made.way (omega (arith, grown, old)); lt = omega (arith, le); old = old })

pub arrays_legal : (e : Moment) (c n : ℕ) (ns : List ℕ) (d : Doing) (s : Kept) (lost : List ℕ) → IsUnderWay s d.state lost → length s.heap ≤ length d.state.heap → HasMadeArrays s lost d (arrays_made e c (n ∷ ns) d)
arrays_legal e c n [] d s lost w old = (begun e c n d s lost w).made
arrays_legal e c n (m ∷ more) d s lost w old =
    let inner = element_class (class_at e.program c).info.element in
    (filled_so_far e c n d s lost (arrays_made e inner (m ∷ more)) w old (λ x way high. arrays_legal e inner m more x s lost way high) n (omega arith)).made
