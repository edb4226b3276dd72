-- The next element of the last array begins.
use Rattle.std.proofs.Common.{◌≡◌, ℕ, suc, ◌+◌, ◌-◌, ◌<◌, ◌≤◌, true, List, [], ◌∷◌, ◌++◌, length, drop, get_or, Some, refl, sym, ◌∙◌, ap, subst, arith, append_assoc, inl, inr, zero, ◌⊎◌}
use Rattle.std.specs.Prelude.{ℤ, pos}
use Rattle.std.proofs.lemmas.Bool.{and_parts, leb-true}
use Rattle.std.proofs.lemmas.List.{length_push, length-replicate, get_or_at}
use Rattle.et_base.specs.declared.value.Value.TheVariants.{Unset}
use Rattle.et_heap.specs.Objects.{ObjectState, Objects, new_object, found, object_at, has_room, most_objects}
use Rattle.et_heap.proofs.HeapLists.{held_within}
use Rattle.et_state.specs.State.{MachineState}
use Rattle.et_state.proofs.Steps.{newest_held}
use Rattle.et_state.specs.declared.records.Record.{Record}
use Rattle.et_event.specs.Moments.{Moment, Doing, array_made, fits_heap}
use Rattle.et_event.specs.Sites.{natural_of}
use Rattle.et_event.specs.Heap.{naturals}
use Rattle.et_refs.specs.declared.arrays.filling.Filling.{Filling}
use Rattle.et_event.specs.Telling.{so_far, StandsAt}
use Rattle.et_refs.specs.Filling.{IsFilling, AreFillings, inner_dimensions, first_filling, with_filled}
use Rattle.et_refs.proofs.Finishing.{pushed, next_fits, next_made}
use Rattle.et_refs.proofs.Stacking.{last_filling, push_filling, kept_made, dimensions_at, counted_deep, counted_last}

pub came : (d : Doing) (m m' : MachineState) (out : List Record) → StandsAt d m m' out → so_far m' out ≡ d
came d m m' out h =
    ap (λ (x : MachineState). so_far x out) h.0 ∙ ap (λ (rs : List Record). let x : Doing = record { state = d.state; records = rs } in x) h.1

abbrev pub lengths_at : List ℤ → ℕ → ℕ
lengths_at ns level = natural_of (get_or ns level (pos 0))

dimensions : (ns : List ℤ) (k level : ℕ) → level ≡ k + 1 → level < length ns → drop k (inner_dimensions (naturals ns)) ≡ lengths_at ns level ∷ drop (level + 1) (naturals ns)
dimensions ns k level e lt = subst (λ (j : ℕ). drop k (inner_dimensions (naturals ns)) ≡ lengths_at ns j ∷ drop (j + 1) (naturals ns)) (sym e) (dimensions_at ns k (pos 0) (omega (arith, e, lt)))

-- there is a level below
pub level_there : (heap : Objects) (ns : List ℤ) (xs : List Filling) (f : Filling) (level : ℕ) → AreFillings heap (length ns) 0 (xs ++ f ∷ []) → f.next < f.count → level ≡ length xs + 1 → level < length ns
level_there heap ns xs f level h lt e =
    let last : IsFilling heap (length ns) (0 + length xs) f = last_filling heap (length ns) 0 xs f h in
    let deep : 0 + length xs + 1 < length ns = last.deep (omega (arith, lt)) in
    omega (arith, deep, e)

pub room_there : (e : Moment) (m : MachineState) (out : List Record) (ns : List ℤ) (xs : List Filling) (f : Filling) (level : ℕ) → AreFillings m.heap (length ns) 0 (xs ++ f ∷ []) → f.next < f.count → level ≡ length xs + 1
    → fits_heap (with_filled e (xs ++ f ∷ []) (inner_dimensions (naturals ns)) (so_far m out)).state.heap ≡ true → has_room m.heap 1 (lengths_at ns level) ≡ true
room_there e m out ns xs f level h lt is fit =
    let last : IsFilling m.heap (length ns) (0 + length xs) f = last_filling m.heap (length ns) 0 xs f h in
    let some : f.array < length m.heap = held_within m.heap f.array last.held in
    next_fits e xs f (lengths_at ns level) (drop (level + 1) (naturals ns)) (inner_dimensions (naturals ns)) (so_far m out) lt
    (dimensions ns (length xs) level is (level_there m.heap ns xs f level h lt is)) (omega (arith, some)) fit

pub descended : (e : Moment) (ns : List ℤ) (xs ys : List Filling) (f g : Filling) (level : ℕ) (m m' : MachineState) (out out' : List Record) → f.next < f.count → level ≡ length xs + 1 → level < length ns → ys ≡ xs ++ f ∷ []
    → g ≡ first_filling e (length m.heap) f.inner (lengths_at ns level) (drop (level + 1) (naturals ns)) → StandsAt (array_made e f.inner (lengths_at ns level) (so_far m out)) m m' out'
    → with_filled e (ys ++ g ∷ []) (inner_dimensions (naturals ns)) (so_far m' out') ≡ with_filled e (xs ++ f ∷ []) (inner_dimensions (naturals ns)) (so_far m out)
descended e ns xs ys f g level m m' out out' lt is inside pushes opens made =
    let ms = inner_dimensions (naturals ns) in
    let n = lengths_at ns level in
    let child = first_filling e (length m.heap) f.inner n (drop (level + 1) (naturals ns)) in
    let x = array_made e f.inner n (so_far m out) in
    ap (λ (y : Doing). with_filled e (ys ++ g ∷ []) ms y) (came x m m' out' made)
    ∙ (ap (λ (zs : List Filling). with_filled e (zs ++ g ∷ []) ms x) pushes
    ∙ (ap (λ (zs : List Filling). with_filled e zs ms x) (append_assoc xs (f ∷ []) (g ∷ []))
    ∙ (ap (λ (h : Filling). with_filled e (xs ++ f ∷ h ∷ []) ms x) opens
    ∙ pushed e xs f n (drop (level + 1) (naturals ns)) ms (so_far m out) lt (dimensions ns (length xs) level is inside))))

-- the array that begins
pub new_filling : (heap : Objects) (e : Moment) (c n level : ℕ) (ns : List ℤ) → IsFilling (heap ++ Some (new_object c n n) ∷ []) (length ns) level (first_filling e (length heap) c n (drop (level + 1) (naturals ns)))
new_filling heap e c n level ns =
    let y : ObjectState = new_object c n n in
    let here : object_at (heap ++ Some y ∷ []) (length heap) ≡ y = ap (λ x. found x) (get_or_at heap (Some y) [] _ (length heap) refl) in
    let size : length (object_at (heap ++ Some y ∷ []) (length heap)).slots ≡ n = ap (λ (x : ObjectState). length x.slots) here ∙ length-replicate n Unset in
    elim (side (level + 1) (length ns)) [
      | inl lt ↦
          let all = counted_deep n (level + 1) ns lt in
          record { held = newest_held heap y; room = omega (arith, all, size); next = omega arith; deep = λ some. lt }
      | inr le ↦
          let none = counted_last n (level + 1) ns le in
          record { held = newest_held heap y; room = omega (arith, none); next = omega arith; deep = λ some. absurd (omega (arith, some, none)) }
    ]
  where
    side : (a b : ℕ) → (a < b) ⊎ (b ≤ a)
    side zero zero = inr (omega arith)
    side zero (suc b) = inl (omega arith)
    side (suc a) zero = inr (omega arith)
    side (suc a) (suc b) = elim (side a b) [ inl lt ↦ inl (omega arith) | inr le ↦ inr (omega arith) ]

pub descended_fillings : (e : Moment) (ns : List ℤ) (xs ys : List Filling) (f g : Filling) (level : ℕ) (m m' : MachineState) (out out' : List Record) → AreFillings m.heap (length ns) 0 (xs ++ f ∷ []) → f.next < f.count → level ≡ length xs + 1 → ys ≡ xs ++ f ∷ []
    → g ≡ first_filling e (length m.heap) f.inner (lengths_at ns level) (drop (level + 1) (naturals ns)) → StandsAt (array_made e f.inner (lengths_at ns level) (so_far m out)) m m' out'
    → AreFillings m'.heap (length ns) 0 (ys ++ g ∷ [])
descended_fillings e ns xs ys f g level m m' out out' h lt is pushes opens made =
    let n = lengths_at ns level in
    let y : ObjectState = new_object f.inner n n in
    let heap : Objects = m.heap ++ Some y ∷ [] in
    let child = first_filling e (length m.heap) f.inner n (drop (level + 1) (naturals ns)) in
    let placed : level ≡ 0 + length xs + 1 = omega (arith, is) in
    let new : IsFilling heap (length ns) (0 + length xs + 1) child = subst (λ (k : ℕ). IsFilling heap (length ns) k child) placed (new_filling m.heap e f.inner n level ns) in
    let all : AreFillings heap (length ns) 0 (xs ++ f ∷ child ∷ []) = push_filling m.heap heap (length ns) 0 xs f child (kept_made m.heap y) h lt new in
    let kept : heap ≡ m'.heap = sym (ap (λ (z : MachineState). z.heap) made.0) in
    let listed : xs ++ f ∷ child ∷ [] ≡ ys ++ g ∷ [] = ap (λ (k : Filling). xs ++ f ∷ k ∷ []) (sym opens) ∙ (sym (append_assoc xs (f ∷ []) (g ∷ [])) ∙ ap (λ (zs : List Filling). zs ++ g ∷ []) (sym pushes)) in
    subst (λ (hs : Objects). AreFillings hs (length ns) 0 (ys ++ g ∷ [])) kept (subst (λ (zs : List Filling). AreFillings heap (length ns) 0 zs) listed all)

pub one_more : (e : Moment) (c n : ℕ) (m m' : MachineState) (out out' : List Record) → StandsAt (array_made e c n (so_far m out)) m m' out' → length m'.heap ≡ length m.heap + 1
one_more e c n m m' out out' made = ap (λ (z : MachineState). length z.heap) made.0 ∙ length_push m.heap (Some (new_object c n n))

pub room_few : (heap heap' : Objects) (slots : ℕ) → has_room heap 1 slots ≡ true → length heap' ≡ length heap + 1 → length heap' ≤ most_objects + 1
room_few heap heap' slots room e =
    let b = and_parts _ _ room in
    let number : length heap - 1 + 1 ≤ most_objects = leb-true _ _ b.0 in
    omega (arith, e, number)

-- there is one more array in the end than now
pub level_made : (e : Moment) (m : MachineState) (out : List Record) (ns : List ℤ) (xs : List Filling) (f : Filling) (level : ℕ) → AreFillings m.heap (length ns) 0 (xs ++ f ∷ []) → f.next < f.count → level ≡ length xs + 1
    → length m.heap + 1 ≤ length (with_filled e (xs ++ f ∷ []) (inner_dimensions (naturals ns)) (so_far m out)).state.heap
level_made e m out ns xs f level h lt is =
    next_made e xs f (lengths_at ns level) (drop (level + 1) (naturals ns)) (inner_dimensions (naturals ns)) (so_far m out) lt
    (dimensions ns (length xs) level is (level_there m.heap ns xs f level h lt is))
