-- What holds of arrays under way as one more is made, and as the last one becomes an element.
use Rattle.std.proofs.Common.{◌≡◌, ℕ, zero, suc, ◌+◌, ◌<◌, ◌≤◌, List, [], ◌∷◌, ◌++◌, length, drop, set, get_or, Option, None, Some, refl, sym, ◌∙◌, ap, subst, arith, inl, inr, get_or-set_same, drop-cons, length-drop}
use Rattle.std.specs.Prelude.{ℤ}
use Rattle.std.proofs.lemmas.Bool.{cases_eq}
use Rattle.std.proofs.lemmas.List.{length-set, get_or-set_other, get_or_append_left}
use Rattle.et_base.specs.declared.value.Value.{Value}
use Rattle.et_heap.specs.Objects.{ObjectState, Objects, IsHeld, is_there, found, at, object_at, with_slot, with_object_at}
use Rattle.et_heap.proofs.HeapLists.{held_within}
use Rattle.et_event.specs.Sites.{natural_of}
use Rattle.et_event.specs.Heap.{naturals}
use Rattle.et_refs.specs.declared.arrays.filling.Filling.{Filling}
use Rattle.et_refs.specs.Filling.{IsFilling, AreFillings, inner_dimensions, element_count, next_filling}
use Rattle.et_refs.proofs.Finishing.{lower_drop}

-- the objects are held still, and have as many slots
abbrev pub KeepsArrays : Objects → Objects → Type 0
KeepsArrays heap heap' = (o : ℕ) → IsHeld heap o → IsHeld heap' o × (length (object_at heap' o).slots ≡ length (object_at heap o).slots)

pub kept_filling : (heap heap' : Objects) (dimensions p : ℕ) (f : Filling) → KeepsArrays heap heap' → IsFilling heap dimensions p f → IsFilling heap' dimensions p f
kept_filling heap heap' dimensions p f k h =
    let now = k f.array h.held in
    let room = h.room in
    let same = now.1 in
    record { held = now.0; room = omega (arith, room, same); next = h.next; deep = h.deep }

pub kept_made : (heap : Objects) (y : ObjectState) → KeepsArrays heap (heap ++ Some y ∷ [])
kept_made heap y = λ o held.
    let same : at (heap ++ Some y ∷ []) o ≡ at heap o = get_or_append_left heap (Some y ∷ []) None o (held_within heap o held) in
    (subst is_there (sym same) held, ap (λ (x : Option ObjectState). length (found x).slots) same)

pub kept_written : (heap : Objects) (k i : ℕ) (v : Value) → IsHeld heap k → KeepsArrays heap (with_object_at heap k (with_slot i v (object_at heap k)))
kept_written heap k i v inside = λ o held.
    let z : ObjectState = with_slot i v (object_at heap k) in
    let here : at (set heap k (Some z)) k ≡ Some z = get_or-set_same heap k (Some z) None (held_within heap k inside) in
    elim (cases_eq o k) [
      | inl is ↦
          let now : at (set heap k (Some z)) o ≡ Some z = ap (λ (j : ℕ). at (set heap k (Some z)) j) is ∙ here in
          (subst is_there (sym now) tt, ap (λ (x : Option ObjectState). length (found x).slots) now ∙ (length-set (object_at heap k).slots i v ∙ ap (λ (j : ℕ). length (object_at heap j).slots) (sym is)))
      | inr ne ↦
          let same : at (set heap k (Some z)) o ≡ at heap o = get_or-set_other heap k o (Some z) None ne in
          (subst is_there (sym same) held, ap (λ (x : Option ObjectState). length (found x).slots) same)
    ]

-- THE LAST ONE

at_level : (heap : Objects) (dimensions p q : ℕ) (f : Filling) → p ≡ q → IsFilling heap dimensions p f → IsFilling heap dimensions q f
at_level heap dimensions p q f e h = subst (λ (k : ℕ). IsFilling heap dimensions k f) e h

pub last_filling : (heap : Objects) (dimensions p : ℕ) (xs : List Filling) (f : Filling) → AreFillings heap dimensions p (xs ++ f ∷ []) → IsFilling heap dimensions (p + length xs) f
last_filling heap dimensions p [] f h = at_level heap dimensions p (p + 0) f (omega arith) h
last_filling heap dimensions p (x ∷ []) f h = at_level heap dimensions (p + 1) (p + 1) f refl h.2
last_filling heap dimensions p (x ∷ y ∷ ys) f h =
    let sum : p + 1 + length (y ∷ ys) ≡ p + length (x ∷ y ∷ ys) = omega arith in
    at_level heap dimensions (p + 1 + length (y ∷ ys)) (p + length (x ∷ y ∷ ys)) f sum (last_filling heap dimensions (p + 1) (y ∷ ys) f h.2)

pub push_filling : (heap heap' : Objects) (dimensions p : ℕ) (xs : List Filling) (f g : Filling) → KeepsArrays heap heap' → AreFillings heap dimensions p (xs ++ f ∷ []) → f.next < f.count → IsFilling heap' dimensions (p + length xs + 1) g
    → AreFillings heap' dimensions p (xs ++ f ∷ g ∷ [])
push_filling heap heap' dimensions p [] f g k h lt new =
    (kept_filling heap heap' dimensions p f k h, lt, at_level heap' dimensions (p + 0 + 1) (p + 1) g (omega arith) new)
push_filling heap heap' dimensions p (x ∷ []) f g k h lt new =
    let rest : AreFillings heap' dimensions (p + 1) (f ∷ g ∷ []) = push_filling heap heap' dimensions (p + 1) [] f g k h.2 lt (at_level heap' dimensions (p + 1 + 1) (p + 1 + 0 + 1) g (omega arith) new) in
    (kept_filling heap heap' dimensions p x k h.0, h.1, rest)
push_filling heap heap' dimensions p (x ∷ y ∷ ys) f g k h lt new =
    let sum : p + length (x ∷ y ∷ ys) + 1 ≡ p + 1 + length (y ∷ ys) + 1 = omega arith in
    (kept_filling heap heap' dimensions p x k h.0, h.1, push_filling heap heap' dimensions (p + 1) (y ∷ ys) f g k h.2 lt (at_level heap' dimensions (p + length (x ∷ y ∷ ys) + 1) (p + 1 + length (y ∷ ys) + 1) g sum new))

step_filling : (heap heap' : Objects) (dimensions p : ℕ) (f : Filling) → KeepsArrays heap heap' → IsFilling heap dimensions p f → f.next < f.count → IsFilling heap' dimensions p (next_filling f)
step_filling heap heap' dimensions p f k h lt =
    let now = kept_filling heap heap' dimensions p f k h in
    record { held = now.held; room = now.room; next = omega (arith, lt); deep = now.deep }

pub pop_filling : (heap heap' : Objects) (dimensions p : ℕ) (xs : List Filling) (f g : Filling) → KeepsArrays heap heap' → AreFillings heap dimensions p (xs ++ f ∷ g ∷ []) → AreFillings heap' dimensions p (xs ++ next_filling f ∷ [])
pop_filling heap heap' dimensions p [] f g k h = step_filling heap heap' dimensions p f k h.0 h.1
pop_filling heap heap' dimensions p (x ∷ []) f g k h = (kept_filling heap heap' dimensions p x k h.0, h.1, step_filling heap heap' dimensions (p + 1) f k h.2.0 h.2.1)
pop_filling heap heap' dimensions p (x ∷ y ∷ ys) f g k h = (kept_filling heap heap' dimensions p x k h.0, h.1, pop_filling heap heap' dimensions (p + 1) (y ∷ ys) f g k h.2)

pub parent_filling : (heap : Objects) (dimensions p : ℕ) (xs : List Filling) (f g : Filling) → AreFillings heap dimensions p (xs ++ f ∷ g ∷ []) → IsFilling heap dimensions (p + length xs) f × (f.next < f.count)
parent_filling heap dimensions p [] f g h = (at_level heap dimensions p (p + 0) f (omega arith) h.0, h.1)
parent_filling heap dimensions p (x ∷ []) f g h = (h.2.0, h.2.1)
parent_filling heap dimensions p (x ∷ y ∷ ys) f g h =
    let sum : p + 1 + length (y ∷ ys) ≡ p + length (x ∷ y ∷ ys) = omega arith in
    let rest = parent_filling heap dimensions (p + 1) (y ∷ ys) f g h.2 in
    (at_level heap dimensions (p + 1 + length (y ∷ ys)) (p + length (x ∷ y ∷ ys)) f sum rest.0, rest.1)

-- DIMENSIONS

natural_at : (ns : List ℤ) (j : ℕ) (d : ℤ) → j < length ns → get_or (naturals ns) j 0 ≡ natural_of (get_or ns j d)
natural_at [] j d lt = absurd (omega arith)
natural_at (n ∷ ns) zero d lt = refl
natural_at (n ∷ ns) (suc j) d lt = natural_at ns j d (omega arith)

pub same_length : (ns : List ℤ) → length (naturals ns) ≡ length ns
same_length [] = refl
same_length (n ∷ ns) = ap (λ (k : ℕ). suc k) (same_length ns)

-- the dimensions of the elements at a level
pub dimensions_at : (ns : List ℤ) (p : ℕ) (d : ℤ) → p + 1 < length ns → drop p (inner_dimensions (naturals ns)) ≡ natural_of (get_or ns (p + 1) d) ∷ drop (p + 1 + 1) (naturals ns)
dimensions_at ns p d lt =
    let long : length (naturals ns) ≡ length ns = same_length ns in
    let one : suc p ≡ p + 1 = omega arith in
    let two : suc (p + 1) ≡ p + 1 + 1 = omega arith in
    lower_drop p (naturals ns) ∙ (ap (λ (k : ℕ). drop k (naturals ns)) one ∙ (drop-cons (naturals ns) (p + 1) 0 (omega (arith, long, lt))
    ∙ (ap (λ (n : ℕ). n ∷ drop (suc (p + 1)) (naturals ns)) (natural_at ns (p + 1) d lt) ∙ ap (λ (k : ℕ). natural_of (get_or ns (p + 1) d) ∷ drop k (naturals ns)) two)))

counted_some : (n : ℕ) (ms : List ℕ) → 0 < length ms → element_count n ms ≡ n
counted_some n [] lt = absurd (omega arith)
counted_some n (m ∷ ms) lt = refl

counted_none : (n : ℕ) (ms : List ℕ) → length ms ≡ 0 → element_count n ms ≡ 0
counted_none n [] e = refl
counted_none n (m ∷ ms) e = absurd (omega (arith, e))

pub counted_deep : (n level : ℕ) (ns : List ℤ) → level < length ns → element_count n (drop level (naturals ns)) ≡ n
counted_deep n level ns lt =
    let long : length (naturals ns) ≡ length ns = same_length ns in
    counted_some n (drop level (naturals ns)) (subst (λ (k : ℕ). 0 < k) (sym (length-drop level (naturals ns))) (omega (arith, long, lt)))

pub counted_last : (n level : ℕ) (ns : List ℤ) → length ns ≤ level → element_count n (drop level (naturals ns)) ≡ 0
counted_last n level ns le =
    let long : length (naturals ns) ≡ length ns = same_length ns in
    counted_none n (drop level (naturals ns)) (length-drop level (naturals ns) ∙ omega (arith, long, le))
