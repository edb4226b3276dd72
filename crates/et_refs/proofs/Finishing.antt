-- Arrays under way: one more is made, or the last one is whole and becomes an element.
use Rattle.std.proofs.Common.{◌≡◌, ℕ, zero, suc, ◌+◌, ◌-◌, ◌<◌, ◌≤◌, leb, Bool, true, List, [], ◌∷◌, ◌++◌, length, drop, set, refl, sym, ◌∙◌, ap, subst, arith, Some}
use Rattle.std.specs.Prelude.{◌&&◌}
use Rattle.std.proofs.lemmas.Bool.{and_parts, leb-true, le-leb}
use Rattle.std.proofs.lemmas.List.{length-set, length_push}
use Rattle.et_base.specs.declared.value.Value.TheVariants.{Ref}
use Rattle.et_heap.specs.Objects.{object_at, new_object, with_slot, has_room, slot_count, most_objects, most_slots}
use Rattle.et_program.specs.Entries.{class_at}
use Rattle.et_event.specs.Heap.{arrays_made, filled, element_class}
use Rattle.et_event.specs.Moments.{Moment, Doing, next_object, array_made, slot_written, fits_heap}
use Rattle.et_event.proofs.Making.{fits_made}
use Rattle.et_refs.specs.declared.arrays.filling.Filling.{Filling}
use Rattle.et_refs.specs.Filling.{filled_from, inner_dimensions, rest_from, with_filled, first_filling, next_filling}
use Rattle.et_refs.proofs.Making.{made_grows, same_slots}

-- ELEMENTS IN ORDER

from_on : (e : Moment) (o : ℕ) (make : Doing → Doing) (i j left : ℕ) (d : Doing) → i ≡ j → filled_from e o make i left (filled e o make j d) ≡ filled e o make (left + j) d
from_on e o make i j zero d same = ap (λ (n : ℕ). filled e o make n d) (add_first j)
  where
    add_first : (n : ℕ) → n ≡ 0 + n
    add_first n = omega arith
from_on e o make i j (suc left) d same =
    let x = filled e o make j d in
    let next : i + 1 ≡ suc j = omega (arith, same) in
    let sum : left + suc j ≡ suc left + j = omega arith in
    ap (λ (k : ℕ). filled_from e o make (i + 1) left (slot_written e o k (Ref (next_object x)) (make x))) same
    ∙ (from_on e o make (i + 1) (suc j) left d next ∙ ap (λ (n : ℕ). filled e o make n d) sum)

pub all_from : (e : Moment) (o n : ℕ) (make : Doing → Doing) (d : Doing) → filled_from e o make 0 n d ≡ filled e o make n d
all_from e o n make d =
    let sum : n + 0 ≡ n = omega arith in
    from_on e o make 0 0 n d refl ∙ ap (λ (k : ℕ). filled e o make k d) sum

pub opened : (e : Moment) (c n : ℕ) (ns : List ℕ) (d : Doing) → with_filled e (first_filling e (next_object d) c n ns ∷ []) ns (array_made e c n d) ≡ arrays_made e c (n ∷ ns) d
opened e c n [] d = refl
opened e c n (m ∷ more) d =
    let inner = element_class (class_at e.program c).info.element in
    let make = arrays_made e inner (m ∷ more) in
    let all : n - 0 ≡ n = omega arith in
    ap (λ (k : ℕ). filled_from e (next_object d) make 0 k (array_made e c n d)) all ∙ all_from e (next_object d) n make (array_made e c n d)

-- WHAT IS DONE TO THE LAST

pub lower_drop : (j : ℕ) (ns : List ℕ) → drop j (inner_dimensions ns) ≡ drop (suc j) ns
lower_drop zero [] = refl
lower_drop (suc j) [] = refl
lower_drop zero (n ∷ ns) = refl
lower_drop (suc j) (n ∷ ns) = refl

pub on_top : (e : Moment) (xs : List Filling) (f g : Filling) (up up' : List Filling) (ns : List ℕ) (d d' : Doing) → f.array ≡ g.array
    → with_filled e (f ∷ up) (drop (length xs) ns) d ≡ with_filled e (g ∷ up') (drop (length xs) ns) d' → with_filled e (xs ++ f ∷ up) ns d ≡ with_filled e (xs ++ g ∷ up') ns d'
on_top e [] f g up up' ns d d' same h = h
on_top e (x ∷ []) f g up up' ns d d' same h =
    let here : with_filled e (f ∷ up) (inner_dimensions ns) d ≡ with_filled e (g ∷ up') (inner_dimensions ns) d' = subst (λ (ms : List ℕ). with_filled e (f ∷ up) ms d ≡ with_filled e (g ∷ up') ms d') (sym (lower_drop 0 ns)) h in
    ap (λ (y : Doing). rest_from e x ns (x.next + 1) (slot_written e x.array x.next (Ref f.array) y)) here
    ∙ ap (λ (o : ℕ). rest_from e x ns (x.next + 1) (slot_written e x.array x.next (Ref o) (with_filled e (g ∷ up') (inner_dimensions ns) d'))) same
on_top e (x ∷ y ∷ xs) f g up up' ns d d' same h =
    let rest = on_top e (y ∷ xs) f g up up' (inner_dimensions ns) d d' same (subst (λ (ms : List ℕ). with_filled e (f ∷ up) ms d ≡ with_filled e (g ∷ up') ms d') (sym (lower_drop (length (y ∷ xs)) ns)) h) in
    ap (λ (z : Doing). rest_from e x ns (x.next + 1) (slot_written e x.array x.next (Ref y.array) z)) rest

-- an element is begun
begun_top : (e : Moment) (f : Filling) (n : ℕ) (ns : List ℕ) (d : Doing) → f.next < f.count
    → with_filled e (f ∷ first_filling e (next_object d) f.inner n ns ∷ []) (n ∷ ns) (array_made e f.inner n d) ≡ with_filled e (f ∷ []) (n ∷ ns) d
begun_top e f n ns d lt =
    let left : f.count - f.next ≡ suc (f.count - (f.next + 1)) = omega (arith, lt) in
    ap (λ (x : Doing). rest_from e f (n ∷ ns) (f.next + 1) (slot_written e f.array f.next (Ref (next_object d)) x)) (opened e f.inner n ns d)
    ∙ ap (λ (k : ℕ). filled_from e f.array (arrays_made e f.inner (n ∷ ns)) f.next k d) (sym left)

pub pushed : (e : Moment) (xs : List Filling) (f : Filling) (n : ℕ) (ns ms : List ℕ) (d : Doing) → f.next < f.count → drop (length xs) ms ≡ n ∷ ns
    → with_filled e (xs ++ f ∷ first_filling e (next_object d) f.inner n ns ∷ []) ms (array_made e f.inner n d) ≡ with_filled e (xs ++ f ∷ []) ms d
pushed e xs f n ns ms d lt at =
    let child = first_filling e (next_object d) f.inner n ns in
    on_top e xs f f (child ∷ []) [] ms (array_made e f.inner n d) d refl
    (subst (λ (ks : List ℕ). with_filled e (f ∷ child ∷ []) ks (array_made e f.inner n d) ≡ with_filled e (f ∷ []) ks d) (sym at) (begun_top e f n ns d lt))

-- the last one is whole

whole_top : (e : Moment) (f g : Filling) (ns : List ℕ) (d : Doing) → g.next ≡ g.count → with_filled e (next_filling f ∷ []) ns (slot_written e f.array f.next (Ref g.array) d) ≡ with_filled e (f ∷ g ∷ []) ns d
whole_top e f g ns d is =
    let none : 0 ≡ g.count - g.next = omega (arith, is) in
    ap (λ (k : ℕ). rest_from e f ns (f.next + 1) (slot_written e f.array f.next (Ref g.array) (filled_from e g.array (arrays_made e g.inner (inner_dimensions ns)) g.next k d))) none

pub popped : (e : Moment) (xs : List Filling) (f g : Filling) (ms : List ℕ) (d : Doing) → g.next ≡ g.count
    → with_filled e (xs ++ next_filling f ∷ []) ms (slot_written e f.array f.next (Ref g.array) d) ≡ with_filled e (xs ++ f ∷ g ∷ []) ms d
popped e xs f g ms d is = on_top e xs (next_filling f) f [] (g ∷ []) ms (slot_written e f.array f.next (Ref g.array) d) d refl (whole_top e f g (drop (length xs) ms) d is)

-- the first one is whole
pub whole : (e : Moment) (f : Filling) (ns : List ℕ) (d : Doing) → f.next ≡ f.count → with_filled e (f ∷ []) ns d ≡ d
whole e f ns d is =
    let none : f.count - f.next ≡ 0 = omega (arith, is) in
    ap (λ (k : ℕ). filled_from e f.array (arrays_made e f.inner ns) f.next k d) none

pub all_whole : (e : Moment) (xs : List Filling) (f : Filling) (ns : List ℕ) (d : Doing) → length xs ≡ 0 → f.next ≡ f.count → with_filled e (xs ++ f ∷ []) ns d ≡ d
all_whole e [] f ns d none is = whole e f ns d is
all_whole e (x ∷ xs) f ns d none is = absurd (omega (arith, none))

-- WHAT IS MADE STAYS MADE

record Keeps (d x : Doing) : Type 0 where
  objects : length d.state.heap ≤ length x.state.heap
  slots : slot_count d.state.heap ≤ slot_count x.state.heap

keeps_itself : (d : Doing) → Keeps d d
keeps_itself d = record { objects = omega arith; slots = omega arith }

keeps_then : (d x y : Doing) → Keeps d x → Keeps x y → Keeps d y
keeps_then d x y a b =
    let p = a.objects in
    let q = b.objects in
    let r = a.slots in
    let s = b.slots in
    record { objects = omega (arith, p, q); slots = omega (arith, r, s) }

written_keeps : (e : Moment) (o i k : ℕ) (d : Doing) → Keeps d (slot_written e o i (Ref k) d)
written_keeps e o i k d =
    let long : length (set d.state.heap o (Some (with_slot i (Ref k) (object_at d.state.heap o)))) ≡ length d.state.heap = length-set d.state.heap o (Some (with_slot i (Ref k) (object_at d.state.heap o))) in
    let size = same_slots d.state.heap o i (Ref k) in
    record { objects = omega (arith, long); slots = omega (arith, size) }

made_keeps : (e : Moment) (c : ℕ) (ns : List ℕ) (d : Doing) → Keeps d (arrays_made e c ns d)
made_keeps e c ns d = let h = made_grows e c ns d in let p = h.objects in let q = h.slots in record { objects = omega (arith, p); slots = omega (arith, q) }

from_keeps : (e : Moment) (o : ℕ) (c : ℕ) (ns : List ℕ) (i left : ℕ) (d : Doing) → Keeps d (filled_from e o (arrays_made e c ns) i left d)
from_keeps e o c ns i zero d = keeps_itself d
from_keeps e o c ns i (suc left) d =
    let x = arrays_made e c ns d in
    let y = slot_written e o i (Ref (next_object d)) x in
    keeps_then d y _ (keeps_then d x y (made_keeps e c ns d) (written_keeps e o i (next_object d) x)) (from_keeps e o c ns (i + 1) left y)

finished_keeps : (e : Moment) (fs : List Filling) (ns : List ℕ) (d : Doing) → Keeps d (with_filled e fs ns d)
finished_keeps e [] ns d = keeps_itself d
finished_keeps e (f ∷ []) ns d = from_keeps e f.array f.inner ns f.next (f.count - f.next) d
finished_keeps e (f ∷ g ∷ up) ns d =
    let x = with_filled e (g ∷ up) (inner_dimensions ns) d in
    let y = slot_written e f.array f.next (Ref g.array) x in
    keeps_then d y _ (keeps_then d x y (finished_keeps e (g ∷ up) (inner_dimensions ns) d) (written_keeps e f.array f.next g.array x)) (from_keeps e f.array f.inner ns (f.next + 1) (f.count - (f.next + 1)) y)

fits_kept : (d x : Doing) → Keeps d x → fits_heap x.state.heap ≡ true → fits_heap d.state.heap ≡ true
fits_kept d x k fit =
    let b = and_parts _ _ fit in
    let number : length x.state.heap - 1 ≤ most_objects = leb-true _ _ b.0 in
    let size : slot_count x.state.heap ≤ most_slots = leb-true _ _ b.1 in
    let p = k.objects in
    let q = k.slots in
    let few : length d.state.heap - 1 ≤ most_objects = omega (arith, p, number) in
    let small : slot_count d.state.heap ≤ most_slots = omega (arith, q, size) in
    ap (λ (z : Bool). z && leb (slot_count d.state.heap) most_slots) (le-leb _ _ few) ∙ le-leb _ _ small

-- where all fits in the end, the next array fits
pub next_fits : (e : Moment) (xs : List Filling) (f : Filling) (n : ℕ) (ns ms : List ℕ) (d : Doing) → f.next < f.count → drop (length xs) ms ≡ n ∷ ns → 0 < length d.state.heap → fits_heap (with_filled e (xs ++ f ∷ []) ms d).state.heap ≡ true → has_room d.state.heap 1 n ≡ true
next_fits e xs f n ns ms d lt at some fit =
    let child = first_filling e (next_object d) f.inner n ns in
    let x = array_made e f.inner n d in
    let all : fits_heap (with_filled e (xs ++ f ∷ child ∷ []) ms x).state.heap ≡ true = ap (λ (y : Doing). fits_heap y.state.heap) (pushed e xs f n ns ms d lt at) ∙ fit in
    sym (fits_made d.state.heap f.inner n n) ∙ fits_kept x (with_filled e (xs ++ f ∷ child ∷ []) ms x) (finished_keeps e (xs ++ f ∷ child ∷ []) ms x) all

-- .. and so does the first one
pub first_fits : (e : Moment) (c n : ℕ) (ns : List ℕ) (d : Doing) → 0 < length d.state.heap → fits_heap (arrays_made e c (n ∷ ns) d).state.heap ≡ true → has_room d.state.heap 1 n ≡ true
first_fits e c n ns d some fit =
    let child = first_filling e (next_object d) c n ns in
    let x = array_made e c n d in
    let all : fits_heap (with_filled e (child ∷ []) ns x).state.heap ≡ true = ap (λ (y : Doing). fits_heap y.state.heap) (opened e c n ns d) ∙ fit in
    sym (fits_made d.state.heap c n n) ∙ fits_kept x (with_filled e (child ∷ []) ns x) (finished_keeps e (child ∷ []) ns x) all

-- HOW MANY OBJECTS THERE ARE IN THE END: no fewer than there are now, and where one is still to be made, one more

pub still_made : (e : Moment) (fs : List Filling) (ns : List ℕ) (d : Doing) → length d.state.heap ≤ length (with_filled e fs ns d).state.heap
still_made e fs ns d = (finished_keeps e fs ns d).objects

pub next_made : (e : Moment) (xs : List Filling) (f : Filling) (n : ℕ) (ns ms : List ℕ) (d : Doing) → f.next < f.count → drop (length xs) ms ≡ n ∷ ns → length d.state.heap + 1 ≤ length (with_filled e (xs ++ f ∷ []) ms d).state.heap
next_made e xs f n ns ms d lt at =
    let child = first_filling e (next_object d) f.inner n ns in
    let x = array_made e f.inner n d in
    let more : length x.state.heap ≡ length d.state.heap + 1 = length_push d.state.heap (Some (new_object f.inner n n)) in
    let kept : length x.state.heap ≤ length (with_filled e (xs ++ f ∷ child ∷ []) ms x).state.heap = still_made e (xs ++ f ∷ child ∷ []) ms x in
    let same : length (with_filled e (xs ++ f ∷ child ∷ []) ms x).state.heap ≡ length (with_filled e (xs ++ f ∷ []) ms d).state.heap = ap (λ (y : Doing). length y.state.heap) (pushed e xs f n ns ms d lt at) in
    omega (arith, more, kept, same)

pub first_made : (e : Moment) (c n : ℕ) (ns : List ℕ) (d : Doing) → length d.state.heap + 1 ≤ length (arrays_made e c (n ∷ ns) d).state.heap
first_made e c n ns d =
    let child = first_filling e (next_object d) c n ns in
    let x = array_made e c n d in
    let more : length x.state.heap ≡ length d.state.heap + 1 = length_push d.state.heap (Some (new_object c n n)) in
    let kept : length x.state.heap ≤ length (with_filled e (child ∷ []) ns x).state.heap = still_made e (child ∷ []) ns x in
    let same : length (with_filled e (child ∷ []) ns x).state.heap ≡ length (arrays_made e c (n ∷ ns) d).state.heap = ap (λ (y : Doing). length y.state.heap) (opened e c n ns d) in
    omega (arith, more, kept, same)
