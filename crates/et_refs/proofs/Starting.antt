-- The first array is made, and then all that is in it.
use Rattle.std.proofs.Common.{◌≡◌, ℕ, ◌+◌, ◌<◌, ◌≤◌, true, List, [], ◌∷◌, ◌++◌, length, drop, Some, refl, sym, ◌∙◌, ap, subst, arith}
use Rattle.std.specs.Prelude.{ℤ}
use Rattle.et_heap.specs.Objects.{Objects, new_object, has_room}
use Rattle.et_state.specs.State.{MachineState}
use Rattle.et_state.specs.declared.records.Record.{Record}
use Rattle.et_event.specs.Heap.{arrays_made, naturals}
use Rattle.et_event.specs.Moments.{Moment, Doing, array_made, fits_heap}
use Rattle.et_refs.specs.declared.arrays.filling.Filling.{Filling}
use Rattle.et_event.specs.Telling.{so_far, StandsAt}
use Rattle.et_refs.specs.Filling.{IsFilling, inner_dimensions, first_filling, with_filled}
use Rattle.et_refs.proofs.Descending.{came, lengths_at, new_filling}
use Rattle.et_refs.proofs.Finishing.{opened, first_fits, first_made}

split : (ns : List ℤ) → 0 < length ns → naturals ns ≡ lengths_at ns 0 ∷ drop 1 (naturals ns)
split [] some = absurd (omega arith)
split (n ∷ ns) some = refl

lower_drop : (ns : List ℕ) → inner_dimensions ns ≡ drop 1 ns
lower_drop [] = refl
lower_drop (n ∷ ns) = refl

pub start_fits : (e : Moment) (c : ℕ) (ns : List ℤ) (m : MachineState) (out : List Record) → 0 < length ns → 0 < length m.heap → fits_heap (arrays_made e c (naturals ns) (so_far m out)).state.heap ≡ true → has_room m.heap 1 (lengths_at ns 0) ≡ true
start_fits e c ns m out some heap fit =
    first_fits e c (lengths_at ns 0) (drop 1 (naturals ns)) (so_far m out) heap (ap (λ (l : List ℕ). fits_heap (arrays_made e c l (so_far m out)).state.heap) (sym (split ns some)) ∙ fit)

pub start_filling : (e : Moment) (c : ℕ) (ns : List ℤ) (m m' : MachineState) (out out' : List Record) (f : Filling) → f ≡ first_filling e (length m.heap) c (lengths_at ns 0) (drop 1 (naturals ns))
    → StandsAt (array_made e c (lengths_at ns 0) (so_far m out)) m m' out' → IsFilling m'.heap (length ns) 0 f
start_filling e c ns m m' out out' f opens made =
    let n : ℕ = lengths_at ns 0 in
    let heap : Objects = m.heap ++ Some (new_object c n n) ∷ [] in
    let kept : m'.heap ≡ heap = ap (λ (z : MachineState). z.heap) made.0 in
    let new : IsFilling heap (length ns) 0 (first_filling e (length m.heap) c n (drop 1 (naturals ns))) = new_filling m.heap e c n 0 ns in
    subst (λ (hs : Objects). IsFilling hs (length ns) 0 f) (sym kept) (subst (λ (g : Filling). IsFilling heap (length ns) 0 g) (sym opens) new)

pub started : (e : Moment) (c : ℕ) (ns : List ℤ) (m m' : MachineState) (out out' : List Record) (f : Filling) → 0 < length ns → f ≡ first_filling e (length m.heap) c (lengths_at ns 0) (drop 1 (naturals ns))
    → StandsAt (array_made e c (lengths_at ns 0) (so_far m out)) m m' out' → with_filled e (f ∷ []) (inner_dimensions (naturals ns)) (so_far m' out') ≡ arrays_made e c (naturals ns) (so_far m out)
started e c ns m m' out out' f some opens made =
    let n : ℕ = lengths_at ns 0 in
    let ms : List ℕ = drop 1 (naturals ns) in
    let child : Filling = first_filling e (length m.heap) c n ms in
    let x : Doing = array_made e c n (so_far m out) in
    ap (λ (g : Filling). with_filled e (g ∷ []) (inner_dimensions (naturals ns)) (so_far m' out')) opens
    ∙ (ap (λ (y : Doing). with_filled e (child ∷ []) (inner_dimensions (naturals ns)) y) (came x m m' out' made)
    ∙ (ap (λ (l : List ℕ). with_filled e (child ∷ []) l x) (lower_drop (naturals ns))
    ∙ (opened e c n ms (so_far m out) ∙ ap (λ (l : List ℕ). arrays_made e c l (so_far m out)) (sym (split ns some)))))

-- there is one more array in the end than at first
pub start_made : (e : Moment) (c : ℕ) (ns : List ℤ) (m : MachineState) (out : List Record) → 0 < length ns → length m.heap + 1 ≤ length (arrays_made e c (naturals ns) (so_far m out)).state.heap
start_made e c ns m out some =
    let more = first_made e c (lengths_at ns 0) (drop 1 (naturals ns)) (so_far m out) in
    let same : length (arrays_made e c (lengths_at ns 0 ∷ drop 1 (naturals ns)) (so_far m out)).state.heap ≡ length (arrays_made e c (naturals ns) (so_far m out)).state.heap =
    ap (λ (l : List ℕ). length (arrays_made e c l (so_far m out)).state.heap) (sym (split ns some)) in
    omega (arith, more, same)
