-- The last array is whole, and becomes an element.
use Rattle.std.proofs.Common.{◌≡◌, ℕ, ◌+◌, ◌<◌, List, [], ◌∷◌, ◌++◌, length, sym, ◌∙◌, ap, subst, arith, append_assoc}
use Rattle.et_base.specs.declared.value.Value.TheVariants.{Ref}
use Rattle.et_heap.specs.Objects.{Objects, object_at, with_slot, with_object_at}
use Rattle.et_state.specs.State.{MachineState}
use Rattle.et_state.specs.declared.records.Record.{Record}
use Rattle.et_event.specs.Moments.{Moment, Doing, slot_written}
use Rattle.et_refs.specs.declared.arrays.filling.Filling.{Filling}
use Rattle.et_event.specs.Telling.{so_far, StandsAt}
use Rattle.et_refs.specs.Filling.{IsFilling, AreFillings, next_filling, with_filled}
use Rattle.et_refs.proofs.Finishing.{popped}
use Rattle.et_refs.proofs.Stacking.{parent_filling, pop_filling, kept_written}
use Rattle.et_refs.proofs.Descending.{came}

listed : (ys xs : List Filling) (f g : Filling) → ys ≡ xs ++ f ∷ [] → ys ++ g ∷ [] ≡ xs ++ f ∷ g ∷ []
listed ys xs f g e = ap (λ (zs : List Filling). zs ++ g ∷ []) e ∙ append_assoc xs (f ∷ []) (g ∷ [])

pub parent_there : (heap : Objects) (dimensions : ℕ) (ys xs : List Filling) (f g : Filling) → ys ≡ xs ++ f ∷ [] → AreFillings heap dimensions 0 (ys ++ g ∷ []) → IsFilling heap dimensions (0 + length xs) f × (f.next < f.count)
parent_there heap dimensions ys xs f g e h = parent_filling heap dimensions 0 xs f g (subst (λ (zs : List Filling). AreFillings heap dimensions 0 zs) (listed ys xs f g e) h)

pub slot_there : (heap : Objects) (dimensions : ℕ) (ys xs : List Filling) (f g : Filling) → ys ≡ xs ++ f ∷ [] → AreFillings heap dimensions 0 (ys ++ g ∷ []) → f.next < length (object_at heap f.array).slots
slot_there heap dimensions ys xs f g e h =
    let p = parent_there heap dimensions ys xs f g e h in
    let room = p.0.room in
    let lt = p.1 in
    omega (arith, room, lt)

pub ascended : (e : Moment) (ms : List ℕ) (ys xs : List Filling) (f g : Filling) (m m' : MachineState) (out out' : List Record) → g.next ≡ g.count → ys ≡ xs ++ f ∷ [] → StandsAt (slot_written e f.array f.next (Ref g.array) (so_far m out)) m m' out'
    → with_filled e (xs ++ next_filling f ∷ []) ms (so_far m' out') ≡ with_filled e (ys ++ g ∷ []) ms (so_far m out)
ascended e ms ys xs f g m m' out out' is was wrote =
    ap (λ (y : Doing). with_filled e (xs ++ next_filling f ∷ []) ms y) (came (slot_written e f.array f.next (Ref g.array) (so_far m out)) m m' out' wrote)
    ∙ (popped e xs f g ms (so_far m out) is ∙ ap (λ (zs : List Filling). with_filled e zs ms (so_far m out)) (sym (listed ys xs f g was)))

pub ascended_fillings : (e : Moment) (dimensions : ℕ) (ys xs : List Filling) (f g : Filling) (m m' : MachineState) (out out' : List Record) → ys ≡ xs ++ f ∷ [] → AreFillings m.heap dimensions 0 (ys ++ g ∷ [])
    → StandsAt (slot_written e f.array f.next (Ref g.array) (so_far m out)) m m' out' → AreFillings m'.heap dimensions 0 (xs ++ next_filling f ∷ [])
ascended_fillings e dimensions ys xs f g m m' out out' was h wrote =
    let heap : Objects = with_object_at m.heap f.array (with_slot f.next (Ref g.array) (object_at m.heap f.array)) in
    let inside : AreFillings m.heap dimensions 0 (xs ++ f ∷ g ∷ []) = subst (λ (zs : List Filling). AreFillings m.heap dimensions 0 zs) (listed ys xs f g was) h in
    let p = parent_filling m.heap dimensions 0 xs f g inside in
    let all : AreFillings heap dimensions 0 (xs ++ next_filling f ∷ []) = pop_filling m.heap heap dimensions 0 xs f g (kept_written m.heap f.array f.next (Ref g.array) p.0.held) inside in
    subst (λ (hs : Objects). AreFillings hs dimensions 0 (xs ++ next_filling f ∷ [])) (sym (ap (λ (z : MachineState). z.heap) wrote.0)) all
