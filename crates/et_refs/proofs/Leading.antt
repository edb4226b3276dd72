-- What the topmost frame comes to where operands are taken and values that are held are put in their place.
use Rattle.std.proofs.Common.{◌≡◌, ℕ, ◌<◌, List, [], ◌∷◌, ◌++◌, length, take, drop, Some, refl, sym, ◌∙◌, ap, subst, Contains, append-nil, inl, inr}
use Rattle.std.proofs.lemmas.List.{length-set}
use Rattle.std.proofs.lemmas.List.Elements.{Contains-append_left, Contains-append_right, Contains-append_cases}
use Rattle.et_heap.proofs.References.{refs_append}
use Rattle.et_base.specs.declared.value.Value.{Value}
use Rattle.et_base.specs.declared.value.Value.TheVariants.{Unset, Int, Long, LongHigh, Null, Ref}
use Rattle.et_base.proofs.Lists.{Contains-none, Contains-here, Contains-cons}
use Rattle.et_heap.specs.Objects.{ObjectState, IsHeld, object_at, slot_of, with_slot, with_object_at, new_object}
use Rattle.et_heap.specs.Refs.{refs_of_value, refs_of}
use Rattle.et_state.specs.Threads.{FrameState, at_pc, popped}
use Rattle.et_state.specs.ThreadRoots.{frame_roots}
use Rattle.et_state.specs.State.{Kept, MachineState, kept_of}
use Rattle.et_state.specs.Words.{top, with_top, HasFrame, ticked, begun, steps_top, steps_object}
use Rattle.et_state.specs.Sound.{IsSound}
use Rattle.et_state.specs.Moves.{Moves, IsOnWay, Led}
use Rattle.et_state.proofs.Places.{top_root, leads-new}
use Rattle.et_state.proofs.UnderWay.{root_is_reached}
use Rattle.et_state.proofs.Calls.{on_begin_event, on_set_slot}
use Rattle.et_state.proofs.Steps.{then_top, MayEnter, MayBeLost, did_led, did_make, did_on_way, led_plain, root_there, slot_there, newest_held}
use Rattle.et_event.proofs.Taking.{replaced, operand_in_frame, taken_or_left, taken_in_frame}
use Rattle.et_event.specs.Checks.{entries_of}

-- THE FRAME

-- values that may enter are put in the place of operands
pub moves_held : (H R : ℕ → Type 0) (f : FrameState) (n pc : ℕ) (vs : List Value) → ((o : ℕ) → Contains (refs_of vs) o → H o) → ((o : ℕ) → Contains (frame_roots f) o → R o)
    → Moves H R (frame_roots f) (frame_roots (replaced n vs pc f)) (refs_of (take n f.operands))
moves_held H R f n pc vs held there = record {
  on = λ o c. elim (Contains-append_cases (refs_of f.locals) _ o c) [
    | inl d ↦ inl (Contains-append_left (refs_of f.locals) _ o d)
    | inr d ↦ elim (Contains-append_cases (refs_of (vs ++ drop n f.operands)) _ o d) [
      | inl e ↦ elim (Contains-append_cases (refs_of vs) (refs_of (drop n f.operands)) o (subst (λ (os : List ℕ). Contains os o) (refs_append vs (drop n f.operands)) e)) [
        | inl h ↦ inr (held o h)
        | inr h ↦ inl (operand_in_frame f o (subst (λ (os : List ℕ). Contains os o) (sym (taken_or_left f.operands n)) (Contains-append_right (refs_of (take n f.operands)) _ o h)))
      ]
      | inr e ↦ inl (Contains-append_right (refs_of f.locals) _ o (Contains-append_right (refs_of f.operands) _ o e))
    ]
  ];
  off = λ o c. elim (Contains-append_cases (refs_of f.locals) _ o c) [
    | inl d ↦ inl (Contains-append_left (refs_of f.locals) _ o d)
    | inr d ↦ elim (Contains-append_cases (refs_of f.operands) _ o d) [
      | inl e ↦ elim (Contains-append_cases (refs_of (take n f.operands)) (refs_of (drop n f.operands)) o (subst (λ (os : List ℕ). Contains os o) (taken_or_left f.operands n) e)) [
        | inl h ↦ inr h
        | inr h ↦ inl (operand_in_frame (replaced n vs pc f) o (subst (λ (os : List ℕ). Contains os o) (sym (refs_append vs (drop n f.operands))) (Contains-append_right (refs_of vs) _ o h)))
      ]
      | inr e ↦ inl (Contains-append_right (refs_of f.locals) _ o (Contains-append_right (refs_of (vs ++ drop n f.operands)) _ o e))
    ]
  ];
  was = λ o c. there o (taken_in_frame n f o c);
}

-- a value refers to what its entries refer to
pub entries_refer : (v : Value) (o : ℕ) → Contains (refs_of (entries_of v)) o → Contains (refs_of_value v) o
entries_refer Unset o c = c
entries_refer (Int n) o c = c
entries_refer (Long n) o c = c
entries_refer LongHigh o c = c
entries_refer Null o c = c
entries_refer (Ref x) o c = c

-- THE CALLS

pub replaced_top : (b : MachineState) (t n pc : ℕ) (vs : List Value) (m₁ m₂ m₃ : MachineState) → t < length b.guest.threads
    → m₁ ≡ steps_top b t (popped n (top b.guest t)) (refs_of (take n (top b.guest t).operands))
    → m₂ ≡ steps_top m₁ t (record (top m₁.guest t) { operands = vs ++ (top m₁.guest t).operands }) [] → m₃ ≡ steps_top m₂ t (at_pc pc (top m₂.guest t)) []
    → m₃ ≡ steps_top b t (replaced n vs pc (top b.guest t)) (refs_of (take n (top b.guest t).operands))
replaced_top b t n pc vs m₁ m₂ m₃ lt e₁ e₂ e₃ =
    let f : FrameState = top b.guest t in
    let l : List ℕ = refs_of (take n f.operands) in
    let is₂ = then_top (λ g. record g { operands = vs ++ g.operands }) (λ g. []) b t (popped n f) l m₁ m₂ lt e₁ e₂ in
    let is₃ = then_top (at_pc pc) (λ g. []) b t (record f { operands = vs ++ drop n f.operands }) (l ++ []) m₂ m₃ lt is₂ e₃ in
    let same : (l ++ []) ++ [] ≡ l = append-nil (l ++ []) ∙ append-nil l in
    is₃ ∙ ap (λ (os : List ℕ). steps_top b t (replaced n vs pc f) os) same

-- THE EVENTS

pub put_led : (m : MachineState) (t n pc : ℕ) (v : Value) (m₁ m₂ : MachineState) → IsSound (kept_of m) → HasFrame m.guest t → ((o : ℕ) → Contains (refs_of_value v) o → IsHeld m.heap o)
    → m₁ ≡ begun m → m₂ ≡ steps_top m₁ t (replaced n (entries_of v) pc (top m₁.guest t)) (refs_of (take n (top m₁.guest t).operands))
    → Led (kept_of m) (record { heap = m.heap; guest = with_top (ticked m.guest) t (replaced n (entries_of v) pc (top m.guest t)) }) m₂
put_led m t n pc v m₁ m₂ sound has held e₁ e₂ =
    let f : FrameState = top m.guest t in
    let b : MachineState = begun m in
    let is : m₂ ≡ steps_top b t (replaced n (entries_of v) pc f) (refs_of (take n f.operands)) =
    e₂ ∙ ap (λ (x : MachineState). steps_top x t (replaced n (entries_of v) pc (top x.guest t)) (refs_of (take n (top x.guest t).operands))) e₁ in
    did_led m t (replaced n (entries_of v) pc f) (refs_of (take n f.operands)) m₂ sound has
    (record { is = is; moves = moves_held (MayEnter b) (MayBeLost (kept_of m) b) f n pc (entries_of v) (λ o c. held o (entries_refer v o c)) (λ o c. root_there (kept_of m) (kept_of b) o (top_root m.guest t o has c)) })

pub write_led : (m : MachineState) (t n pc o i : ℕ) (v : Value) (m₁ m₂ m₃ m₄ : MachineState) → IsSound (kept_of m) → HasFrame m.guest t → Contains (frame_roots (top m.guest t)) o
    → i < length (object_at m.heap o).slots → ((r : ℕ) → Contains (refs_of_value v) r → Contains (frame_roots (top m.guest t)) r) → m₁ ≡ begun m
    → m₂ ≡ steps_object m₁ o (with_slot i v (object_at m₁.heap o)) (refs_of_value (slot_of (object_at m₁.heap o) i))
    → m₃ ≡ steps_top m₂ t (popped n (top m₂.guest t)) (refs_of (take n (top m₂.guest t).operands)) → m₄ ≡ steps_top m₃ t (at_pc pc (top m₃.guest t)) []
    → Led (kept_of m) (record { heap = with_object_at m.heap o (with_slot i v (object_at m.heap o)); guest = with_top (ticked m.guest) t (replaced n [] pc (top m.guest t)) }) m₄
write_led m t n pc o i v m₁ m₂ m₃ m₄ sound has inside lt value e₁ e₂ e₃ e₄ =
    let s : Kept = kept_of m in
    let f : FrameState = top m.guest t in
    let l : List ℕ = refs_of (take n f.operands) in
    let root = λ (r : ℕ) (c : Contains (frame_roots f) r). top_root m.guest t r has c in
    let reached = λ (r : ℕ) (c : Contains (frame_roots f) r). root_is_reached s r (root r c) in
    let x : ObjectState = with_slot i v (object_at m.heap o) in
    let b : MachineState = steps_object (begun m) o x (refs_of_value (slot_of (object_at m.heap o) i)) in
    let on_way : IsOnWay s b =
    on_set_slot s (begun m) o i v (on_begin_event m sound) (sound.roots o (root o inside)) (inl (reached o inside)) lt (λ r c. sound.roots r (root r (value r c))) (λ r c. inl (reached r (value r c))) (λ r c. slot_there s (kept_of (begun m)) o i r (reached o inside) lt c) in
    let is₂ : m₂ ≡ b = e₂ ∙ ap (λ (y : MachineState). steps_object y o (with_slot i v (object_at y.heap o)) (refs_of_value (slot_of (object_at y.heap o) i))) e₁ in
    let is₃ : m₃ ≡ steps_top b t (popped n f) l = e₃ ∙ ap (λ (y : MachineState). steps_top y t (popped n (top y.guest t)) (refs_of (take n (top y.guest t).operands))) is₂ in
    let is₄ = then_top (at_pc pc) (λ g. []) b t (popped n f) l m₃ m₄ has.thread is₃ e₄ in
    let is : m₄ ≡ steps_top b t (replaced n [] pc f) l = is₄ ∙ ap (λ (os : List ℕ). steps_top b t (replaced n [] pc f) os) (append-nil l) in
    let moves = moves_held (MayEnter b) (MayBeLost s b) f n pc [] (λ r c. absurd (Contains-none r c)) (λ r c. root_there s (kept_of b) r (root r c)) in
    let next : IsOnWay s m₄ = did_on_way s b t (replaced n [] pc f) l m₄ on_way (record { thread = has.thread; frame = has.frame }) (record { is = is; moves = moves }) in
    led_plain s _ m₄ next (ap (λ (y : MachineState). length y.heap) is ∙ length-set m.heap o (Some x)) (ap (λ (y : MachineState). kept_of y) is)

pub make_led : (m : MachineState) (t class elements pc : ℕ) (m₁ m₂ m₃ : MachineState) → IsSound (kept_of m) → HasFrame m.guest t
    → m₁ ≡ record m { heap = m.heap ++ Some (new_object class elements elements) ∷ [] } → m₂ ≡ begun m₁
    → m₃ ≡ steps_top m₂ t (replaced 1 (Ref (length m.heap) ∷ []) pc (top m₂.guest t)) (refs_of (take 1 (top m₂.guest t).operands))
    → Led (kept_of m) (record { heap = m.heap ++ Some (new_object class elements elements) ∷ []; guest = with_top (ticked m.guest) t (replaced 1 (Ref (length m.heap) ∷ []) pc (top m.guest t)) }) m₃
make_led m t class elements pc m₁ m₂ m₃ sound has e₁ e₂ e₃ =
    let n : ℕ = length m.heap in
    let y : ObjectState = new_object class elements elements in
    let f : FrameState = top m.guest t in
    let g : FrameState = replaced 1 (Ref n ∷ []) pc f in
    let b : MachineState = begun (record m { heap = m.heap ++ Some y ∷ [] }) in
    let is : m₃ ≡ steps_top b t g (refs_of (take 1 f.operands)) =
    e₃ ∙ ap (λ (x : MachineState). steps_top x t (replaced 1 (Ref n ∷ []) pc (top x.guest t)) (refs_of (take 1 (top x.guest t).operands))) (e₂ ∙ ap begun e₁) in
    let one : (o : ℕ) → Contains (n ∷ []) o → IsHeld b.heap o = λ o c. subst (λ (k : ℕ). IsHeld b.heap k) (newest n o c) (newest_held m.heap y) in
    did_make m t g (refs_of (take 1 f.operands)) y m₃ sound has (leads-new class elements elements) refl
    (record { is = is; moves = moves_held (MayEnter b) (MayBeLost (kept_of m) b) f 1 pc (Ref n ∷ []) one (λ o c. root_there (kept_of m) (kept_of b) o (top_root m.guest t o has c)) })
    (operand_in_frame g n (Contains-here n _))
  where
    newest : (n o : ℕ) → Contains (n ∷ []) o → n ≡ o
    newest n o c = elim (Contains-cons n [] o c) [ inl same ↦ same | inr d ↦ absurd (Contains-none o d) ]
