-- An event that takes its arguments and gives an object that it made.
use Rattle.std.proofs.Common.{◌≡◌, ℕ, List, [], ◌∷◌, ◌++◌, length, take, Some, refl, sym, ap, subst, ◌∙◌, append-nil, Contains, inl, inr}
use Rattle.et_base.proofs.Lists.{Contains-none, Contains-here, Contains-cons}
use Rattle.std.proofs.lemmas.List.Elements.{Contains-append_left, Contains-append_right}
use Rattle.et_base.specs.declared.value.Value.TheVariants.{Ref}
use Rattle.et_heap.specs.Objects.{ObjectState, IsHeld, new_object}
use Rattle.et_heap.specs.Refs.{refs_of}
use Rattle.et_heap.proofs.HeapLists.{held_push}
use Rattle.et_state.specs.Moves.{Led, Moves}
use Rattle.et_state.specs.Sound.{IsSound}
use Rattle.et_state.specs.State.{MachineState, kept_of}
use Rattle.et_state.specs.ThreadRoots.{frame_roots}
use Rattle.et_state.specs.Threads.{FrameState, at_pc, popped, pushed}
use Rattle.et_state.specs.Words.{HasFrame, begun, steps_top, ticked, top, with_new_object, with_top}
use Rattle.et_state.proofs.Places.{leads-new, top_root}
use Rattle.et_state.proofs.Steps.{Did, MayBeLost, MayEnter, did_make, did_push, newest_held, root_there, then_top}
use Rattle.et_event.proofs.Taking.{moves_replaced, replaced, taken_in_frame}

-- the arguments that are taken are lost, and stood in the frame before the object was made
moves_made : (m : MachineState) (t n pc : ℕ) (y : ObjectState) → HasFrame m.guest t
    → Moves (MayEnter (begun (with_new_object m y))) (MayBeLost (kept_of m) (begun (with_new_object m y))) (frame_roots (top m.guest t)) (frame_roots (replaced n [] pc (top m.guest t))) (refs_of (take n (top m.guest t).operands))
moves_made m t n pc y has =
    let h = moves_replaced m t n pc [] has (λ o c. absurd (Contains-none o c)) in
    record {
      on = λ o c. elim (h.on o c) [ inl d ↦ inl d | inr held ↦ inr (held_push m.heap y o held) ];
      off = h.off;
      was = λ o c. root_there (kept_of m) (kept_of (begun (with_new_object m y))) o (top_root m.guest t o has (taken_in_frame n (top m.guest t) o c));
    }

-- the object stands in the frame
here : (f : FrameState) (o : ℕ) → Contains (frame_roots (pushed (Ref o) f)) o
here f o = Contains-append_right (refs_of f.locals) _ o (Contains-append_left (refs_of (Ref o ∷ f.operands)) _ o (Contains-here o (refs_of f.operands)))

pub made_given : (m : MachineState) (t n pc o class slots : ℕ) (m₁ m₂ m₃ m₄ m₅ : MachineState) → IsSound (kept_of m) → HasFrame m.guest t → m₁ ≡ with_new_object m (new_object class 0 slots) → o ≡ length m.heap
    → m₂ ≡ begun m₁ → m₃ ≡ steps_top m₂ t (popped n (top m₂.guest t)) (refs_of (take n (top m₂.guest t).operands)) → m₄ ≡ steps_top m₃ t (at_pc pc (top m₃.guest t)) []
    → m₅ ≡ steps_top m₄ t (pushed (Ref o) (top m₄.guest t)) []
    → Led (kept_of m) (record { heap = m.heap ++ Some (new_object class 0 slots) ∷ []; guest = with_top (ticked m.guest) t (pushed (Ref o) (replaced n [] pc (top m.guest t))) }) m₅
made_given m t n pc o class slots m₁ m₂ m₃ m₄ m₅ sound has e₁ named e₂ e₃ e₄ e₅ =
    let y : ObjectState = new_object class 0 slots in
    let b : MachineState = begun (with_new_object m y) in
    let f₀ : FrameState = top m.guest t in
    let f : FrameState = replaced n [] pc f₀ in
    let l : List ℕ = refs_of (take n (top m.guest t).operands) in
    let has₂ : HasFrame b.guest t = record { thread = has.thread; frame = has.frame } in
    let is₃ : m₃ ≡ steps_top b t (popped n f₀) l =
    e₃ ∙ ap (λ (x : MachineState). steps_top x t (popped n (top x.guest t)) (refs_of (take n (top x.guest t).operands))) (e₂ ∙ ap (λ (x : MachineState). begun x) e₁) in
    let is₄ : m₄ ≡ steps_top b t f l = then_top (at_pc pc) (λ g. []) b t (popped n f₀) l m₃ m₄ has.thread is₃ e₄ ∙ ap (λ (os : List ℕ). steps_top b t f os) (append-nil l) in
    let d₄ : Did (kept_of m) b t f l m₄ = record { is = is₄; moves = moves_made m t n pc y has } in
    let held : (q : ℕ) → Contains (o ∷ []) q → MayEnter b q =
    λ q c. elim (Contains-cons o [] q c) [
      | inl e ↦ subst (IsHeld b.heap) (sym named ∙ e) (newest_held m.heap y)
      | inr d ↦ absurd (Contains-none q d)
    ] in
    let d₅ = did_push (kept_of m) b t f l m₄ m₅ (Ref o) has₂ d₄ e₅ held in
    did_make m t (pushed (Ref o) f) (l ++ []) y m₅ sound has (leads-new class 0 slots) refl d₅ (subst (λ (k : ℕ). Contains (frame_roots (pushed (Ref o) f)) k) named (here f o))
