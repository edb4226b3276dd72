-- What an access leaves of the topmost frame.
use Rattle.std.proofs.Common.{◌≡◌, ℕ, ◌+◌, ◌≤◌, List, [], ◌++◌, length, take, drop, ◌∙◌, ap, arith, append-nil, length-append}
use Rattle.et_heap.proofs.References.{few_references}
use Rattle.et_heap.specs.Refs.{refs_of}
use Rattle.et_state.specs.Threads.{FrameState, at_pc, popped}
use Rattle.et_state.specs.State.{MachineState}
use Rattle.et_state.specs.Words.{top, HasFrame, steps_top}
use Rattle.et_state.proofs.Steps.{then_top}
use Rattle.et_refs.specs.Accesses.{replaces}

pub left : (m m₁ m₂ : MachineState) (t taken next : ℕ) → HasFrame m.guest t → m₁ ≡ steps_top m t (popped taken (top m.guest t)) (refs_of (take taken (top m.guest t).operands))
    → m₂ ≡ steps_top m₁ t (at_pc next (top m₁.guest t)) [] → m₂ ≡ replaces t next taken [] m
left m m₁ m₂ t taken next has e₁ e₂ =
    let l : List ℕ = refs_of (take taken (top m.guest t).operands) in
    let f : FrameState = record (top m.guest t) { pc = next; operands = drop taken (top m.guest t).operands } in
    then_top (at_pc next) (λ g. []) m t (popped taken (top m.guest t)) l m₁ m₂ has.thread e₁ e₂ ∙ ap (λ (os : List ℕ). steps_top m t f os) (append-nil l)

pub left_few : (m m₂ : MachineState) (t taken next : ℕ) → m₂ ≡ replaces t next taken [] m → length m₂.lost ≤ length m.lost + taken
left_few m m₂ t taken next e =
    let is : length m₂.lost ≡ length (m.lost ++ refs_of (take taken (top m.guest t).operands)) = ap (λ (n : MachineState). length n.lost) e in
    omega (arith, is, length-append m.lost (refs_of (take taken (top m.guest t).operands)), few_references taken (top m.guest t).operands)
