-- The event in which a handler is entered.
use Rattle.std.proofs.Common.{◌≡◌, ℕ, ◌+◌, ◌<◌, ◌≤◌, ◌^◌, List, [], ◌∷◌, ◌++◌, length, Some, None, option_to_list, sym, ◌∙◌, ap, subst, arith, Contains, get_or-set_same, set-set, append-nil, inl, inr}
use Rattle.std.proofs.lemmas.List.{length-set, length-append}
use Rattle.std.proofs.lemmas.List.Elements.{Contains-append_left, Contains-append_right}
use Rattle.et_heap.proofs.Places.{at_most_one}
use Rattle.et_heap.proofs.References.{one_reference}
use Rattle.et_base.specs.declared.value.Value.{Value}
use Rattle.et_base.specs.declared.value.Value.TheVariants.{Ref}
use Rattle.et_base.proofs.Lists.{Contains-cons, Contains-none}
use Rattle.et_heap.specs.Objects.{IsHeld}
use Rattle.et_heap.specs.Refs.{refs_of, refs_of_value}
use Rattle.et_state.specs.Threads.{FrameState, ThreadState, no_thread, at_pc, pushed, without_operands, with_pending, with_top_of, lost_room}
use Rattle.et_state.specs.ThreadRoots.{frame_roots}
use Rattle.et_state.specs.State.{GuestState, Kept, MachineState, kept_of}
use Rattle.et_state.specs.Words.{thread_at, with_thread, top, HasFrame, ticked, begun, steps_thread, steps_top}
use Rattle.et_state.specs.Sound.{IsSound}
use Rattle.et_state.specs.Moves.{IsOnWay, Led}
use Rattle.et_state.proofs.Places.{pending_root, top_root}
use Rattle.et_state.proofs.Calls.{on_begin_event, on_take_pending}
use Rattle.et_state.proofs.Steps.{Did, did_begin, did_clear_operands, did_push, did_set_pc, did_on_way, led_plain, root_there}
use Rattle.et_event.specs.Throw.{handled}
use Rattle.et_throw.specs.Unwinding.{handled_state}
use Rattle.et_throw.proofs.Turning.{pending_held}

-- an event that changed the topmost frame, and then takes what is pending
pub taken_led : (m : MachineState) (t : ℕ) (f : FrameState) (l : List ℕ) (m₁ m₂ : MachineState) → IsSound (kept_of m) → HasFrame m.guest t → Did (kept_of m) (begun m) t f l m₁
    → m₂ ≡ steps_thread m₁ t (with_pending None (thread_at m₁.guest t)) (option_to_list (thread_at m₁.guest t).pending)
    → Led (kept_of m) (record { heap = m.heap; guest = with_thread (ticked m.guest) t (with_pending None (with_top_of (thread_at m.guest t) f)) }) m₂
taken_led m t f l m₁ m₂ sound has d e =
    let s : Kept = kept_of m in
    let x : ThreadState = with_top_of (thread_at m.guest t) f in
    let b : MachineState = steps_top (begun m) t f l in
    let w : IsOnWay s b = subst (λ (n : MachineState). IsOnWay s n) d.is (did_on_way s (begun m) t f l m₁ (on_begin_event m sound) (record { thread = has.thread; frame = has.frame }) d) in
    let here : thread_at b.guest t ≡ x = get_or-set_same m.guest.threads t x no_thread has.thread in
    let long : t < length b.guest.threads = subst (λ (n : ℕ). t < n) (sym (length-set m.guest.threads t x)) has.thread in
    let next : IsOnWay s (steps_thread b t (with_pending None (thread_at b.guest t)) (option_to_list (thread_at b.guest t).pending)) =
    on_take_pending s b t w long (λ q c. root_there s (kept_of b) q (pending_root m.guest t q has.thread (subst (λ (z : ThreadState). Contains (option_to_list z.pending) q) here c))) in
    let is : m₂ ≡ steps_thread b t (with_pending None (thread_at b.guest t)) (option_to_list (thread_at b.guest t).pending) =
    e ∙ ap (λ (n : MachineState). steps_thread n t (with_pending None (thread_at n.guest t)) (option_to_list (thread_at n.guest t).pending)) d.is in
    let same : with_thread b.guest t (with_pending None (thread_at b.guest t)) ≡ with_thread (ticked m.guest) t (with_pending None x) =
    ap (λ (z : ThreadState). with_thread b.guest t (with_pending None z)) here ∙ ap (λ (zs : List ThreadState). record (ticked m.guest) { threads = zs }) (set-set m.guest.threads t x (with_pending None x)) in
    led_plain s _ m₂ (subst (λ (n : MachineState). IsOnWay s n) (sym is) next) (ap (λ (n : MachineState). length n.heap) is)
    (ap (λ (n : MachineState). kept_of n) is ∙ ap (λ (k : GuestState). record { heap = m.heap; guest = k }) same)

pub handled_led : (m : MachineState) (t o handler : ℕ) (m₁ m₂ m₃ m₄ m₅ : MachineState) → IsSound (kept_of m) → HasFrame m.guest t → (thread_at m.guest t).pending ≡ Some o → m₁ ≡ begun m
    → m₂ ≡ steps_top m₁ t (without_operands (top m₁.guest t)) (refs_of (top m₁.guest t).operands) → m₃ ≡ steps_top m₂ t (pushed (Ref o) (top m₂.guest t)) [] → m₄ ≡ steps_top m₃ t (at_pc handler (top m₃.guest t)) []
    → m₅ ≡ steps_thread m₄ t (with_pending None (thread_at m₄.guest t)) (option_to_list (thread_at m₄.guest t).pending)
    → Led (kept_of m) (handled_state m t o handler) m₅
handled_led m t o handler m₁ m₂ m₃ m₄ m₅ sound has pending e₁ e₂ e₃ e₄ e₅ =
    let s : Kept = kept_of m in
    let b : MachineState = begun m in
    let f : FrameState = top m.guest t in
    let framed : HasFrame b.guest t = record { thread = has.thread; frame = has.frame } in
    let d₁ = did_begin s m t m₁ has e₁ in
    let d₂ = did_clear_operands s b t f [] m₁ m₂ framed d₁ e₂ (λ q c. root_there s (kept_of b) q (top_root m.guest t q has (Contains-append_right (refs_of f.locals) _ q (Contains-append_left (refs_of f.operands) _ q c)))) in
    let held : IsHeld m.heap o = pending_held s t o sound has.thread pending in
    let d₃ = did_push s b t (without_operands f) ([] ++ refs_of f.operands) m₂ m₃ (Ref o) framed d₂ e₃ (λ q c. elim (Contains-cons o [] q c) [ inl same ↦ subst (λ (k : ℕ). IsHeld m.heap k) same held | inr more ↦ absurd (Contains-none q more) ]) in
    let d₄ = did_set_pc s b t (pushed (Ref o) (without_operands f)) (([] ++ refs_of f.operands) ++ []) m₃ m₄ handler framed d₃ e₄ in
    taken_led m t (handled f handler o) ((([] ++ refs_of f.operands) ++ []) ++ []) m₄ m₅ sound has d₄ e₅

-- WHAT IT LOSES

refs_are_few : (vs : List Value) → length (refs_of vs) ≤ length vs
refs_are_few [] = omega arith
refs_are_few (v ∷ vs) =
    let one : length (refs_of_value v) ≤ 1 = one_reference v in
    let rest : length (refs_of vs) ≤ length vs = refs_are_few vs in
    let all : length (refs_of_value v ++ refs_of vs) ≡ length (refs_of_value v) + length (refs_of vs) = length-append _ _ in
    omega arith

pub roots_are_few : (f : FrameState) → length f.locals + length f.operands < 2 ^ 17 → length (frame_roots f) ≤ 2 ^ 17
roots_are_few f small =
    let locals : length (refs_of f.locals) ≤ length f.locals = refs_are_few f.locals in
    let operands : length (refs_of f.operands) ≤ length f.operands = refs_are_few f.operands in
    let lock : length (option_to_list f.lock) ≤ 1 = at_most_one f.lock in
    let all : length (frame_roots f) ≡ length (refs_of f.locals) + length (refs_of f.operands ++ option_to_list f.lock) = length-append _ _ in
    let rest : length (refs_of f.operands ++ option_to_list f.lock) ≡ length (refs_of f.operands) + length (option_to_list f.lock) = length-append _ _ in
    omega arith

pub handled_loses : (m : MachineState) (t o handler : ℕ) (m₁ m₂ m₃ m₄ : MachineState) → length (top m.guest t).operands < 2 ^ 17 → m₁ ≡ begun m
    → m₂ ≡ steps_top m₁ t (without_operands (top m₁.guest t)) (refs_of (top m₁.guest t).operands) → m₃ ≡ steps_top m₂ t (pushed (Ref o) (top m₂.guest t)) [] → m₄ ≡ steps_top m₃ t (at_pc handler (top m₃.guest t)) []
    → length m₄.lost < lost_room
handled_loses m t o handler m₁ m₂ m₃ m₄ small e₁ e₂ e₃ e₄ =
    let ops : List Value = (top m.guest t).operands in
    let l₂ : m₂.lost ≡ refs_of ops = ap (λ (n : MachineState). n.lost) e₂ ∙ ap (λ (n : MachineState). n.lost ++ refs_of (top n.guest t).operands) e₁ in
    let l₃ : m₃.lost ≡ refs_of ops = ap (λ (n : MachineState). n.lost) e₃ ∙ (append-nil m₂.lost ∙ l₂) in
    let l₄ : m₄.lost ≡ refs_of ops = ap (λ (n : MachineState). n.lost) e₄ ∙ (append-nil m₃.lost ∙ l₃) in
    let few : length (refs_of ops) ≤ length ops = refs_are_few ops in
    subst (λ (os : List ℕ). length os < lost_room) (sym l₄) (omega arith)
