-- Operands taken and put, one after another.
use Rattle.std.proofs.Common.{◌≡◌, ℕ, zero, suc, ◌+◌, ◌-◌, ◌<◌, ◌≤◌, List, [], ◌∷◌, ◌++◌, length, take, drop, get_or, set, refl, sym, ◌∙◌, ap, subst, arith, Contains, get_or-set_same, append-nil, append_assoc, inl, inr}
use Rattle.std.proofs.lemmas.List.{length-set}
use Rattle.std.proofs.lemmas.List.Elements.{Contains-append_left, Contains-append_right, Contains-append_cases}
use Rattle.et_heap.proofs.References.{refs_append}
use Rattle.et_base.proofs.Lists.{Contains-none}
use Rattle.et_event.specs.Tops.{AreIn}
use Rattle.et_base.specs.declared.value.Value.{Value}
use Rattle.et_base.specs.declared.value.Value.TheVariants.{Unset}
use Rattle.et_heap.specs.Refs.{refs_of_value, refs_of}
use Rattle.et_state.specs.Threads.{FrameState, ThreadState, no_thread, at_pc, pushed, popped, operand_of, with_top_of}
use Rattle.et_state.specs.ThreadRoots.{frame_roots}
use Rattle.et_state.specs.State.{MachineState, kept_of}
use Rattle.et_state.specs.Words.{thread_at, top, with_top, HasFrame, ticked, begun, steps_top}
use Rattle.et_state.specs.Sound.{IsSound}
use Rattle.et_state.specs.Moves.{Moves, Led}
use Rattle.et_state.proofs.Places.{top_root}
use Rattle.et_state.proofs.Steps.{then_top, MayEnter, MayBeLost, did_led, root_there}

pub has_after : (b : MachineState) (t : ℕ) (f : FrameState) (l : List ℕ) (m : MachineState) → HasFrame b.guest t → m ≡ steps_top b t f l → HasFrame m.guest t
has_after b t f l m has e =
    let x : ThreadState = with_top_of (thread_at b.guest t) f in
    let long : t < length (set b.guest.threads t x) = subst (λ (n : ℕ). t < n) (sym (length-set b.guest.threads t x)) has.thread in
    let one : 0 < length x.frames = omega arith in
    let framed : 0 < length (thread_at (with_top b.guest t f) t).frames = subst (λ (y : ThreadState). 0 < length y.frames) (sym (get_or-set_same b.guest.threads t x no_thread has.thread)) one in
    subst (λ (n : MachineState). HasFrame n.guest t) (sym e) (record { thread = long; frame = framed })

-- TAKING

dropped_more : (xs : List Value) (n : ℕ) → drop 1 (drop n xs) ≡ drop (suc n) xs
dropped_more [] zero = refl
dropped_more [] (suc n) = refl
dropped_more (x ∷ xs) zero = refl
dropped_more (x ∷ xs) (suc n) = dropped_more xs n

pub taken_more : (xs : List Value) (n : ℕ) → n < length xs → refs_of (take n xs) ++ refs_of_value (get_or (drop n xs) 0 Unset) ≡ refs_of (take (suc n) xs)
taken_more [] n lt = absurd (omega arith)
taken_more (x ∷ xs) zero lt = sym (append-nil (refs_of_value x))
taken_more (x ∷ xs) (suc n) lt =
    append_assoc (refs_of_value x) (refs_of (take n xs)) (refs_of_value (get_or (drop n xs) 0 Unset)) ∙ ap (λ (os : List ℕ). refs_of_value x ++ os) (taken_more xs n (omega arith))

pub taken_one : (b : MachineState) (t n : ℕ) (f : FrameState) (m₁ m₂ : MachineState) → t < length b.guest.threads → n < length f.operands → m₁ ≡ steps_top b t (popped n f) (refs_of (take n f.operands))
    → m₂ ≡ steps_top m₁ t (popped 1 (top m₁.guest t)) (refs_of_value (operand_of (top m₁.guest t) 0)) → m₂ ≡ steps_top b t (popped (n + 1) f) (refs_of (take (n + 1) f.operands))
taken_one b t n f m₁ m₂ lt few e h =
    let one : suc n ≡ n + 1 = omega arith in
    then_top (popped 1) (λ g. refs_of_value (operand_of g 0)) b t (popped n f) (refs_of (take n f.operands)) m₁ m₂ lt e h
    ∙ (ap (λ (ops : List Value). steps_top b t (record f { operands = ops }) (refs_of (take n f.operands) ++ refs_of_value (get_or (drop n f.operands) 0 Unset))) (dropped_more f.operands n)
    ∙ (ap (λ (os : List ℕ). steps_top b t (popped (suc n) f) os) (taken_more f.operands n few)
    ∙ ap (λ (k : ℕ). steps_top b t (popped k f) (refs_of (take k f.operands))) one))

pub length_dropped : (xs : List Value) (n : ℕ) → n ≤ length xs → length (drop n xs) + n ≡ length xs
length_dropped xs zero le = omega arith
length_dropped [] (suc n) le = absurd (omega arith)
length_dropped (x ∷ xs) (suc n) le = let h : length (drop n xs) + n ≡ length xs = length_dropped xs n (omega arith) in omega arith

-- PUTTING

drop_at : (xs : List Value) (n : ℕ) (d : Value) → n < length xs → drop n xs ≡ get_or xs n d ∷ drop (suc n) xs
drop_at [] n d lt = absurd (omega arith)
drop_at (x ∷ xs) zero d lt = refl
drop_at (x ∷ xs) (suc n) d lt = drop_at xs n d (omega arith)

pub given_one : (b : MachineState) (t k : ℕ) (f : FrameState) (vs : List Value) (v : Value) (m₁ m₂ : MachineState) → t < length b.guest.threads → k < length vs → v ≡ get_or vs (length vs - 1 - k) v
    → m₁ ≡ steps_top b t (record f { operands = drop (length vs - k) vs ++ f.operands }) [] → m₂ ≡ steps_top m₁ t (pushed v (top m₁.guest t)) []
    → m₂ ≡ steps_top b t (record f { operands = drop (length vs - (k + 1)) vs ++ f.operands }) []
given_one b t k f vs v m₁ m₂ lt few e h₁ h₂ =
    let n = length vs - 1 - k in
    let a : suc n ≡ length vs - k = omega arith in
    let c : n ≡ length vs - (k + 1) = omega arith in
    let d : v ∷ drop (length vs - k) vs ≡ drop (length vs - (k + 1)) vs =
    ap (λ (w : Value). w ∷ drop (length vs - k) vs) e ∙ (ap (λ (j : ℕ). get_or vs n v ∷ drop j vs) (sym a) ∙ (sym (drop_at vs n v (omega arith)) ∙ ap (λ (j : ℕ). drop j vs) c)) in
    then_top (pushed v) (λ g. []) b t (record f { operands = drop (length vs - k) vs ++ f.operands }) [] m₁ m₂ lt h₁ h₂
    ∙ ap (λ (ws : List Value). steps_top b t (record f { operands = ws ++ f.operands }) []) d

-- BOTH

pub are_in : (f : FrameState) (vs : List Value) → AreIn f vs → (o : ℕ) → Contains (refs_of vs) o → Contains (frame_roots f) o
are_in f [] h o c = absurd (Contains-none o c)
are_in f (v ∷ vs) h o c = elim (Contains-append_cases (refs_of_value v) (refs_of vs) o c) [ inl d ↦ h.0 o d | inr d ↦ are_in f vs h.1 o d ]

pub taken_or_left : (xs : List Value) (n : ℕ) → refs_of xs ≡ refs_of (take n xs) ++ refs_of (drop n xs)
taken_or_left xs zero = refl
taken_or_left [] (suc n) = refl
taken_or_left (x ∷ xs) (suc n) = ap (λ (os : List ℕ). refs_of_value x ++ os) (taken_or_left xs n) ∙ sym (append_assoc (refs_of_value x) (refs_of (take n xs)) (refs_of (drop n xs)))

-- the frame after n operands were taken and these put in their place
abbrev pub replaced : ℕ → List Value → ℕ → FrameState → FrameState
replaced n vs pc f = record f { pc = pc; operands = vs ++ drop n f.operands }

pub operand_in_frame : (f : FrameState) (o : ℕ) → Contains (refs_of f.operands) o → Contains (frame_roots f) o
operand_in_frame f o c = Contains-append_right (refs_of f.locals) _ o (Contains-append_left (refs_of f.operands) _ o c)

pub taken_in_frame : (n : ℕ) (f : FrameState) (o : ℕ) → Contains (refs_of (take n f.operands)) o → Contains (frame_roots f) o
taken_in_frame n f o c = operand_in_frame f o (subst (λ (os : List ℕ). Contains os o) (sym (taken_or_left f.operands n)) (Contains-append_left (refs_of (take n f.operands)) _ o c))

pub moves_replaced : (m : MachineState) (t n pc : ℕ) (vs : List Value) → HasFrame m.guest t → ((o : ℕ) → Contains (refs_of vs) o → Contains (frame_roots (top m.guest t)) o)
    → Moves (MayEnter (begun m)) (MayBeLost (kept_of m) (begun m)) (frame_roots (top m.guest t)) (frame_roots (replaced n vs pc (top m.guest t))) (refs_of (take n (top m.guest t).operands))
moves_replaced m t n pc vs has there =
    let f = top m.guest t in
    record {
      on = λ o c. elim (Contains-append_cases (refs_of f.locals) _ o c) [
        | inl d ↦ inl (Contains-append_left (refs_of f.locals) _ o d)
        | inr d ↦ elim (Contains-append_cases (refs_of (vs ++ drop n f.operands)) _ o d) [
          | inl e ↦ elim (Contains-append_cases (refs_of vs) (refs_of (drop n f.operands)) o (subst (λ (os : List ℕ). Contains os o) (refs_append vs (drop n f.operands)) e)) [
            | inl h ↦ inl (there o h)
            | inr h ↦ inl (operand_in_frame f o (subst (λ (os : List ℕ). Contains os o) (sym (taken_or_left f.operands n)) (Contains-append_right (refs_of (take n f.operands)) _ o h)))
          ]
          | inr e ↦ inl (Contains-append_right (refs_of f.locals) _ o (Contains-append_right (refs_of f.operands) _ o e))
        ]
      ];
      off = λ o c. elim (Contains-append_cases (refs_of f.locals) _ o c) [
        | inl d ↦ inl (Contains-append_left (refs_of f.locals) _ o d)
        | inr d ↦ elim (Contains-append_cases (refs_of f.operands) _ o d) [
          | inl e ↦ elim (Contains-append_cases (refs_of (take n f.operands)) (refs_of (drop n f.operands)) o (subst (λ (os : List ℕ). Contains os o) (taken_or_left f.operands n) e)) [
            | inl h ↦ inr h
            | inr h ↦ inl (operand_in_frame (replaced n vs pc f) o (subst (λ (os : List ℕ). Contains os o) (sym (refs_append vs (drop n f.operands))) (Contains-append_right (refs_of vs) _ o h)))
          ]
          | inr e ↦ inl (Contains-append_right (refs_of f.locals) _ o (Contains-append_right (refs_of (vs ++ drop n f.operands)) _ o e))
        ]
      ];
      was = λ o c. root_there (kept_of m) (kept_of (begun m)) o (top_root m.guest t o has (taken_in_frame n f o c));
    }

pub replaced_led : (m : MachineState) (t n pc : ℕ) (vs : List Value) (m₁ m₂ m₃ m₄ : MachineState) → IsSound (kept_of m) → HasFrame m.guest t
    → ((o : ℕ) → Contains (refs_of vs) o → Contains (frame_roots (top m.guest t)) o) → m₁ ≡ begun m
    → m₂ ≡ steps_top m₁ t (popped n (top m₁.guest t)) (refs_of (take n (top m₁.guest t).operands))
    → m₃ ≡ steps_top m₂ t (record (top m₂.guest t) { operands = vs ++ (top m₂.guest t).operands }) [] → m₄ ≡ steps_top m₃ t (at_pc pc (top m₃.guest t)) []
    → Led (kept_of m) (record { heap = m.heap; guest = with_top (ticked m.guest) t (replaced n vs pc (top m.guest t)) }) m₄
replaced_led m t n pc vs m₁ m₂ m₃ m₄ sound has there e₁ e₂ e₃ e₄ =
    let b : MachineState = begun m in
    let f : FrameState = top m.guest t in
    let l : List ℕ = refs_of (take n f.operands) in
    let is₂ : m₂ ≡ steps_top b t (popped n f) l = e₂ ∙ ap (λ (x : MachineState). steps_top x t (popped n (top x.guest t)) (refs_of (take n (top x.guest t).operands))) e₁ in
    let is₃ = then_top (λ g. record g { operands = vs ++ g.operands }) (λ g. []) b t (popped n f) l m₂ m₃ has.thread is₂ e₃ in
    let is₄ = then_top (at_pc pc) (λ g. []) b t (record f { operands = vs ++ drop n f.operands }) (l ++ []) m₃ m₄ has.thread is₃ e₄ in
    let same : (l ++ []) ++ [] ≡ l = append-nil (l ++ []) ∙ append-nil l in
    let is : m₄ ≡ steps_top b t (replaced n vs pc f) l = is₄ ∙ ap (λ (os : List ℕ). steps_top b t (replaced n vs pc f) os) same in
    did_led m t (replaced n vs pc f) l m₄ sound has (record { is = is; moves = moves_replaced m t n pc vs has there })
