-- Local variables overwritten, and the other half of a long that is cut.
use Rattle.std.proofs.Common.{◌≡◌, ℕ, zero, suc, ◌+◌, ◌<◌, ◌≤◌, true, List, [], ◌∷◌, length, take, drop, ℤ, get_or, set, Option, Some, None, refl, sym, ◌∙◌, ap, subst, arith, Contains, append-nil, inl, inr}
use Rattle.std.proofs.lemmas.List.{length-set}
use Rattle.std.proofs.lemmas.List.Elements.{Contains-append_left, Contains-append_right, Contains-append_cases}
use Rattle.et_heap.proofs.References.{unset_past}
use Rattle.et_base.specs.declared.value.Value.{Value}
use Rattle.et_base.specs.declared.value.Value.TheVariants.{Unset, Int, Long, LongHigh, Null, Ref}
use Rattle.et_base.proofs.Lists.{Contains-none}
use Rattle.et_heap.specs.Refs.{refs_of_value, refs_of}
use Rattle.et_state.specs.Threads.{FrameState, at_pc, popped, with_local, operand_of, local_of}
use Rattle.et_state.specs.ThreadRoots.{frame_roots}
use Rattle.et_state.specs.Running.{RunningState, steps_running}
use Rattle.et_state.specs.Moves.{Moves}
use Rattle.et_state.proofs.Places.{moves_none, moves_left, moves_right, part_contained, frame_pops}
use Rattle.et_event.specs.FrameSteps.{StepsRunning}
use Rattle.et_event.specs.Plain.{freed, one_stored, long_stored, other_half_unset}
use Rattle.et_event.proofs.Groups.{operand_is_in, local_is_in}
use Rattle.et_event.proofs.Taking.{taken_in_frame}
use Rattle.et_ops.specs.Tops.{half_beside, half_of, unset_at, refs_at}
use Rattle.et_ops.proofs.InFrame.{ran, did_begin, did_pop, did_step, did_set_local, did_set_pc, did_steps}

pub same_running : (r : RunningState) → r ≡ steps_running r r.frame []
same_running r = ap (λ (os : List ℕ). ran r r.frame os) (sym (append-nil r.lost))

set_beyond : (xs : List Value) (j : ℕ) (v : Value) → length xs ≤ j → set xs j v ≡ xs
set_beyond [] j v le = refl
set_beyond (x ∷ xs) zero v le = absurd (omega arith)
set_beyond (x ∷ xs) (suc j) v le = ap (λ (ys : List Value). x ∷ ys) (set_beyond xs j v (omega arith))

-- nothing is there to be made unset
pub unset_none : (r : RunningState) (h : Option ℕ) → h ≡ None → r ≡ steps_running r (record r.frame { locals = unset_at h r.frame.locals }) (refs_at h r.frame.locals)
unset_none r h e = subst (λ (x : Option ℕ). r ≡ steps_running r (record r.frame { locals = unset_at x r.frame.locals }) (refs_at x r.frame.locals)) (sym e) (same_running r)

pub unset_beyond : (r : RunningState) (j : ℕ) (h : Option ℕ) → h ≡ Some j → length r.frame.locals ≤ j → r ≡ steps_running r (record r.frame { locals = unset_at h r.frame.locals }) (refs_at h r.frame.locals)
unset_beyond r j h e le =
    let f : FrameState = r.frame in
    let a : r ≡ steps_running r (record f { locals = set f.locals j Unset }) (refs_of_value (get_or f.locals j Unset)) =
    same_running r ∙ (ap (λ (ls : List Value). steps_running r (record f { locals = ls }) []) (sym (set_beyond f.locals j Unset le)) ∙ ap (λ (v : Value). steps_running r (record f { locals = set f.locals j Unset }) (refs_of_value v)) (sym (unset_past f.locals j le))) in
    subst (λ (x : Option ℕ). r ≡ steps_running r (record f { locals = unset_at x f.locals }) (refs_at x f.locals)) (sym e) a

pub unset_there : (r r' : RunningState) (j : ℕ) (h : Option ℕ) → h ≡ Some j → r' ≡ steps_running r (with_local j Unset r.frame) (refs_of_value (local_of r.frame j))
    → r' ≡ steps_running r (record r.frame { locals = unset_at h r.frame.locals }) (refs_at h r.frame.locals)
unset_there r r' j h e is = subst (λ (x : Option ℕ). r' ≡ steps_running r (record r.frame { locals = unset_at x r.frame.locals }) (refs_at x r.frame.locals)) (sym e) is

-- WHAT MOVES

moves_unset : (H R : ℕ → Type 0) (xs : List Value) (j : ℕ) → ((o : ℕ) → Contains (refs_of xs) o → R o) → Moves H R (refs_of xs) (refs_of (set xs j Unset)) (refs_of_value (get_or xs j Unset))
moves_unset H R [] j r = moves_none H R []
moves_unset H R (x ∷ xs) zero r = record {
  on = λ o c. inl (Contains-append_right (refs_of_value x) (refs_of xs) o c);
  off = λ o c. elim (Contains-append_cases (refs_of_value x) (refs_of xs) o c) [ inl d ↦ inr d | inr d ↦ inl d ];
  was = λ o c. r o (Contains-append_left (refs_of_value x) (refs_of xs) o c);
}
moves_unset H R (x ∷ xs) (suc j) r =
    moves_right H R (refs_of xs) (refs_of (set xs j Unset)) (refs_of_value (get_or xs j Unset)) (refs_of_value x) (moves_unset H R xs j (λ o c. r o (Contains-append_right (refs_of_value x) (refs_of xs) o c)))

moves_half : (H R : ℕ → Type 0) (f : FrameState) (h : Option ℕ) → ((o : ℕ) → Contains (refs_of f.locals) o → R o) → Moves H R (frame_roots f) (frame_roots (record f { locals = unset_at h f.locals })) (refs_at h f.locals)
moves_half H R f None r = moves_none H R (frame_roots f)
moves_half H R f (Some j) r = moves_left H R (refs_of f.locals) (refs_of (set f.locals j Unset)) (refs_of_value (get_or f.locals j Unset)) _ (moves_unset H R f.locals j r)

half_is : (i : ℕ) (v : Value) (ls : List Value) → unset_at (half_beside i v) ls ≡ other_half_unset i v ls
half_is i Unset ls = refl
half_is i (Int n) ls = refl
half_is i (Long n) ls = refl
half_is i LongHigh ls = refl
half_is i Null ls = refl
half_is i (Ref o) ls = refl

length_unset : (h : Option ℕ) (ls : List Value) → length (unset_at h ls) ≡ length ls
length_unset None ls = refl
length_unset (Some j) ls = length-set ls j Unset

still_there : (h : Option ℕ) (ls : List Value) (o : ℕ) → Contains (refs_of (unset_at h ls)) o → Contains (refs_of ls) o
still_there None ls o c = c
still_there (Some j) ls o c = elim ((moves_unset (λ (x : ℕ). ⊥) (λ (x : ℕ). Unit {0}) ls j (λ x d. tt)).on o c) [ inl d ↦ d | inr d ↦ absurd d ]

local_left : (f : FrameState) (i : ℕ) (o : ℕ) → i < length f.locals → Contains (refs_of_value (get_or (unset_at (half_of i f.locals) f.locals) i Unset)) o → Contains (frame_roots f) o
local_left f i o lt c =
    let within : i < length (unset_at (half_of i f.locals) f.locals) = subst (λ (n : ℕ). i < n) (sym (length_unset (half_of i f.locals) f.locals)) lt in
    Contains-append_left (refs_of f.locals) _ o (still_there (half_of i f.locals) f.locals o (part_contained refs_of_value Unset (unset_at (half_of i f.locals) f.locals) i o within c))

-- the topmost operand is moved to a local variable
pub moved_steps : (b : RunningState) (i pc : ℕ) (v : Value) (r₁ r₂ r₃ r₄ r₅ : RunningState) → 0 < length b.frame.operands → i < length b.frame.locals
    → r₁.frame ≡ b.frame → r₁.below ≡ b.below → r₁.lost ≡ [] → v ≡ operand_of r₁.frame 0 → r₂ ≡ steps_running r₁ (popped 1 r₁.frame) (refs_of_value (operand_of r₁.frame 0))
    → r₃ ≡ steps_running r₂ (record r₂.frame { locals = unset_at (half_of i r₂.frame.locals) r₂.frame.locals }) (refs_at (half_of i r₂.frame.locals) r₂.frame.locals)
    → r₄ ≡ steps_running r₃ (with_local i v r₃.frame) (refs_of_value (local_of r₃.frame i)) → r₅ ≡ steps_running r₄ (at_pc pc r₄.frame) []
    → StepsRunning (Some (record b.frame { pc = pc; locals = one_stored i (operand_of b.frame 0) b.frame.locals; operands = drop 1 b.frame.operands })) true b r₅
moved_steps b i pc v r₁ r₂ r₃ r₄ r₅ deep within frame below lost is e₂ e₃ e₄ e₅ =
    let f : FrameState = b.frame in
    let R : ℕ → Type 0 = Contains (frame_roots f) in
    let is' : v ≡ operand_of f 0 = is ∙ ap (λ (g : FrameState). operand_of g 0) frame in
    let d0 = did_begin b r₁ frame below lost in
    let d1 = did_pop b f [] r₁ r₂ d0 e₂ deep (operand_is_in f 0 deep) in
    let d2 = did_step (λ g. record g { locals = unset_at (half_of i g.locals) g.locals }) (λ g. refs_at (half_of i g.locals) g.locals) b (popped 1 f) _ r₂ r₃ d1 e₃
    (moves_half R R (popped 1 f) (half_of i f.locals) (λ o c. Contains-append_left (refs_of f.locals) _ o c)) in
    let f2 : FrameState = record (popped 1 f) { locals = unset_at (half_of i f.locals) f.locals } in
    let there : i < length f2.locals = subst (λ (n : ℕ). i < n) (sym (length_unset (half_of i f.locals) f.locals)) within in
    let d3 = did_set_local b f2 _ r₃ r₄ i v d2 e₄ there (λ o c. operand_is_in f 0 deep o (subst (λ (w : Value). Contains (refs_of_value w) o) is' c)) (λ o c. local_left f i o within c) in
    let d4 = did_set_pc b (with_local i v f2) _ r₄ r₅ pc d3 e₅ in
    let whole : StepsRunning (Some (at_pc pc (with_local i v f2))) true b r₅ = did_steps b (at_pc pc (with_local i v f2)) _ r₅ d4 in
    let a : set (unset_at (half_of i f.locals) f.locals) i v ≡ one_stored i (operand_of f 0) f.locals =
    ap (λ (ls : List Value). set ls i v) (half_is i (get_or f.locals i Unset) f.locals) ∙ ap (λ (w : Value). set (freed i f.locals) i w) is' in
    subst (λ (ls : List Value). StepsRunning (Some (record f { pc = pc; locals = ls; operands = drop 1 f.operands })) true b r₅) a whole

set_there : (ls : List Value) (i : ℕ) (v : Value) (o : ℕ) → refs_of_value v ≡ [] → Contains (refs_of (set ls i v)) o → Contains (refs_of ls) o
set_there [] i v o e c = c
set_there (x ∷ xs) zero v o e c =
    elim (Contains-append_cases (refs_of_value v) (refs_of xs) o c) [
      | inl d ↦ absurd (Contains-none o (subst (λ (os : List ℕ). Contains os o) e d))
      | inr d ↦ Contains-append_right (refs_of_value x) (refs_of xs) o d
    ]
set_there (x ∷ xs) (suc i) v o e c =
    elim (Contains-append_cases (refs_of_value x) (refs_of (set xs i v)) o c) [
      | inl d ↦ Contains-append_left (refs_of_value x) (refs_of xs) o d
      | inr d ↦ Contains-append_right (refs_of_value x) (refs_of xs) o (set_there xs i v o e d)
    ]

no_refs : (v : Value) (P : ℕ → Type 0) → refs_of_value v ≡ [] → (o : ℕ) → Contains (refs_of_value v) o → P o
no_refs v P e o c = absurd (Contains-none o (subst (λ (os : List ℕ). Contains os o) e c))

-- a local variable gets a number
pub set_steps : (b : RunningState) (i pc : ℕ) (v : Value) (r₁ r₂ r₃ : RunningState) → refs_of_value v ≡ [] → i < length b.frame.locals
    → r₁.frame ≡ b.frame → r₁.below ≡ b.below → r₁.lost ≡ [] → r₂ ≡ steps_running r₁ (with_local i v r₁.frame) (refs_of_value (local_of r₁.frame i)) → r₃ ≡ steps_running r₂ (at_pc pc r₂.frame) []
    → StepsRunning (Some (record b.frame { pc = pc; locals = set b.frame.locals i v })) true b r₃
set_steps b i pc v r₁ r₂ r₃ none within frame below lost e₂ e₃ =
    let f : FrameState = b.frame in
    let d0 = did_begin b r₁ frame below lost in
    let d1 = did_set_local b f [] r₁ r₂ i v d0 e₂ within (no_refs v (Contains (frame_roots f)) none) (local_is_in f i within) in
    did_steps b (at_pc pc (with_local i v f)) _ r₃ (did_set_pc b (with_local i v f) _ r₂ r₃ pc d1 e₃)

-- a long is moved to two local variables
pub long_steps : (b : RunningState) (i pc : ℕ) (n : ℤ) (r₁ r₂ r₃ r₄ r₅ r₆ r₇ : RunningState) → i + 1 < length b.frame.locals
    → r₁.frame ≡ b.frame → r₁.below ≡ b.below → r₁.lost ≡ [] → r₂ ≡ steps_running r₁ (popped 2 r₁.frame) (refs_of (take 2 r₁.frame.operands))
    → r₃ ≡ steps_running r₂ (record r₂.frame { locals = unset_at (half_of i r₂.frame.locals) r₂.frame.locals }) (refs_at (half_of i r₂.frame.locals) r₂.frame.locals)
    → r₄ ≡ steps_running r₃ (record r₃.frame { locals = unset_at (half_of (i + 1) r₃.frame.locals) r₃.frame.locals }) (refs_at (half_of (i + 1) r₃.frame.locals) r₃.frame.locals)
    → r₅ ≡ steps_running r₄ (with_local i (Long n) r₄.frame) (refs_of_value (local_of r₄.frame i)) → r₆ ≡ steps_running r₅ (with_local (i + 1) LongHigh r₅.frame) (refs_of_value (local_of r₅.frame (i + 1)))
    → r₇ ≡ steps_running r₆ (at_pc pc r₆.frame) [] → StepsRunning (Some (record b.frame { pc = pc; locals = long_stored i n b.frame.locals; operands = drop 2 b.frame.operands })) true b r₇
long_steps b i pc n r₁ r₂ r₃ r₄ r₅ r₆ r₇ within frame below lost e₂ e₃ e₄ e₅ e₆ e₇ =
    let f : FrameState = b.frame in
    let R : ℕ → Type 0 = Contains (frame_roots f) in
    let ls : List Value = f.locals in
    let ls2 : List Value = unset_at (half_of i ls) ls in
    let ls3 : List Value = unset_at (half_of (i + 1) ls2) ls2 in
    let back2 : (o : ℕ) → Contains (refs_of ls2) o → Contains (refs_of ls) o = still_there (half_of i ls) ls in
    let back3 : (o : ℕ) → Contains (refs_of ls3) o → Contains (refs_of ls) o = λ o c. back2 o (still_there (half_of (i + 1) ls2) ls2 o c) in
    let gone : (o : ℕ) → Contains (refs_of ls) o → R o = λ o c. Contains-append_left (refs_of ls) _ o c in
    let f1 : FrameState = popped 2 f in
    let f2 : FrameState = record f1 { locals = ls2 } in
    let f3 : FrameState = record f1 { locals = ls3 } in
    let f4 : FrameState = with_local i (Long n) f3 in
    let long : length ls3 ≡ length ls = length_unset (half_of (i + 1) ls2) ls2 ∙ length_unset (half_of i ls) ls in
    let low : i < length f3.locals = omega arith in
    let long4 : length f4.locals ≡ length ls = length-set ls3 i (Long n) ∙ long in
    let high : i + 1 < length f4.locals = omega arith in
    let d0 = did_begin b r₁ frame below lost in
    let d1 = did_step (popped 2) (λ g. refs_of (take 2 g.operands)) b f [] r₁ r₂ d0 e₂ (frame_pops R R f 2 (taken_in_frame 2 f)) in
    let d2 = did_step (λ g. record g { locals = unset_at (half_of i g.locals) g.locals }) (λ g. refs_at (half_of i g.locals) g.locals) b f1 _ r₂ r₃ d1 e₃ (moves_half R R f1 (half_of i ls) gone) in
    let d3 = did_step (λ g. record g { locals = unset_at (half_of (i + 1) g.locals) g.locals }) (λ g. refs_at (half_of (i + 1) g.locals) g.locals) b f2 _ r₃ r₄ d2 e₄
    (moves_half R R f2 (half_of (i + 1) ls2) (λ o c. gone o (back2 o c))) in
    let d4 = did_set_local b f3 _ r₄ r₅ i (Long n) d3 e₅ low (no_refs (Long n) R refl) (λ o c. gone o (back3 o (part_contained refs_of_value Unset ls3 i o low c))) in
    let d5 = did_set_local b f4 _ r₅ r₆ (i + 1) LongHigh d4 e₆ high (no_refs LongHigh R refl)
    (λ o c. gone o (back3 o (set_there ls3 i (Long n) o refl (part_contained refs_of_value Unset f4.locals (i + 1) o high c)))) in
    let d6 = did_set_pc b (with_local (i + 1) LongHigh f4) _ r₆ r₇ pc d5 e₇ in
    let whole : StepsRunning (Some (at_pc pc (with_local (i + 1) LongHigh f4))) true b r₇ = did_steps b (at_pc pc (with_local (i + 1) LongHigh f4)) _ r₇ d6 in
    let a : ls2 ≡ freed i ls = half_is i (get_or ls i Unset) ls in
    let c : ls3 ≡ freed (i + 1) (freed i ls) = ap (λ (xs : List Value). unset_at (half_of (i + 1) xs) xs) a ∙ half_is (i + 1) (get_or (freed i ls) (i + 1) Unset) (freed i ls) in
    subst (λ (xs : List Value). StepsRunning (Some (record f { pc = pc; locals = set (set xs i (Long n)) (i + 1) LongHigh; operands = drop 2 f.operands })) true b r₇) c whole
