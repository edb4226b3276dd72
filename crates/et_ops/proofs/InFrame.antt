-- What an instruction has done so far to the frame that runs, call by call, and how it ends.
use Rattle.std.proofs.Common.{◌≡◌, ℕ, suc, ◌+◌, ◌-◌, ◌<◌, ◌≤◌, Bool, true, List, [], ◌∷◌, ◌++◌, length, take, drop, get_or, Some, None, sym, ◌∙◌, ap, subst, arith, Contains, append-nil, append_assoc, drop-cons, drop-drop, inl, inr}
use Rattle.std.proofs.lemmas.Bool.{le-leb}
use Rattle.std.proofs.lemmas.Grind.{flat_map-append}
use Rattle.std.specs.Prelude.{if◌then◌else◌}
use Rattle.et_base.specs.declared.value.Value.{Value}
use Rattle.et_base.specs.declared.value.Value.TheVariants.{Unset}
use Rattle.et_heap.specs.Refs.{refs_of_value, refs_of}
use Rattle.et_state.specs.Threads.{FrameState, at_pc, pushed, popped, with_local, operand_of, local_of}
use Rattle.et_state.specs.ThreadRoots.{frame_roots}
use Rattle.et_state.specs.Running.{RunningState, MovesInFrame, steps_running}
use Rattle.et_state.specs.Moves.{Moves}
use Rattle.et_state.proofs.Places.{moves_none, moves_then, moves_more, moves_left, moves_right, frame_pop, frame_pops, frame_push, frame_set_local}
use Rattle.et_event.specs.FrameSteps.{StepsRunning}
use Rattle.et_event.specs.Plain.{put}
use Rattle.et_event.proofs.Taking.{length_dropped, replaced, taken_in_frame, taken_more}

-- CALL BY CALL

-- the frame of b became f, and these objects were lost
abbrev pub ran : RunningState → FrameState → List ℕ → RunningState
ran b f l = record { frame = f; below = b.below; lost = l }

pub ran_begin : (b r : RunningState) → r.frame ≡ b.frame → r.below ≡ b.below → r.lost ≡ [] → r ≡ ran b b.frame []
ran_begin b r frame below lost =
    ap (λ (f : FrameState). record { frame = f; below = r.below; lost = r.lost }) frame
    ∙ (ap (λ (fs : List FrameState). record { frame = b.frame; below = fs; lost = r.lost }) below
    ∙ ap (λ (os : List ℕ). record { frame = b.frame; below = b.below; lost = os }) lost)

pub ran_step : (step : FrameState → FrameState) (k : FrameState → List ℕ) (b : RunningState) (f : FrameState) (l : List ℕ) (r₁ r₂ : RunningState) → r₁ ≡ ran b f l
    → r₂ ≡ steps_running r₁ (step r₁.frame) (k r₁.frame) → r₂ ≡ ran b (step f) (l ++ k f)
ran_step step k b f l r₁ r₂ e h = h ∙ ap (λ (r : RunningState). steps_running r (step r.frame) (k r.frame)) e

-- .. and nothing stands in it that did not
pub record Did (b : RunningState) (f : FrameState) (l : List ℕ) (r : RunningState) : Type 0 where
  pub is : r ≡ ran b f l
  pub moves : Moves (Contains (frame_roots b.frame)) (Contains (frame_roots b.frame)) (frame_roots b.frame) (frame_roots f) l

pub did_begin : (b r : RunningState) → r.frame ≡ b.frame → r.below ≡ b.below → r.lost ≡ [] → Did b b.frame [] r
did_begin b r frame below lost = record {
  is = ran_begin b r frame below lost;
  moves = moves_none (Contains (frame_roots b.frame)) (Contains (frame_roots b.frame)) (frame_roots b.frame);
}

pub did_step : (step : FrameState → FrameState) (k : FrameState → List ℕ) (b : RunningState) (f : FrameState) (l : List ℕ) (r₁ r₂ : RunningState) → Did b f l r₁
    → r₂ ≡ steps_running r₁ (step r₁.frame) (k r₁.frame) → Moves (Contains (frame_roots b.frame)) (Contains (frame_roots b.frame)) (frame_roots f) (frame_roots (step f)) (k f) → Did b (step f) (l ++ k f) r₂
did_step step k b f l r₁ r₂ d e moves = record {
  is = ran_step step k b f l r₁ r₂ d.is e;
  moves = moves_then (Contains (frame_roots b.frame)) (Contains (frame_roots b.frame)) (frame_roots b.frame) (frame_roots f) (frame_roots (step f)) l (k f) d.moves moves;
}

pub did_set_pc : (b : RunningState) (f : FrameState) (l : List ℕ) (r₁ r₂ : RunningState) (pc : ℕ) → Did b f l r₁ → r₂ ≡ steps_running r₁ (at_pc pc r₁.frame) [] → Did b (at_pc pc f) (l ++ []) r₂
did_set_pc b f l r₁ r₂ pc d e = did_step (at_pc pc) (λ g. []) b f l r₁ r₂ d e (moves_none (Contains (frame_roots b.frame)) (Contains (frame_roots b.frame)) (frame_roots f))

pub did_pop : (b : RunningState) (f : FrameState) (l : List ℕ) (r₁ r₂ : RunningState) → Did b f l r₁ → r₂ ≡ steps_running r₁ (popped 1 r₁.frame) (refs_of_value (operand_of r₁.frame 0))
    → 0 < length f.operands → ((o : ℕ) → Contains (refs_of_value (operand_of f 0)) o → Contains (frame_roots b.frame) o) → Did b (popped 1 f) (l ++ refs_of_value (operand_of f 0)) r₂
did_pop b f l r₁ r₂ d e lt r =
    did_step (popped 1) (λ g. refs_of_value (operand_of g 0)) b f l r₁ r₂ d e (frame_pop (Contains (frame_roots b.frame)) (Contains (frame_roots b.frame)) f lt r)

pub did_set_local : (b : RunningState) (f : FrameState) (l : List ℕ) (r₁ r₂ : RunningState) (i : ℕ) (v : Value) → Did b f l r₁ → r₂ ≡ steps_running r₁ (with_local i v r₁.frame) (refs_of_value (local_of r₁.frame i))
    → i < length f.locals → ((o : ℕ) → Contains (refs_of_value v) o → Contains (frame_roots b.frame) o) → ((o : ℕ) → Contains (refs_of_value (local_of f i)) o → Contains (frame_roots b.frame) o)
    → Did b (with_local i v f) (l ++ refs_of_value (local_of f i)) r₂
did_set_local b f l r₁ r₂ i v d e lt h r =
    did_step (with_local i v) (λ g. refs_of_value (local_of g i)) b f l r₁ r₂ d e (frame_set_local (Contains (frame_roots b.frame)) (Contains (frame_roots b.frame)) f i v lt h r)

-- HOW IT ENDS

pub did_steps : (b : RunningState) (f : FrameState) (l : List ℕ) (r : RunningState) → Did b f l r → StepsRunning (Some f) true b r
did_steps b f l r d =
    let moves : MovesInFrame b.frame f l = record {
      on = λ o c. elim (d.moves.on o c) [ inl e ↦ inl e | inr e ↦ inl e ];
      off = d.moves.off;
      was = d.moves.was;
    } in
    (ap (λ (x : RunningState). x.frame) d.is, ap (λ (x : RunningState). x.below) d.is, subst (λ (os : List ℕ). MovesInFrame b.frame f os) (sym (ap (λ (x : RunningState). x.lost) d.is)) moves)

-- TAKING

pub taken_one : (b : RunningState) (n : ℕ) (f : FrameState) (r₁ r₂ : RunningState) → n < length f.operands → r₁ ≡ steps_running b (popped n f) (refs_of (take n f.operands))
    → r₂ ≡ steps_running r₁ (popped 1 r₁.frame) (refs_of_value (operand_of r₁.frame 0)) → r₂ ≡ steps_running b (popped (n + 1) f) (refs_of (take (n + 1) f.operands))
taken_one b n f r₁ r₂ few e h =
    let one : suc n ≡ n + 1 = omega arith in
    let l : List ℕ = refs_of (take n f.operands) in
    let last : List ℕ = refs_of_value (get_or (drop n f.operands) 0 Unset) in
    ran_step (popped 1) (λ g. refs_of_value (operand_of g 0)) b (popped n f) (b.lost ++ l) r₁ r₂ e h
    ∙ (ap (λ (os : List ℕ). ran b (popped 1 (popped n f)) os) (append_assoc b.lost l last)
    ∙ (ap (λ (ops : List Value). steps_running b (record f { operands = ops }) (l ++ last)) (drop-drop 1 n f.operands)
    ∙ (ap (λ (os : List ℕ). steps_running b (popped (n + 1) f) os) (taken_more f.operands n few)
    ∙ ap (λ (k : ℕ). steps_running b (popped (n + 1) f) (refs_of (take k f.operands))) one)))

-- PUTTING

pub given_one : (b : RunningState) (k : ℕ) (f : FrameState) (vs : List Value) (v : Value) (r₁ r₂ : RunningState) → k < length vs → v ≡ get_or vs (length vs - 1 - k) v
    → r₁ ≡ steps_running b (record f { operands = drop (length vs - k) vs ++ f.operands }) [] → r₂ ≡ steps_running r₁ (pushed v r₁.frame) []
    → r₂ ≡ steps_running b (record f { operands = drop (length vs - (k + 1)) vs ++ f.operands }) []
given_one b k f vs v r₁ r₂ few e h₁ h₂ =
    let n = length vs - 1 - k in
    let a : suc n ≡ length vs - k = omega arith in
    let c : n ≡ length vs - (k + 1) = omega arith in
    let d : v ∷ drop (length vs - k) vs ≡ drop (length vs - (k + 1)) vs =
    ap (λ (w : Value). w ∷ drop (length vs - k) vs) e ∙ (ap (λ (j : ℕ). get_or vs n v ∷ drop j vs) (sym a) ∙ (sym (drop-cons vs n v (omega arith)) ∙ ap (λ (j : ℕ). drop j vs) c)) in
    ran_step (pushed v) (λ g. []) b (record f { operands = drop (length vs - k) vs ++ f.operands }) (b.lost ++ []) r₁ r₂ h₁ h₂
    ∙ (ap (λ (os : List ℕ). ran b (record f { operands = v ∷ drop (length vs - k) vs ++ f.operands }) os) (append-nil (b.lost ++ []))
    ∙ ap (λ (ws : List Value). steps_running b (record f { operands = ws ++ f.operands }) []) d)

-- BOTH

moves_given : (R : ℕ → Type 0) (f : FrameState) (vs : List Value) → ((o : ℕ) → Contains (refs_of vs) o → R o) → Moves R R (frame_roots f) (frame_roots (record f { operands = vs ++ f.operands })) []
moves_given R f vs there =
    moves_right R R _ _ [] (refs_of f.locals) (moves_left R R (refs_of f.operands) (refs_of (vs ++ f.operands)) [] _
    (subst (λ (os : List ℕ). Moves R R (refs_of f.operands) os []) (sym (flat_map-append refs_of_value vs f.operands)) (moves_more R R (refs_of f.operands) (refs_of vs) there)))

pub replaced_steps : (b : RunningState) (n pc : ℕ) (vs : List Value) (r₁ r₂ r₃ r₄ : RunningState) → ((o : ℕ) → Contains (refs_of vs) o → Contains (frame_roots b.frame) o)
    → r₁.frame ≡ b.frame → r₁.below ≡ b.below → r₁.lost ≡ [] → r₂ ≡ steps_running r₁ (popped n r₁.frame) (refs_of (take n r₁.frame.operands))
    → r₃ ≡ steps_running r₂ (record r₂.frame { operands = vs ++ r₂.frame.operands }) [] → r₄ ≡ steps_running r₃ (at_pc pc r₃.frame) [] → StepsRunning (Some (replaced n vs pc b.frame)) true b r₄
replaced_steps b n pc vs r₁ r₂ r₃ r₄ there frame below lost e₂ e₃ e₄ =
    let f : FrameState = b.frame in
    let R : ℕ → Type 0 = Contains (frame_roots f) in
    let taken = did_step (popped n) (λ g. refs_of (take n g.operands)) b f [] r₁ r₂ (did_begin b r₁ frame below lost) e₂ (frame_pops R R f n (taken_in_frame n f)) in
    let given = did_step (λ g. record g { operands = vs ++ g.operands }) (λ g. []) b (popped n f) _ r₂ r₃ taken e₃ (moves_given R (popped n f) vs there) in
    did_steps b (replaced n vs pc f) _ r₄ (did_set_pc b (record f { operands = vs ++ drop n f.operands }) _ r₃ r₄ pc given e₄)

-- ONE PUT, AND NONE

pub pushed_steps : (b : RunningState) (v : Value) (pc : ℕ) (r₁ r₂ r₃ : RunningState) → ((o : ℕ) → Contains (refs_of_value v) o → Contains (frame_roots b.frame) o)
    → r₁.frame ≡ b.frame → r₁.below ≡ b.below → r₁.lost ≡ [] → r₂ ≡ steps_running r₁ (pushed v r₁.frame) [] → r₃ ≡ steps_running r₂ (at_pc pc r₂.frame) []
    → StepsRunning (Some (replaced 0 (v ∷ []) pc b.frame)) true b r₃
pushed_steps b v pc r₁ r₂ r₃ there frame below lost e₂ e₃ =
    let f : FrameState = b.frame in
    let R : ℕ → Type 0 = Contains (frame_roots f) in
    let given = did_step (pushed v) (λ g. []) b f [] r₁ r₂ (did_begin b r₁ frame below lost) e₂ (frame_push R R f v there) in
    did_steps b (replaced 0 (v ∷ []) pc f) _ r₃ (did_set_pc b (pushed v f) _ r₂ r₃ pc given e₃)

pub discarded_steps : (b : RunningState) (n pc : ℕ) (r₁ r₂ r₃ : RunningState) → r₁.frame ≡ b.frame → r₁.below ≡ b.below → r₁.lost ≡ []
    → r₂ ≡ steps_running r₁ (popped n r₁.frame) (refs_of (take n r₁.frame.operands)) → r₃ ≡ steps_running r₂ (at_pc pc r₂.frame) [] → StepsRunning (Some (replaced n [] pc b.frame)) true b r₃
discarded_steps b n pc r₁ r₂ r₃ frame below lost e₂ e₃ =
    let f : FrameState = b.frame in
    let R : ℕ → Type 0 = Contains (frame_roots f) in
    let taken = did_step (popped n) (λ g. refs_of (take n g.operands)) b f [] r₁ r₂ (did_begin b r₁ frame below lost) e₂ (frame_pops R R f n (taken_in_frame n f)) in
    did_steps b (replaced n [] pc f) _ r₃ (did_set_pc b (popped n f) _ r₂ r₃ pc taken e₃)

-- WHETHER THE OPERANDS FIT

pub fits : (pc : ℕ) (ops : List Value) (f : FrameState) → length ops ≤ f.room → put pc ops f ≡ Some (record f { pc = pc; operands = ops })
fits pc ops f le = ap (λ (b : Bool). if b then Some (record f { pc = pc; operands = ops }) else None) (le-leb (length ops) f.room le)

pub fits_below : (pc n : ℕ) (f : FrameState) → n ≤ length f.operands → length f.operands ≤ f.room → put pc (drop n f.operands) f ≡ Some (replaced n [] pc f)
fits_below pc n f few room = let left : length (drop n f.operands) + n ≡ length f.operands = length_dropped f.operands n few in fits pc (drop n f.operands) f (omega arith)

pub fits_one : (pc n : ℕ) (v : Value) (f : FrameState) → 0 < n → n ≤ length f.operands → length f.operands ≤ f.room → put pc (v ∷ drop n f.operands) f ≡ Some (replaced n (v ∷ []) pc f)
fits_one pc n v f some few room = let left : length (drop n f.operands) + n ≡ length f.operands = length_dropped f.operands n few in fits pc (v ∷ drop n f.operands) f (omega arith)
