-- The frames of a thread as they are kept while the topmost one runs.
use Rattle.std.proofs.Common.{◌≡◌, ℕ, ◌+◌, ◌-◌, ◌<◌, ◌≤◌, ◌^◌, List, ◌∷◌, ◌++◌, length, get_or, set, take, drop, reverse, refl, sym, ◌∙◌, ap, subst, arith}
use Rattle.std.proofs.lemmas.List.{length-reverse, length-take-le, length-drop, get_or-reverse, get_or-drop, get_or-take}
use Rattle.et_base.specs.declared.value.Value.{Value}
use Rattle.et_base.specs.declared.value.Value.TheVariants.{Unset}
use Rattle.et_state.specs.Threads.{FrameState, first_frame, rest_of, at_pc, pushed, with_local, operand_of, local_of}
use Rattle.et_state.specs.declared.frames.frame.FrameHead.{FrameHead}
use Rattle.et_state.specs.FrameInside.{frame_in}
use Rattle.et_state.specs.StackInside.{frames_in, AreFrames}
use Rattle.et_state.specs.Running.{RunningState, steps_running}
use Rattle.et_state.specs.RunningInside.{running_of, running_in, IsRunning}
use Rattle.et_state.specs.declared.frames.running.Running.TheInside.{Inside}
use Rattle.et_state.proofs.Stacks.{Keeps, length-frames_in, last_read, keeps_pushed, keeps_local}

-- what is read of the frame that runs, by where its parts stand among the values
pub record IsRead (base floor top limit : ℕ) (values : List Value) (x : RunningState) : Type 0 where
  pub locals : base + length x.frame.locals ≡ floor
  pub operands : floor + length x.frame.operands ≡ top
  pub room : floor + x.frame.room ≡ limit
  pub few : top ≤ limit
  pub fits : limit ≤ length values
  pub narrow : length x.frame.locals < 2 ^ 16
  pub slim : x.frame.room < 2 ^ 16
  pub local : (i : ℕ) → i < length x.frame.locals → local_of x.frame i ≡ get_or values (base + i) Unset
  pub operand : (k : ℕ) → k < length x.frame.operands → operand_of x.frame k ≡ get_or values (top - 1 - k) Unset

-- the values of a frame within those of all frames
local_read : (h : FrameHead) (values : List Value) (top i : ℕ) → i < h.locals → h.base + h.locals ≤ top → get_or (take h.locals (drop h.base (take top values))) i Unset ≡ get_or values (h.base + i) Unset
local_read h values top i lt le =
    get_or-take h.locals (drop h.base (take top values)) i Unset lt
    ∙ (get_or-drop h.base (take top values) i Unset ∙ get_or-take top values (h.base + i) Unset (omega (arith, lt, le)))

operand_read : (h : FrameHead) (values : List Value) (top k : ℕ) → top ≤ length values → k + (h.base + h.locals) < top → get_or (reverse (drop h.locals (drop h.base (take top values)))) k Unset ≡ get_or values (top - 1 - k) Unset
operand_read h values top k le lt =
    let vs : List Value = take top values in
    let own : List Value = drop h.base vs in
    let count : length (drop h.locals own) ≡ top - h.base - h.locals = omega (arith, length-drop h.locals own, length-drop h.base vs, length-take-le top values le) in
    let j : ℕ = length (drop h.locals own) - 1 - k in
    let place : h.base + (h.locals + j) ≡ top - 1 - k = omega (arith, count, lt) in
    get_or-reverse (drop h.locals own) k Unset (omega (arith, count, lt))
    ∙ (get_or-drop h.locals own j Unset ∙ (get_or-drop h.base vs (h.locals + j) Unset
    ∙ (get_or-take top values (h.base + (h.locals + j)) Unset (omega (arith, place, lt)) ∙ ap (λ i. get_or values i Unset) place)))

pub reads : (r : Inside) → IsRunning r → (x : RunningState) → running_in r ≡ x → IsRead r.base r.floor r.top r.limit r.values.items x
reads r is x v =
    let vs : List Value = take r.top r.values.items in
    let h : FrameHead = is.head in
    let own : List Value = drop h.base vs in
    let a : AreFrames (length r.values.items) (h ∷ is.below) vs = subst (λ hs. AreFrames (length r.values.items) hs vs) is.heads is.stacked.frames in
    let w : at_pc r.pc (frame_in h own) ≡ x.frame = ap (λ hs. at_pc r.pc (first_frame (frames_in hs vs))) (sym is.heads) ∙ ap (λ (q : RunningState). q.frame) v in
    let all : length vs ≡ r.top = length-take-le r.top r.values.items is.stacked.within in
    let count : length own ≡ length vs - h.base = length-drop h.base vs in
    let locals : length x.frame.locals ≡ h.locals = ap (λ (f : FrameState). length f.locals) (sym w) ∙ length-take-le h.locals own a.0.frame.locals in
    let operands : length x.frame.operands ≡ length own - h.locals = ap (λ (f : FrameState). length f.operands) (sym w) ∙ (length-reverse (drop h.locals own) ∙ length-drop h.locals own) in
    let room : x.frame.room ≡ h.room = ap (λ (f : FrameState). f.room) (sym w) in
    let inside : h.base + h.locals ≤ r.top = omega (arith, a.0.frame.locals, a.0.base, all, count) in
    record {
      locals = omega (arith, locals, is.base, is.floor);
      operands = omega (arith, operands, count, all, inside, is.floor);
      room = omega (arith, room, is.floor, is.limit);
      few = omega (arith, a.0.frame.few, a.0.base, count, all, is.limit);
      fits = omega (arith, a.0.room, is.limit);
      narrow = omega (arith, locals, is.narrow);
      slim = omega (arith, room, a.0.frame.narrow);
      local = λ i lt. ap (λ (f : FrameState). get_or f.locals i Unset) (sym w) ∙ (local_read h r.values.items r.top i (omega (arith, lt, locals)) inside ∙ ap (λ j. get_or r.values.items (j + i) Unset) (sym is.base));
      operand = λ k lt. ap (λ (f : FrameState). get_or f.operands k Unset) (sym w) ∙ operand_read h r.values.items r.top k is.stacked.within (omega (arith, lt, operands, count, all, inside));
    }

-- there is a frame
pub some_frames : (hs below : List FrameHead) (vs : List Value) (h : FrameHead) → reverse hs ≡ h ∷ below → 0 < length (frames_in (reverse hs) vs)
some_frames hs below vs h e = omega (arith, length-frames_in (reverse hs) vs, ap length e)

-- the frame that runs has made a step
pub moved : (step : FrameState → FrameState) (frames fs : List FrameState) (pc : ℕ) (lost more l : List ℕ) (x : RunningState) → ((f : FrameState) → at_pc pc (step f) ≡ step (at_pc pc f)) → running_of frames pc lost ≡ x → fs ≡ step (first_frame frames) ∷ rest_of frames → more ≡ lost ++ l → running_of fs pc more ≡ steps_running x (step x.frame) l
moved step frames fs pc lost more l x same v e w =
    ap (λ gs. running_of gs pc more) e
    ∙ (ap (λ f. record { frame = f; below = rest_of frames; lost = more }) (same (first_frame frames))
    ∙ (ap (λ ys. record { frame = step (at_pc pc (first_frame frames)); below = rest_of frames; lost = ys }) w
    ∙ ap (λ (r : RunningState). steps_running r (step r.frame) l) v))

-- what is kept after an operand was pushed, and after a local was written
pub run_pushed : (r : Inside) → IsRunning r → (x : RunningState) → running_in r ≡ x → (o : Value) → length x.frame.operands < x.frame.room → Keeps r.heads.items (set r.values.items r.top o) (r.top + 1) (pushed o (first_frame (frames_in (reverse r.heads.items) (take r.top r.values.items))) ∷ rest_of (frames_in (reverse r.heads.items) (take r.top r.values.items)))
run_pushed r is x v o lt =
    let vs : List Value = take r.top r.values.items in
    keeps_pushed r.heads.items r.values.items r.top (frames_in (reverse r.heads.items) vs) o refl is.stacked (some_frames r.heads.items is.below vs is.head is.heads) (subst (λ (q : RunningState). length q.frame.operands < q.frame.room) (sym v) lt)

pub run_local : (r : Inside) → IsRunning r → (x : RunningState) → running_in r ≡ x → (i : ℕ) (o : Value) → i < length x.frame.locals → Keeps r.heads.items (set r.values.items (r.base + i) o) r.top (with_local i o (first_frame (frames_in (reverse r.heads.items) (take r.top r.values.items))) ∷ rest_of (frames_in (reverse r.heads.items) (take r.top r.values.items)))
run_local r is x v i o lt =
    let vs : List Value = take r.top r.values.items in
    let fs : List FrameState = frames_in (reverse r.heads.items) vs in
    subst (λ b. Keeps r.heads.items (set r.values.items (b + i) o) r.top (with_local i o (first_frame fs) ∷ rest_of fs)) (sym is.base)
    (keeps_local r.heads.items r.values.items r.top fs is.head (length r.heads.items - 1) i o refl is.stacked (some_frames r.heads.items is.below vs is.head is.heads) refl (last_read r.heads.items is.below is.head is.heads).1 (subst (λ (q : RunningState). i < length q.frame.locals) (sym v) lt))
