-- A frame that is dropped, and the one below it that goes on.
use Rattle.std.proofs.Common.{◌≡◌, ℕ, zero, suc, ◌+◌, ◌<◌, ◌≤◌, List, [], ◌∷◌, ◌++◌, length, get_or, set, refl, sym, ◌∙◌, ap, subst, arith, get_or-set_same, set-set, append-nil}
use Rattle.std.proofs.lemmas.List.{length-set}
use Rattle.et_base.specs.declared.value.Value.{Value}
use Rattle.et_state.specs.declared.stage.Stage.{Stage}
use Rattle.et_state.specs.declared.stage.Stage.TheVariants.{Plain}
use Rattle.et_state.specs.ThreadRoots.{frame_roots}
use Rattle.et_state.specs.Threads.{FrameState, ThreadState, no_thread, at_pc, first_frame, rest_of, without_top}
use Rattle.et_state.specs.State.{MachineState}
use Rattle.et_state.specs.Words.{thread_at, top, HasFrame, steps_top, steps_thread}
use Rattle.et_state.proofs.Steps.{then_top}
use Rattle.et_program.specs.Entries.{Linked}
use Rattle.et_event.specs.Frames.{next_place_of, resumed, frames_after_return}
use Rattle.et_calls.specs.Returned.{FitsBelow}

pub resumed_once : (m : MachineState) (t pc : ℕ) (vs : List Value) (m₁ m₂ : MachineState) → HasFrame m.guest t → m₁ ≡ steps_top m t (record (top m.guest t) { operands = vs ++ (top m.guest t).operands }) []
    → m₂ ≡ steps_top m₁ t (at_pc pc (top m₁.guest t)) [] → m₂ ≡ steps_top m t (record (top m.guest t) { pc = pc; operands = vs ++ (top m.guest t).operands }) []
resumed_once m t pc vs m₁ m₂ has e h = then_top (at_pc pc) (λ g. []) m t (record (top m.guest t) { operands = vs ++ (top m.guest t).operands }) [] m₁ m₂ has.thread e h

set_itself : (xs : List ThreadState) (t : ℕ) (d : ThreadState) → set xs t (get_or xs t d) ≡ xs
set_itself [] t d = refl
set_itself (x ∷ xs) zero d = refl
set_itself (x ∷ xs) (suc t) d = ap (λ (ys : List ThreadState). x ∷ ys) (set_itself xs t d)

pub itself : (m : MachineState) (t : ℕ) → m ≡ steps_thread m t (thread_at m.guest t) []
itself m t =
    ap (λ (xs : List ThreadState). record m { guest = record m.guest { threads = xs } }) (sym (set_itself m.guest.threads t no_thread))
    ∙ ap (λ (os : List ℕ). record (steps_thread m t (thread_at m.guest t) []) { lost = os }) (sym (append-nil m.lost))

resumed_none : (p : Linked) (vs : List Value) (fs : List FrameState) → length fs ≡ 0 → resumed p vs fs ≡ fs
resumed_none p vs [] e = refl
resumed_none p vs (f ∷ fs) e = absurd (omega arith)

pub stays : (p : Linked) (vs : List Value) (m : MachineState) (t : ℕ) → length (thread_at m.guest t).frames ≡ 0
    → m ≡ steps_thread m t (record (thread_at m.guest t) { frames = resumed p vs (thread_at m.guest t).frames }) []
stays p vs m t e = itself m t ∙ ap (λ (fs : List FrameState). steps_thread m t (record (thread_at m.guest t) { frames = fs }) []) (sym (resumed_none p vs (thread_at m.guest t).frames e))

resumed_first : (p : Linked) (vs : List Value) (fs : List FrameState) → 0 < length fs → record (first_frame fs) { pc = next_place_of p (first_frame fs); operands = vs ++ (first_frame fs).operands } ∷ rest_of fs ≡ resumed p vs fs
resumed_first p vs [] lt = absurd (omega arith)
resumed_first p vs (f ∷ fs) lt = refl

pub resumes : (p : Linked) (vs : List Value) (m : MachineState) (t : ℕ) (m' : MachineState) → HasFrame m.guest t
    → m' ≡ steps_top m t (record (top m.guest t) { pc = next_place_of p (top m.guest t); operands = vs ++ (top m.guest t).operands }) []
    → m' ≡ steps_thread m t (record (thread_at m.guest t) { frames = resumed p vs (thread_at m.guest t).frames }) []
resumes p vs m t m' has e = e ∙ ap (λ (fs : List FrameState). steps_thread m t (record (thread_at m.guest t) { frames = fs }) []) (resumed_first p vs (thread_at m.guest t).frames has.frame)

fits_first : (vs : List Value) (fs : List FrameState) → 0 < length fs → FitsBelow Plain vs fs → length vs + length (first_frame fs).operands ≤ (first_frame fs).room
fits_first vs [] lt h = absurd (omega arith)
fits_first vs (f ∷ fs) lt h = h

pub fits_top : (vs : List Value) (m : MachineState) (t : ℕ) → 0 < length (thread_at m.guest t).frames → FitsBelow Plain vs (thread_at m.guest t).frames → length vs + length (top m.guest t).operands ≤ (top m.guest t).room
fits_top vs m t lt h = fits_first vs (thread_at m.guest t).frames lt h

-- a thread that changes, and changes again
pub then_thread : (F : ThreadState → ThreadState) (b : MachineState) (t : ℕ) (x : ThreadState) (l : List ℕ) (m₁ m₂ : MachineState) → t < length b.guest.threads
    → m₁ ≡ steps_thread b t x l → m₂ ≡ steps_thread m₁ t (F (thread_at m₁.guest t)) [] → m₂ ≡ steps_thread b t (F x) l
then_thread F b t x l m₁ m₂ lt e h =
    let c : MachineState = steps_thread b t x l in
    h ∙ (ap (λ (z : MachineState). steps_thread z t (F (thread_at z.guest t)) []) e
    ∙ (ap (λ (y : ThreadState). steps_thread c t (F y) []) (get_or-set_same b.guest.threads t x no_thread lt)
    ∙ (ap (λ (xs : List ThreadState). record c { guest = record b.guest { threads = xs }; lost = (b.lost ++ l) ++ [] }) (set-set b.guest.threads t x (F x))
    ∙ ap (λ (os : List ℕ). record (steps_thread b t (F x) l) { lost = os }) (append-nil (b.lost ++ l)))))

pub thread_after : (b : MachineState) (t : ℕ) (x : ThreadState) (l : List ℕ) (m : MachineState) → t < length b.guest.threads → m ≡ steps_thread b t x l → thread_at m.guest t ≡ x
thread_after b t x l m lt e = ap (λ (z : MachineState). thread_at z.guest t) e ∙ get_or-set_same b.guest.threads t x no_thread lt

pub started_after : (b : MachineState) (t : ℕ) (x : ThreadState) (l : List ℕ) (m : MachineState) → t < length b.guest.threads → m ≡ steps_thread b t x l → t < length m.guest.threads
started_after b t x l m lt e = subst (λ (z : MachineState). t < length z.guest.threads) (sym e) (subst (λ (n : ℕ). t < n) (sym (length-set b.guest.threads t x)) lt)

pub dropped : (p : Linked) (stage : Stage) (vs : List Value) (m : MachineState) (t : ℕ) (m₁ m₂ : MachineState) → HasFrame m.guest t → m₁ ≡ steps_thread m t (without_top (thread_at m.guest t)) (frame_roots (top m.guest t))
    → m₂ ≡ steps_thread m₁ t (record (thread_at m₁.guest t) { frames = frames_after_return p stage vs (thread_at m₁.guest t).frames }) []
    → m₂ ≡ steps_thread m t (record (thread_at m.guest t) { frames = frames_after_return p stage vs (rest_of (thread_at m.guest t).frames) }) (frame_roots (top m.guest t))
dropped p stage vs m t m₁ m₂ has e h = then_thread (λ x. record x { frames = frames_after_return p stage vs x.frames }) m t (without_top (thread_at m.guest t)) (frame_roots (top m.guest t)) m₁ m₂ has.thread e h

pub fits_dropped : (stage : Stage) (vs : List Value) (m : MachineState) (t : ℕ) (m₁ : MachineState) → HasFrame m.guest t → m₁ ≡ steps_thread m t (without_top (thread_at m.guest t)) (frame_roots (top m.guest t))
    → FitsBelow stage vs (rest_of (thread_at m.guest t).frames) → FitsBelow stage vs (thread_at m₁.guest t).frames
fits_dropped stage vs m t m₁ has e h = subst (λ (x : ThreadState). FitsBelow stage vs x.frames) (sym (thread_after m t (without_top (thread_at m.guest t)) (frame_roots (top m.guest t)) m₁ has.thread e)) h
