-- The frames of a thread: the topmost one changes, one is entered, one is left.
use Rattle.std.proofs.Common.{◌≡◌, ℕ, ◌-◌, ◌<◌, ◌≤◌, ◌↔◌, Bool, true, false, List, [], ◌∷◌, ◌++◌, length, replicate, Option, Some, None, Result, Ok, refl, sym, ◌∙◌, ap, subst, inl, inr, arith}
use Rattle.std.specs.Prelude.{IsSome, if◌then◌else◌, unwrap_or}
use Rattle.std.proofs.lemmas.Bool.{cases_lt, false≢true, true≢false}
use Rattle.std.proofs.lemmas.List.{length-append, length-drop, length-replicate}
use Rattle.et_state.proofs.Steps.{with_first}
use Rattle.et_base.specs.declared.value.Value.{Value}
use Rattle.et_base.specs.declared.value.Value.TheVariants.{Unset}
use Rattle.et_class.specs.Names.{has}
use Rattle.et_class.specs.declared.flags.TheConstants.{SYNCHRONIZED}
use Rattle.et_code.specs.Bodies.{Body}
use Rattle.et_code.specs.Decoding.{instruction_at}
use Rattle.et_code.specs.Starts.{IsStart, Begins, Follows}
use Rattle.et_code.specs.declared.instr.CodeFault.{CodeFault}
use Rattle.et_code.specs.declared.instr.Instr.{Instr}
use Rattle.et_code.proofs.Decoded.{decoded_fits}
use Rattle.et_program.specs.Entries.{Linked, method_at, is_static}
use Rattle.et_state.specs.declared.stage.Stage.{Stage}
use Rattle.et_state.specs.declared.stage.Stage.TheVariants.{Plain, Before, Clinit}
use Rattle.et_state.specs.Threads.{FrameState, ThreadState, first_frame, rest_of, with_top_of, popped, locals_with, in_clinit, clinit_stage, most_frames}
use Rattle.et_state.specs.State.{Kept}
use Rattle.et_state.specs.Words.{thread_at, top, with_top, HasFrame}
use Rattle.et_event.specs.Frames.{first_reference, method_frame, behind_or, frames_after_return}
use Rattle.et_event.specs.Initialization.{initializer_frame}
use Rattle.et_event.specs.Sites.{present_body, code_of_frame, decoded_at, running_method}
use Rattle.et_event.specs.Sound.{IsPc, RunsMethod, IsVoid, returned_of, IsStaged, IsCaller, IsAbove, AreSoundFrames}
use Rattle.et_event.specs.Operands.{returned_width}
use Rattle.et_history.specs.soundness.WellFormed.{IsWellFormed, KeepsFrame, MayTake}
use Rattle.et_history.proofs.soundness.Threads.{guest_now, with_thread_well, may_have_frames}
use Rattle.et_event.proofs.Running.{starts_there}

-- THE PC

-- the place behind an instruction is one of the code
pub behind_pc : (b : Body) (pc : ℕ) (x : Instr × ℕ) → IsStart b.code pc → instruction_at b.code pc ≡ Ok x → IsPc b x.1
behind_pc b pc x s e =
    let fits = decoded_fits b.code pc x.0 x.1 e in
    elim (cases_lt x.1 (length b.code)) [
      | inl lt ↦ inl (Follows pc x.0 x.1 s e lt)
      | inr le ↦ let same : x.1 ≡ length b.code = omega (arith, fits.within) in inr same
    ]

pub next_pc : (b : Body) (pc : ℕ) (x : Instr × ℕ) → IsPc b pc → instruction_at b.code pc ≡ Ok x → IsPc b x.1
next_pc b pc x there e = behind_pc b pc x (starts_there b pc x there e) e

pub first_pc : (b : Body) → IsPc b 0
first_pc b =
    elim (cases_lt 0 (length b.code)) [
      | inl lt ↦ inl (Begins lt)
      | inr le ↦ let none : 0 ≡ length b.code = omega arith in inr none
    ]

-- THE TOPMOST FRAME: with another pc, other locals and other operands

abbrev with_parts : FrameState → ℕ → List Value → List Value → FrameState
with_parts f pc locals operands = record f { pc = pc; locals = locals; operands = operands }

runs_still : (p : Linked) (f : FrameState) (m pc : ℕ) (locals operands : List Value) → (r : RunsMethod p f m) → IsPc r.body pc → length locals ≡ length f.locals → length operands ≤ f.room
    → RunsMethod p (with_parts f pc locals operands) m
runs_still p f m pc locals operands r there same few =
    record { method = r.method; body = r.body; code = r.code; pc = there; room = r.room; locals = same ∙ r.locals; operands = few }

-- the code of the frame is that of its method
body_is : (p : Linked) (f : FrameState) (m : ℕ) → f.method ≡ Some m → (r : RunsMethod p f m) → code_of_frame p f ≡ r.body
body_is p f m named r = ap (λ (o : Option ℕ). present_body (method_at p (unwrap_or o 0)).code) named ∙ ap present_body r.code

pc_of_body : (p : Linked) (f : FrameState) (m pc : ℕ) → f.method ≡ Some m → (r : RunsMethod p f m) → IsPc (code_of_frame p f) pc → IsPc r.body pc
pc_of_body p f m pc named r there = subst (λ (b : Body). IsPc b pc) (body_is p f m named r) there

staged_still : (p : Linked) (f : FrameState) (stage : Stage) (method : Option ℕ) (pc : ℕ) (locals operands : List Value) → f.method ≡ method → IsPc (code_of_frame p f) pc → length locals ≡ length f.locals → length operands ≤ f.room
    → IsStaged p f stage method → (method ≡ None → ⊥) → IsStaged p (with_parts f pc locals operands) stage method
staged_still p f Plain (Some m) pc locals operands named there same few h some = (runs_still p f m pc locals operands h.0 (pc_of_body p f m pc named h.0 there) same few, h.1)
staged_still p f Plain None pc locals operands named there same few h some = h
staged_still p f (Before c) (Some m) pc locals operands named there same few h some = h
staged_still p f (Before c) None pc locals operands named there same few h some = absurd (some refl)
staged_still p f (Clinit c) (Some m) pc locals operands named there same few h some = (h.0, runs_still p f m pc locals operands h.1 (pc_of_body p f m pc named h.1 there) same few, h.2, h.3)
staged_still p f (Clinit c) None pc locals operands named there same few h some = h

above_still : (p : Linked) (f : FrameState) (stage : Stage) (below : List FrameState) (pc : ℕ) (locals operands : List Value) → IsAbove p f stage below → IsAbove p (with_parts f pc locals operands) stage below
above_still p f Plain [] pc locals operands h = h
above_still p f Plain (g ∷ below) pc locals operands h =
    record { runs = h.runs; decoded = h.decoded; at = h.at; kind = h.kind; call = h.call; member = h.member; names = h.names; descriptor = h.descriptor; fits = h.fits }
above_still p f (Before c) below pc locals operands h = tt
above_still p f (Clinit c) below pc locals operands h = tt

pub frames_still : (p : Linked) (f f' : FrameState) (below : List FrameState) → KeepsFrame p f f' → AreSoundFrames p (f ∷ below) → AreSoundFrames p (f' ∷ below)
frames_still p f f' below k h =
    let x : FrameState = with_parts f f'.pc f'.locals f'.operands in
    let sound : AreSoundFrames p (x ∷ below) =
    (staged_still p f f.stage f.method f'.pc f'.locals f'.operands refl k.pc k.locals k.operands h.0 k.runs, above_still p f f.stage below f'.pc f'.locals f'.operands h.1, h.2) in
    subst (λ (y : FrameState). AreSoundFrames p (y ∷ below)) (sym k.same) sound

pub top_well : (p : Linked) (s : Kept) (t : ℕ) (f' : FrameState) → IsWellFormed p s → HasFrame s.guest t → KeepsFrame p (top s.guest t) f' → IsWellFormed p (guest_now s (with_top s.guest t f'))
top_well p s t f' h has k =
    let x : ThreadState = thread_at s.guest t in
    let fs : List FrameState = x.frames in
    let was = h.threads t has.thread in
    let e : first_frame fs ∷ rest_of fs ≡ fs = with_first fs has.frame in
    let few : length (f' ∷ rest_of fs) ≤ most_frames = subst (λ (gs : List FrameState). length gs ≤ most_frames) (sym e) was.few_frames in
    with_thread_well p s t (with_top_of x f') h has.thread
    (may_have_frames p s t (f' ∷ rest_of fs) h has.thread (frames_still p (first_frame fs) f' (rest_of fs) k (subst (λ (gs : List FrameState). AreSoundFrames p gs) (sym e) was.frames)) few)

-- what a frame of a method is
pub record RunsSome (p : Linked) (f : FrameState) : Type 0 where
  pub method : ℕ
  pub named : f.method ≡ Some method
  pub runs : RunsMethod p f method

runs_by : (p : Linked) (f : FrameState) (stage : Stage) (method : Option ℕ) → f.method ≡ method → (method ≡ None → ⊥) → IsStaged p f stage method → RunsSome p f
runs_by p f Plain (Some m) e some h = record { method = m; named = e; runs = h.0 }
runs_by p f Plain None e some h = absurd h
runs_by p f (Before c) (Some m) e some h = absurd h
runs_by p f (Before c) None e some h = absurd (some refl)
runs_by p f (Clinit c) (Some m) e some h = record { method = m; named = e; runs = h.1 }
runs_by p f (Clinit c) None e some h = absurd h

pub runs_some : (p : Linked) (f : FrameState) (below : List FrameState) → (f.method ≡ None → ⊥) → AreSoundFrames p (f ∷ below) → RunsSome p f
runs_some p f below some h = runs_by p f f.stage f.method refl some h.0

pub pc_there : (p : Linked) (f : FrameState) → RunsSome p f → IsPc (code_of_frame p f) f.pc
pc_there p f r = subst (λ (b : Body). IsPc b f.pc) (sym (body_is p f r.method r.named r.runs)) r.runs.pc

-- operands are taken from a frame that stays where it is
pub popped_keeps : (p : Linked) (f : FrameState) (n : ℕ) → (f.method ≡ None → ⊥) → RunsSome p f → KeepsFrame p f (popped n f)
popped_keeps p f n some r = record { same = refl; runs = some; pc = pc_there p f r; locals = refl; operands = omega (arith, length-drop n f.operands, r.runs.operands) }

-- .. and it goes on behind its instruction, with other operands
pub behind_keeps : (p : Linked) (f : FrameState) (x : Instr × ℕ) (operands : List Value) → (f.method ≡ None → ⊥) → RunsSome p f → decoded_at p f ≡ Ok x → length operands ≤ f.room → KeepsFrame p f (record f { pc = x.1; operands = operands })
behind_keeps p f x operands some r e few = record { same = refl; runs = some; pc = next_pc (code_of_frame p f) f.pc x (pc_there p f r) e; locals = refl; operands = few }

-- A FRAME IS ENTERED

length-locals_with : (n : ℕ) (vs : List Value) → length vs ≤ n → length (locals_with n vs) ≡ n
length-locals_with n vs le = omega (arith, length-append vs (replicate (n - length vs) Unset), length-replicate (n - length vs) Unset)

locked_by : (sync static : Bool) (r : Option ℕ) → (static ≡ false → IsSome r) → IsSome (if sync then (if static then None else r) else None) ↔ ((sync ≡ true) × (static ≡ false))
locked_by true true r h = (λ i. absurd (false≢true i), λ e. absurd (true≢false e.1))
locked_by true false r h = (λ i. (refl, refl), λ e. h refl)
locked_by false static r h = (λ i. absurd (false≢true i), λ e. absurd (false≢true e.0))

method_staged : (p : Linked) (m : ℕ) (body : Body) (arguments : List Value) → MayTake p m body arguments → IsStaged p (method_frame p m body arguments) Plain (Some m)
method_staged p m body arguments may =
    let none : 0 ≤ body.max_stack = omega arith in
    let runs : RunsMethod p (method_frame p m body arguments) m = record { method = may.method; body = body; code = may.code; pc = first_pc body; room = refl; locals = length-locals_with body.max_locals arguments may.few; operands = none } in
    (runs, locked_by (has (method_at p m).flags SYNCHRONIZED) (is_static p m) (first_reference arguments) may.receiver)

-- .. below which the caller stands at its call
pub call_frames : (p : Linked) (m : ℕ) (body : Body) (arguments : List Value) (f : FrameState) (below : List FrameState) → MayTake p m body arguments → IsCaller p f (method_frame p m body arguments) → AreSoundFrames p (f ∷ below) → AreSoundFrames p (method_frame p m body arguments ∷ f ∷ below)
call_frames p m body arguments f below may caller h = (method_staged p m body arguments may, caller, h)

-- .. and the lowest one
pub first_frames : (p : Linked) (m : ℕ) (body : Body) (arguments : List Value) → MayTake p m body arguments → IsVoid p (method_frame p m body arguments) → AreSoundFrames p (method_frame p m body arguments ∷ [])
first_frames p m body arguments may void = (method_staged p m body arguments may, void, tt)

-- an initializer begins
pub initializer_frames : (p : Linked) (c : ℕ) (fs : List FrameState) → c < length p.classes → AreSoundFrames p fs → AreSoundFrames p (initializer_frame c ∷ fs)
initializer_frames p c fs lt h = ((lt, record { locals = refl; operands = refl }, refl), tt, h)

-- .. and enters <clinit>

before_is : (p : Linked) (f : FrameState) (c : ℕ) (method : Option ℕ) → IsStaged p f (Before c) method → (c < length p.classes) × (f.lock ≡ None)
before_is p f c (Some m) h = absurd h
before_is p f c None h = (h.0, h.2)

pub clinit_frames : (p : Linked) (c m : ℕ) (body : Body) (f : FrameState) (below : List FrameState) → f.stage ≡ Before c → m < length p.methods → (method_at p m).code ≡ Some body → IsVoid p (in_clinit m body.max_stack body.max_locals f) → AreSoundFrames p (f ∷ below)
    → AreSoundFrames p (in_clinit m body.max_stack body.max_locals f ∷ below)
clinit_frames p c m body f below stage lt code void h =
    let x : FrameState = in_clinit m body.max_stack body.max_locals f in
    let none : 0 ≤ body.max_stack = omega arith in
    let zero_le : 0 ≤ body.max_locals = omega arith in
    let was = before_is p f c f.method (subst (λ (st : Stage). IsStaged p f st f.method) stage h.0) in
    let runs : RunsMethod p x m = record { method = lt; body = body; code = code; pc = first_pc body; room = refl; locals = length-locals_with body.max_locals [] zero_le; operands = none } in
    let staged : IsStaged p x (Clinit c) (Some m) = (was.0, runs, was.1, void) in
    let sound : IsStaged p x (Clinit c) (Some m) × IsAbove p x (Clinit c) below × AreSoundFrames p below = (staged, tt, h.2) in
    subst (λ (st : Stage). IsStaged p x st (Some m) × IsAbove p x st below × AreSoundFrames p below) (sym (ap (λ (st : Stage). clinit_stage st) stage)) sound

-- A FRAME IS LEFT

pub left_frames : (p : Linked) (fs : List FrameState) → AreSoundFrames p fs → AreSoundFrames p (rest_of fs)
left_frames p [] h = tt
left_frames p (f ∷ below) h = h.2

pub fewer_frames : (fs : List FrameState) (n : ℕ) → length fs ≤ n → length (rest_of fs) ≤ n
fewer_frames [] n le = le
fewer_frames (f ∷ below) n le = omega arith

-- it returns: its caller, if any, runs a method, and what is returned has the width of its type
returned_to : (p : Linked) (f : FrameState) (stage : Stage) (values : List Value) (below : List FrameState) → IsAbove p f stage below → (stage ≡ Plain → length values ≤ returned_width (returned_of (running_method p f)))
    → AreSoundFrames p below → AreSoundFrames p (frames_after_return p stage values below)
returned_to p f Plain values [] above few h = tt
returned_to p f Plain values (g ∷ below) above few h =
    let some : g.method ≡ None → ⊥ = above.runs in
    let r : RunsSome p g = runs_some p g below some h in
    let there : KeepsFrame p g (record g { pc = above.decoded.1; operands = values ++ g.operands }) =
    behind_keeps p g above.decoded (values ++ g.operands) some r above.at (omega (arith, length-append values g.operands, few refl, above.fits)) in
    subst (λ (pc : ℕ). AreSoundFrames p (record g { pc = pc; operands = values ++ g.operands } ∷ below)) (sym (ap (λ (d : Result (Instr × ℕ) CodeFault). behind_or g.pc d) above.at)) (frames_still p g _ below there h)
returned_to p f (Before c) values below above few h = h
returned_to p f (Clinit c) values below above few h = h

pub returned_frames : (p : Linked) (f : FrameState) (values : List Value) (below : List FrameState) → AreSoundFrames p (f ∷ below) → (f.stage ≡ Plain → length values ≤ returned_width (returned_of (running_method p f)))
    → AreSoundFrames p (frames_after_return p f.stage values below)
returned_frames p f values below h few = returned_to p f f.stage values below h.1 few h.2

pub length-resumed : (p : Linked) (stage : Stage) (values : List Value) (below : List FrameState) → length (frames_after_return p stage values below) ≡ length below
length-resumed p Plain values [] = refl
length-resumed p Plain values (g ∷ below) = refl
length-resumed p (Before c) values below = refl
length-resumed p (Clinit c) values below = refl
