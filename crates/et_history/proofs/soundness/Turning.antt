-- The event of a thread that has not ended, by its turn.
use Rattle.std.proofs.Common.{◌≡◌, ℕ, ◌<◌, ◌^◌, Bool, true, false, List, [], ◌∷◌, length, Option, Some, None, Ok, refl, sym, subst}
use Rattle.std.specs.Prelude.{pos, if◌then◌else◌}
use Rattle.std.specs.Option.{is_some}
use Rattle.std.proofs.lemmas.Bool.{true≢false}
use Rattle.et_event.proofs.Running.{some_frame}
use Rattle.et_state.proofs.Steps.{with_first}
use Rattle.et_base.specs.declared.value.Value.TheVariants.{Ref}
use Rattle.et_code.specs.declared.body.TableRow.{TableRow}
use Rattle.et_code.specs.declared.instr.Instr.{Instr}
use Rattle.et_program.specs.Entries.{Linked}
use Rattle.et_state.specs.declared.stage.Stage.{Stage}
use Rattle.et_state.specs.declared.stage.Stage.TheVariants.{Plain, Before, Clinit}
use Rattle.et_state.specs.declared.stage.Turn.{Turn}
use Rattle.et_state.specs.declared.stage.Turn.TheVariants.{Unwind, EndThread, Entry, Initialize, Instruction}
use Rattle.et_state.specs.Threads.{FrameState, ThreadState, turn_of, has_frame, is_before_class, top_of, rest_of}
use Rattle.et_state.specs.State.{Kept}
use Rattle.et_state.specs.Words.{HasFrame, IsUnended}
use Rattle.et_state.specs.Outcome.{Outcome}
use Rattle.et_event.specs.declared.errors.GuestError.TheVariants.{ExceptionInInitializerError}
use Rattle.et_event.specs.Event.{initializes, does_turn, event}
use Rattle.et_event.specs.Moments.{Moment, thread_of, current_frame, begins, object_class}
use Rattle.et_event.specs.Sites.{Site, site_of, decoded_at, running_method, code_of_frame, pool_of_class}
use Rattle.et_event.specs.Sound.{IsPc, IsStaged, AreSoundFrames, IsSoundFor}
use Rattle.et_event.specs.Throw.{catches, handler_of, unwound, unwound_clinit, by_handler, unwinds, unwinding_step}
use Rattle.et_history.specs.soundness.Outcomes.{KeepsSound}
use Rattle.et_history.specs.soundness.WellFormed.{IsUnderWayAt, StandsAt}
use Rattle.et_history.proofs.soundness.Frames.{RunsSome, runs_some, pc_there, next_pc}
use Rattle.et_history.proofs.soundness.Initializers.{step_sound}
use Rattle.et_history.proofs.soundness.Outcomes.{begins_well}
use Rattle.et_history.proofs.soundness.Steps.{end_sound, handler_pc, caught_sound, unwound_before, unwound_clinit_sound, unwound_sound}
use Rattle.et_event.specs.Runnable.{IsRunnable}
use Rattle.et_history.proofs.soundness.Beginning.{entry_sound}
use Rattle.et_history.proofs.soundness.Instructions.{kept_here, instruction_sound}

-- THE TURN

pub record HasParts (pending has before entered : Bool) (turn : Turn) : Type 0 where
  pub unwind : turn ≡ Unwind → has ≡ true
  pub entry : turn ≡ Entry → has ≡ false
  pub initialize : turn ≡ Initialize → has ≡ true
  pub instruction : turn ≡ Instruction → (has ≡ true) × (before ≡ false)

parts_of : (pending has before entered : Bool) → HasParts pending has before entered (if pending then (if has then Unwind else EndThread) else (if has then (if before then Initialize else Instruction) else (if entered then EndThread else Entry)))
parts_of true true before entered = record { unwind = λ e. refl; entry = λ e. cc; initialize = λ e. refl; instruction = λ e. cc }
parts_of true false before entered = record { unwind = λ e. cc; entry = λ e. refl; initialize = λ e. cc; instruction = λ e. cc }
parts_of false true true entered = record { unwind = λ e. refl; entry = λ e. cc; initialize = λ e. refl; instruction = λ e. cc }
parts_of false true false entered = record { unwind = λ e. refl; entry = λ e. cc; initialize = λ e. refl; instruction = λ e. (refl, refl) }
parts_of false false before true = record { unwind = λ e. cc; entry = λ e. refl; initialize = λ e. cc; instruction = λ e. cc }
parts_of false false before false = record { unwind = λ e. cc; entry = λ e. refl; initialize = λ e. cc; instruction = λ e. cc }

pub parts : (x : ThreadState) → HasParts (is_some x.pending) (has_frame x.frames) (is_before_class (top_of x).stage) x.entered (turn_of x)
parts x = parts_of (is_some x.pending) (has_frame x.frames) (is_before_class (top_of x).stage) x.entered

pub no_frame : (fs : List FrameState) → has_frame fs ≡ false → fs ≡ []
no_frame [] e = refl
no_frame (f ∷ fs) e = absurd (true≢false e)

-- A THREAD IN A SOUND STATE

pub record HasTurn (e : Moment) : Type 0 where
  pub sound : IsSoundFor e.program e.before
  pub clock : e.before.guest.clock < 2 ^ 40
  pub unended : IsUnended e.before.guest e.thread

framed : (e : Moment) → HasTurn e → has_frame (thread_of e).frames ≡ true → HasFrame e.before.guest e.thread
framed e is has = record { thread = is.unended.thread; frame = some_frame (thread_of e).frames has }

frames_are : (e : Moment) → HasTurn e → HasFrame e.before.guest e.thread → AreSoundFrames e.program (current_frame e ∷ rest_of (thread_of e).frames)
frames_are e is has = subst (λ (fs : List FrameState). AreSoundFrames e.program fs) (sym (with_first (thread_of e).frames has.frame)) (is.sound.threads e.thread has.thread).frames

staged : (e : Moment) (stage : Stage) → HasTurn e → HasFrame e.before.guest e.thread → (current_frame e).stage ≡ stage → IsStaged e.program (current_frame e) stage (current_frame e).method
staged e stage is has named = subst (λ (s : Stage). IsStaged e.program (current_frame e) s (current_frame e).method) named (frames_are e is has).0

beginning : (e : Moment) → HasTurn e → IsUnderWayAt e (begins e)
beginning e is = record { well = begins_well e.program e is.sound is.clock; thread = is.unended.thread }

-- a frame that isn't before its initializer runs a method
pub runs_by : (p : Linked) (f : FrameState) (stage : Stage) (method : Option ℕ) → IsStaged p f stage method → is_before_class stage ≡ false → method ≡ None → ⊥
runs_by p f Plain (Some m) h b e = cc
runs_by p f Plain None h b e = h
runs_by p f (Before c) method h b e = true≢false b
runs_by p f (Clinit c) (Some m) h b e = cc
runs_by p f (Clinit c) None h b e = h

pub class_by : (p : Linked) (f : FrameState) (c : ℕ) (method : Option ℕ) → IsStaged p f (Before c) method → c < length p.classes
class_by p f c (Some m) h = absurd h
class_by p f c None h = h.0

clinit_class : (p : Linked) (f : FrameState) (c : ℕ) (method : Option ℕ) → IsStaged p f (Clinit c) method → c < length p.classes
clinit_class p f c (Some m) h = h.0
clinit_class p f c None h = absurd h

-- THE INSTRUCTION, where there is a frame that runs a method

-- the place of a frame at which so much is decoded, whatever the instruction is
stands : (e : Moment) (at : Site) → HasTurn e → HasFrame e.before.guest e.thread → (runs : (current_frame e).method ≡ None → ⊥) → (RunsSome e.program (current_frame e) → IsPc (code_of_frame e.program (current_frame e)) at.next) → StandsAt e at
stands e at is has runs next =
    let some : RunsSome e.program (current_frame e) = runs_some e.program (current_frame e) (rest_of (thread_of e).frames) runs (frames_are e is has) in
    record { sound = is.sound; clock = is.clock; frame = has; runs = runs; operands = some.runs.operands; next = next some }

pub stands_at : (e : Moment) → HasTurn e → turn_of (thread_of e) ≡ Instruction → (x : Instr × ℕ) → decoded_at e.program (current_frame e) ≡ Ok x → StandsAt e (site_of e.program (current_frame e) x)
stands_at e is turn x decoded =
    let p : Linked = e.program in
    let f : FrameState = current_frame e in
    let h = (parts (thread_of e)).instruction turn in
    let has : HasFrame e.before.guest e.thread = framed e is h.0 in
    let runs : f.method ≡ None → ⊥ = runs_by p f f.stage f.method (staged e f.stage is has refl) h.1 in
    stands e (site_of p f x) is has runs (λ some. next_pc (code_of_frame p f) f.pc x (pc_there p f some) decoded)

instructs : (e : Moment) → IsRunnable e.program → HasTurn e → turn_of (thread_of e) ≡ Instruction → KeepsSound e.program (does_turn e Instruction)
instructs e may is turn = instruction_sound e (λ x decoded. stands_at e is turn x decoded) may

-- UNWINDING

-- a handler is entered, or the frame goes
handles : (e : Moment) (o : ℕ) (gone : Outcome Kept) → IsRunnable e.program → HasTurn e → HasFrame e.before.guest e.thread → ((current_frame e).method ≡ None → ⊥) → KeepsSound e.program gone
    → KeepsSound e.program (by_handler e o gone (handler_of e.program (current_frame e) (object_class (begins e) o)))
handles e o gone may is has runs h = by (handler_of e.program (current_frame e) (object_class (begins e) o)) refl
  where
    some : RunsSome e.program (current_frame e)
    some = runs_some e.program (current_frame e) (rest_of (thread_of e).frames) runs (frames_are e is has)

    by : (r : Option TableRow) → handler_of e.program (current_frame e) (object_class (begins e) o) ≡ r → KeepsSound e.program (by_handler e o gone r)
    by None q = h
    by (Some row) q =
        let kept = kept_here e.program (current_frame e) some may in
        let place : Site = record { instr = record { opcode = 0; wide = false; first = pos 0; second = pos 0; table = 0 }; next = (current_frame e).pc; code = []; pool = []; class = 0 } in
        caught_sound e place o row.handler (stands e place is has runs (λ r. pc_there e.program (current_frame e) r))
        (handler_pc (code_of_frame e.program (current_frame e)) kept.0 (catches e.program (pool_of_class e.program (running_method e.program (current_frame e)).class) (current_frame e).pc (object_class (begins e) o)) row kept.1 q)

unwinds_sound : (e : Moment) (o : ℕ) (stage : Stage) → IsRunnable e.program → HasTurn e → HasFrame e.before.guest e.thread → (current_frame e).stage ≡ stage → KeepsSound e.program (unwinds e o stage)
unwinds_sound e o Plain may is has stage =
    handles e o (unwound e o) may is has (runs_by e.program (current_frame e) Plain (current_frame e).method (staged e Plain is has stage) refl) (unwound_sound e o is.sound is.clock has stage)
unwinds_sound e o (Before c) may is has stage =
    unwound_before e c o may.makes (may.errors ExceptionInInitializerError 1 (Ref o)) (class_by e.program (current_frame e) c (current_frame e).method (staged e (Before c) is has stage)) (beginning e is)
unwinds_sound e o (Clinit c) may is has stage =
    handles e o (unwound_clinit e c o) may is has (runs_by e.program (current_frame e) (Clinit c) (current_frame e).method (staged e (Clinit c) is has stage) refl)
    (unwound_clinit_sound e c o may.makes (may.errors ExceptionInInitializerError 1 (Ref o)) (clinit_class e.program (current_frame e) c (current_frame e).method (staged e (Clinit c) is has stage)) (beginning e is))

unwinding_sound : (e : Moment) (pending : Option ℕ) → IsRunnable e.program → HasTurn e → HasFrame e.before.guest e.thread → KeepsSound e.program (unwinding_step e pending)
unwinding_sound e None may is has = tt
unwinding_sound e (Some o) may is has = unwinds_sound e o (current_frame e).stage may is has refl

-- A STEP OF AN INITIALIZER

initializes_sound : (e : Moment) (stage : Stage) → IsRunnable e.program → HasTurn e → HasFrame e.before.guest e.thread → (current_frame e).stage ≡ stage → KeepsSound e.program (initializes e stage)
initializes_sound e Plain may is has stage = tt
initializes_sound e (Before c) may is has stage = step_sound e c is.sound is.clock has stage (class_by e.program (current_frame e) c (current_frame e).method (staged e (Before c) is has stage)) may.initializers may.makes
initializes_sound e (Clinit c) may is has stage = tt

-- THE EVENT

turn_sound : (e : Moment) (turn : Turn) → IsRunnable e.program → HasTurn e → turn_of (thread_of e) ≡ turn → KeepsSound e.program (does_turn e turn)
turn_sound e Unwind may is turn = unwinding_sound e (thread_of e).pending may is (framed e is ((parts (thread_of e)).unwind turn))
turn_sound e EndThread may is turn = end_sound e.program e is.sound is.clock is.unended.thread
turn_sound e Entry may is turn = entry_sound e may (record { sound = is.sound; clock = is.clock; unended = is.unended; bare = no_frame (thread_of e).frames ((parts (thread_of e)).entry turn) })
turn_sound e Initialize may is turn = initializes_sound e (current_frame e).stage may is (framed e is ((parts (thread_of e)).initialize turn)) refl
turn_sound e Instruction may is turn = instructs e may is turn

pub event_sound : (p : Linked) (s : Kept) (t : ℕ) → IsSoundFor p s → s.guest.clock < 2 ^ 40 → IsUnended s.guest t → IsRunnable p → KeepsSound p (event p s t)
unfolding event
event_sound p s t sound clock unended may =
    let e : Moment = record { program = p; before = s; thread = t } in
    turn_sound e (turn_of (thread_of e)) may (record { sound = sound; clock = clock; unended = unended }) refl
