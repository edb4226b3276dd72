-- What a turn says of the topmost frame.
use Rattle.std.proofs.Common.{◌≡◌, ℕ, zero, suc, ◌<◌, Bool, true, false, List, [], ◌∷◌, length, get_or, refl, arith}
use Rattle.std.specs.Prelude.{if◌then◌else◌, is_some}
use Rattle.et_event.proofs.Running.{some_frame}
use Rattle.et_program.specs.Entries.{Linked}
use Rattle.et_state.specs.declared.stage.Stage.{Stage}
use Rattle.et_state.specs.declared.stage.Stage.TheVariants.{Plain, Before, Clinit}
use Rattle.et_state.specs.declared.stage.Turn.{Turn}
use Rattle.et_state.specs.declared.stage.Turn.TheVariants.{Unwind, EndThread, Entry, Initialize, Instruction}
use Rattle.et_state.specs.Threads.{ThreadState, no_thread, has_frame, is_before_class, top_of, turn_of}
use Rattle.et_state.specs.State.{Kept, GuestState}
use Rattle.et_state.specs.Words.{HasFrame, thread_at, top}
use Rattle.et_event.specs.Event.{initializes, does_turn, event}
use Rattle.et_event.specs.Initialization.{initialization_step}
use Rattle.et_event.specs.Moments.{Moment}

-- an initializer is at the top
pub record IsInitializing (x : ThreadState) : Type 0 where
  pub framed : has_frame x.frames ≡ true
  pub before : is_before_class (top_of x).stage ≡ true

initializing : (pending has before entered : Bool) →
    (if pending then (if has then Unwind else EndThread) else (if has then (if before then Initialize else Instruction) else (if entered then EndThread else Entry))) ≡ Initialize → (has ≡ true) × (before ≡ true)
initializing true true before entered e = cc
initializing true false before entered e = cc
initializing false true true entered e = (refl, refl)
initializing false true false entered e = cc
initializing false false before true e = cc
initializing false false before false e = cc

pub initializes_there : (x : ThreadState) → turn_of x ≡ Initialize → IsInitializing x
initializes_there x e = let h = initializing (is_some x.pending) (has_frame x.frames) (is_before_class (top_of x).stage) x.entered e in record { framed = h.0; before = h.1 }

started : (threads : List ThreadState) (t : ℕ) → has_frame (get_or threads t no_thread).frames ≡ true → t < length threads
started [] t e = cc
started (x ∷ xs) zero e = omega arith
started (x ∷ xs) (suc t) e = let lt = started xs t e in omega (arith, lt)

pub frame_there : (g : GuestState) (t : ℕ) → turn_of (thread_at g t) ≡ Initialize → HasFrame g t
frame_there g t e =
    let h = initializes_there (thread_at g t) e in
    record { thread = started g.threads t h.framed; frame = some_frame (thread_at g t).frames h.framed }

-- the initializer has not entered its method
pub not_plain : (x : ThreadState) → turn_of x ≡ Initialize → (top_of x).stage ≡ Plain → ⊥
not_plain x e s = let h = initializes_there x e in cc

pub not_clinit : (x : ThreadState) (c : ℕ) → turn_of x ≡ Initialize → (top_of x).stage ≡ Clinit c → ⊥
not_clinit x c e s = let h = initializes_there x e in cc

-- the event is a step of it
step_of : (e : Moment) (stage : Stage) (c : ℕ) → stage ≡ Before c → initializes e stage ≡ initialization_step e c
step_of e Plain c is = cc
step_of e (Before k) c is = let same : k ≡ c = cc in cc
step_of e (Clinit k) c is = cc

turned : (e : Moment) (turn : Turn) → turn ≡ Initialize → (c : ℕ) → (top e.before.guest e.thread).stage ≡ Before c → does_turn e turn ≡ initialization_step e c
turned e Unwind is c stage = cc
turned e EndThread is c stage = cc
turned e Entry is c stage = cc
turned e Initialize is c stage = step_of e (top e.before.guest e.thread).stage c stage
turned e Instruction is c stage = cc

pub event_is_step : (p : Linked) (s : Kept) (t c : ℕ) → turn_of (thread_at s.guest t) ≡ Initialize → (top s.guest t).stage ≡ Before c → event p s t ≡ initialization_step (record { program = p; before = s; thread = t }) c
unfolding event
event_is_step p s t c turn stage =
    let e : Moment = record { program = p; before = s; thread = t } in
    turned e (turn_of (thread_at s.guest t)) turn c stage
