-- What a turn leads to.
use Rattle.std.proofs.Common.{◌≡◌, ℕ, ◌<◌, Bool, true, false, List, [], ◌∷◌, length, Option, Some, None, refl, sym, subst}
use Rattle.std.specs.Prelude.{if◌then◌else◌, is_some, ◌^◌}
use Rattle.std.proofs.lemmas.Bool.{false≢true}
use Rattle.et_event.proofs.Running.{some_frame}
use Rattle.et_state.proofs.Steps.{with_first}
use Rattle.et_base.proofs.Options.{is_none}
use Rattle.et_event.specs.Event.{does_turn, initializes}
use Rattle.et_event.specs.Throw.{unwinding_step}
use Rattle.et_event.specs.Moments.{Moment, begins, current_frame, thread_of}
use Rattle.et_event.specs.Runnable.{IsRunnable}
use Rattle.et_event.specs.Sound.{AreSoundFrames, IsSoundFor, IsStaged}
use Rattle.et_history.proofs.soundness.Turning.{no_frame}
use Rattle.et_state.specs.Outcome.{Outcome}
use Rattle.et_state.specs.State.{Kept}
use Rattle.et_state.specs.Threads.{FrameState, as_ended, has_frame, is_before_class, rest_of, turn_of}
use Rattle.et_state.specs.Words.{IsUnended}
use Rattle.et_state.specs.declared.stage.Stage.{Stage}
use Rattle.et_state.specs.declared.stage.Stage.TheVariants.{Before, Clinit, Plain}
use Rattle.et_state.specs.declared.stage.Turn.{Turn}
use Rattle.et_state.specs.declared.stage.Turn.TheVariants.{EndThread, Entry, Initialize, Instruction, Unwind}
use Rattle.et_theorems.specs.typings.Typed.{AreTypedFrames, AreTypings, IsTyped, IsTypedThread, Typings, Whole, part_of}
use Rattle.et_theorems.proofs.typings.Entering.{entry_typed, step_typed}
use Rattle.et_theorems.proofs.typings.Own.{LeavesTyped, thread_own}
use Rattle.et_theorems.proofs.typings.Standing.{instruction_typed}
use Rattle.et_theorems.proofs.typings.Unwinding.{unwinding_typed}
use Rattle.et_theorems.proofs.typings.Ways.{Calm}

-- WHAT IS KNOWN of the moment
pub record Known (e : Moment) (typings : Typings) : Type 0 where
  pub sound : IsSoundFor e.program e.before
  pub clock : e.before.guest.clock < 2 ^ 40
  pub unended : IsUnended e.before.guest e.thread
  pub may : IsRunnable e.program
  pub kinds : AreTypings e.program typings
  pub typed : IsTyped e.program typings e.before

abbrev turn_with : (pends framed before entered : Bool) → Turn
turn_with pends framed before entered = if pends then (if framed then Unwind else EndThread) else (if framed then (if before then Initialize else Instruction) else (if entered then EndThread else Entry))

module _ (e : Moment) (typings : Typings) (k : Known e typings) where
  abbrev P : Outcome Kept → Type 0
  P o = LeavesTyped e typings o

  thread_typed : IsTypedThread e.program typings (thread_of e)
  thread_typed = k.typed.threads e.thread k.unended.thread

  pub calm : (thread_of e).pending ≡ None → Calm e typings
  calm none = record {
    sound = k.sound;
    clock = k.clock;
    may = k.may;
    kinds = k.kinds;
    started = k.unended.thread;
    none = none;
    frames = subst (λ (o : Option ℕ). AreTypedFrames e.program typings (part_of o) (thread_of e).frames) none thread_typed;
    objects = k.typed.objects;
  }

  sound_frames : 0 < length (thread_of e).frames → AreSoundFrames e.program (current_frame e ∷ rest_of (thread_of e).frames)
  sound_frames framed = subst (λ (fs : List FrameState). AreSoundFrames e.program fs) (sym (with_first (thread_of e).frames framed)) (k.sound.threads e.thread k.unended.thread).frames

  ended : (thread_of e).frames ≡ [] → P (does_turn e EndThread)
  ended bare =
      thread_own e typings (as_ended (thread_of e)) (begins e) k.unended.thread (subst (λ (fs : List FrameState). AreTypedFrames e.program typings Whole fs) (sym bare) tt)

  initializes_typed : (thread_of e).pending ≡ None → 0 < length (thread_of e).frames → is_before_class (current_frame e).stage ≡ true → P (does_turn e Initialize)
  initializes_typed none framed before = by (current_frame e).stage (current_frame e).method refl before (sound_frames framed).0
    where
      class_there : (c : ℕ) (method : Option ℕ) → IsStaged e.program (current_frame e) (Before c) method → c < length e.program.classes
      class_there c None h = h.0
      class_there c (Some m) h = absurd h

      by : (stage : Stage) (method : Option ℕ) → (current_frame e).stage ≡ stage → is_before_class stage ≡ true → IsStaged e.program (current_frame e) stage method → P (initializes e stage)
      by Plain method q b h = absurd (false≢true b)
      by (Before c) method q b h = step_typed e typings (calm none) c framed q (class_there c method h)
      by (Clinit c) method q b h = absurd (false≢true b)

  unwinds_typed : (o : Option ℕ) → (thread_of e).pending ≡ o → is_some o ≡ true → 0 < length (thread_of e).frames → P (does_turn e Unwind)
  unwinds_typed None q some framed = absurd (false≢true some)
  unwinds_typed (Some o) q some framed =
      subst (λ (x : Option ℕ). P (unwinding_step e x)) (sym q)
      (unwinding_typed e typings o (record {
        sound = k.sound;
        kinds = k.kinds;
        started = k.unended.thread;
        pending = q;
        framed = framed;
        frames = subst (λ (x : Option ℕ). AreTypedFrames e.program typings (part_of x) (thread_of e).frames) q thread_typed;
      }))

  by_turn : (pends framed before entered : Bool) → is_some (thread_of e).pending ≡ pends → has_frame (thread_of e).frames ≡ framed → is_before_class (current_frame e).stage ≡ before → (thread_of e).entered ≡ entered → turn_of (thread_of e) ≡ turn_with pends framed before entered → P (does_turn e (turn_with pends framed before entered))
  by_turn true true before entered p f b n turn = unwinds_typed (thread_of e).pending refl p (some_frame (thread_of e).frames f)
  by_turn true false before entered p f b n turn = ended (no_frame (thread_of e).frames f)
  by_turn false true true entered p f b n turn = initializes_typed (is_none (thread_of e).pending p) (some_frame (thread_of e).frames f) b
  by_turn false true false entered p f b n turn = instruction_typed e typings (calm (is_none (thread_of e).pending p)) turn
  by_turn false false before true p f b n turn = ended (no_frame (thread_of e).frames f)
  by_turn false false before false p f b n turn = entry_typed e typings (calm (is_none (thread_of e).pending p)) (no_frame (thread_of e).frames f) turn n k.unended.unended

  pub turn_typed : P (does_turn e (turn_of (thread_of e)))
  turn_typed = by_turn (is_some (thread_of e).pending) (has_frame (thread_of e).frames) (is_before_class (current_frame e).stage) (thread_of e).entered refl refl refl refl refl
