-- A thread that does an instruction runs a method.
use Rattle.std.proofs.Common.{◌≡◌, ℕ, zero, suc, ◌<◌, Bool, true, false, List, [], ◌∷◌, length, Option, Some, None, Result, Ok, Err, refl, inl, inr, arith}
use Rattle.std.specs.Prelude.{if◌then◌else◌, slice_index_or}
use Rattle.std.specs.Option.{is_some}
use Rattle.et_code.specs.Bodies.{Body}
use Rattle.et_code.specs.Decoding.{instruction_at}
use Rattle.et_code.specs.Starts.{IsStart}
use Rattle.et_code.specs.declared.instr.CodeFault.{CodeFault}
use Rattle.et_code.specs.declared.instr.CodeFault.TheVariants as fault
use Rattle.et_code.specs.declared.instr.Instr.{Instr}
use Rattle.et_state.specs.declared.stage.Stage.{Stage}
use Rattle.et_state.specs.declared.stage.Stage.TheVariants.{Plain, Before, Clinit}
use Rattle.et_state.specs.declared.stage.Turn.TheVariants.{Unwind, EndThread, Entry, Initialize, Instruction}
use Rattle.et_state.specs.Threads.{FrameState, ThreadState, no_thread, turn_of, has_frame, is_before_class, first_frame, top_of}
use Rattle.et_state.specs.State.{GuestState, Kept}
use Rattle.et_state.specs.Words.{thread_at, top, HasFrame}
use Rattle.et_program.specs.Entries.{Linked}
use Rattle.et_event.specs.Sound.{IsPc, IsStaged, AreSoundFrames, IsSoundFor}
use Rattle.et_event.specs.Places.{Runs}
use Rattle.et_event.proofs.Constants.{at_end}

by_parts : (pending has before entered : Bool) →
    (if pending then (if has then Unwind else EndThread) else (if has then (if before then Initialize else Instruction) else (if entered then EndThread else Entry))) ≡ Instruction →
    (has ≡ true) × (before ≡ false)
by_parts true true before entered e = cc
by_parts true false before entered e = cc
by_parts false true true entered e = cc
by_parts false true false entered e = (refl, refl)
by_parts false false before true e = cc
by_parts false false before false e = cc

pub framed : (x : ThreadState) → turn_of x ≡ Instruction → (has_frame x.frames ≡ true) × (is_before_class (top_of x).stage ≡ false)
framed x e = by_parts (is_some x.pending) (has_frame x.frames) (is_before_class (top_of x).stage) x.entered e

pub some_frame : (fs : List FrameState) → has_frame fs ≡ true → 0 < length fs
some_frame [] e = cc
some_frame (f ∷ fs) e = omega arith

pub started : (ts : List ThreadState) (t : ℕ) → has_frame (slice_index_or ts t no_thread).frames ≡ true → t < length ts
started [] t e = cc
started (x ∷ xs) zero e = omega arith
started (x ∷ xs) (suc t) e = let h : t < length xs = started xs t e in omega arith

pub has_frame_there : (g : GuestState) (t : ℕ) → turn_of (thread_at g t) ≡ Instruction → HasFrame g t
has_frame_there g t e =
    let h = (framed (thread_at g t) e).0 in
    record { thread = started g.threads t h; frame = some_frame (thread_at g t).frames h }

pub runs_staged : (p : Linked) (f : FrameState) (stage : Stage) (method : Option ℕ) → f.method ≡ method → is_before_class stage ≡ false → IsStaged p f stage method → Runs p f
runs_staged p f Plain (Some m) e b h = record { method = m; named = e; runs = h.0 }
runs_staged p f Plain None e b h = absurd h
runs_staged p f (Before c) method e b h = cc
runs_staged p f (Clinit c) (Some m) e b h = record { method = m; named = e; runs = h.1 }
runs_staged p f (Clinit c) None e b h = absurd h

runs_first : (p : Linked) (fs : List FrameState) → has_frame fs ≡ true → is_before_class (first_frame fs).stage ≡ false → AreSoundFrames p fs → Runs p (first_frame fs)
runs_first p [] e b h = cc
runs_first p (f ∷ fs) e b h = runs_staged p f f.stage f.method refl b h.0

pub runs_there : (p : Linked) (s : Kept) (t : ℕ) → IsSoundFor p s → turn_of (thread_at s.guest t) ≡ Instruction → Runs p (top s.guest t)
runs_there p s t sound e =
    let h = framed (thread_at s.guest t) e in
    runs_first p (thread_at s.guest t).frames h.0 h.1 (sound.threads t (has_frame_there s.guest t e).thread).frames

-- an instruction that is decoded at a pc of the code begins there
pub starts_there : (b : Body) (pc : ℕ) (x : Instr × ℕ) → IsPc b pc → instruction_at b.code pc ≡ Ok x → IsStart b.code pc
starts_there b pc x there e =
    elim there [
      | inl s ↦ s
      | inr last ↦ absurd (not_both x (instruction_at b.code pc) e (at_end b.code pc (omega arith)))
    ]
  where
    not_both : (y : Instr × ℕ) (r : Result (Instr × ℕ) CodeFault) → r ≡ Ok y → r ≡ Err fault.Short → ⊥
    not_both y r a c = cc
