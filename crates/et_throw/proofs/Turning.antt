-- A thread that unwinds an exception has a frame, and what it pends is an object of the program.
use Rattle.std.proofs.Common.{◌≡◌, ℕ, ◌+◌, ◌<◌, ◌^◌, Bool, true, false, List, [], ◌∷◌, length, Option, Some, None, option_to_list, refl, sym, ap, subst, arith, Contains}
use Rattle.std.specs.Prelude.{if◌then◌else◌}
use Rattle.std.specs.Option.{is_some}
use Rattle.et_event.proofs.Running.{runs_staged, some_frame, started}
use Rattle.et_heap.proofs.References.{there_is}
use Rattle.et_base.specs.declared.value.Value.{Value}
use Rattle.et_program.specs.Entries.{Linked}
use Rattle.et_heap.specs.Objects.{IsHeld, at, found, object_at}
use Rattle.et_state.specs.declared.stage.Stage.{Stage}
use Rattle.et_state.specs.declared.stage.Stage.TheVariants.{Plain, Before, Clinit}
use Rattle.et_state.specs.declared.stage.Turn.TheVariants.{Unwind, EndThread, Entry, Initialize, Instruction}
use Rattle.et_state.specs.Threads.{FrameState, ThreadState, turn_of, has_frame, is_before_class, first_frame, top_of}
use Rattle.et_state.specs.State.{GuestState, Kept, MachineState, kept_of}
use Rattle.et_state.specs.Words.{thread_at, top, HasFrame}
use Rattle.et_state.specs.Sound.{IsSound}
use Rattle.et_state.proofs.Places.{pending_root}
use Rattle.et_event.specs.Sound.{IsSoundFor, IsStaged, AreSoundFrames}
use Rattle.et_event.specs.Places.{Runs}
use Rattle.et_throw.specs.Unwinding.{Unwinds, UnwindsThrown}

-- THE FRAME

by_parts : (pending has before entered : Bool) →
    (if pending then (if has then Unwind else EndThread) else (if has then (if before then Initialize else Instruction) else (if entered then EndThread else Entry))) ≡ Unwind →
    (pending ≡ true) × (has ≡ true)
by_parts true true before entered e = (refl, refl)
by_parts true false before entered e = cc
by_parts false true true entered e = cc
by_parts false true false entered e = cc
by_parts false false before true e = cc
by_parts false false before false e = cc

pub unwinds_frame : (g : GuestState) (t : ℕ) → turn_of (thread_at g t) ≡ Unwind → HasFrame g t
unwinds_frame g t e =
    let x : ThreadState = thread_at g t in
    let h : has_frame x.frames ≡ true = (by_parts (is_some x.pending) (has_frame x.frames) (is_before_class (top_of x).stage) x.entered e).1 in
    record { thread = started g.threads t h; frame = some_frame x.frames h }

-- WHAT IT IS FOR

first_staged : (p : Linked) (fs : List FrameState) → 0 < length fs → AreSoundFrames p fs → IsStaged p (first_frame fs) (first_frame fs).stage (first_frame fs).method
first_staged p [] h sound = absurd (omega arith)
first_staged p (f ∷ fs) h sound = sound.0

pub top_staged : (p : Linked) (s : Kept) (t : ℕ) → IsSoundFor p s → HasFrame s.guest t → IsStaged p (top s.guest t) (top s.guest t).stage (top s.guest t).method
top_staged p s t sound has = first_staged p (thread_at s.guest t).frames has.frame (sound.threads t has.thread).frames

pub top_runs : (p : Linked) (s : Kept) (t : ℕ) → IsSoundFor p s → HasFrame s.guest t → is_before_class (top s.guest t).stage ≡ false → Runs p (top s.guest t)
top_runs p s t sound has b = runs_staged p (top s.guest t) (top s.guest t).stage (top s.guest t).method refl b (top_staged p s t sound has)

-- WHAT IT PENDS

pub pending_held : (s : Kept) (t o : ℕ) → IsSound s → t < length s.guest.threads → (thread_at s.guest t).pending ≡ Some o → IsHeld s.heap o
pending_held s t o sound lt e =
    let here : Contains (option_to_list (thread_at s.guest t).pending) o = subst (λ (q : Option ℕ). Contains (option_to_list q) o) (sym e) (0, omega arith, refl) in
    sound.roots o (pending_root s.guest t o lt here)

pub class_there : (p : Linked) (s : Kept) (o : ℕ) → IsSoundFor p s → IsHeld s.heap o → (object_at s.heap o).class < length p.classes
class_there p s o sound held = (sound.objects o (found (at s.heap o)) (there_is (at s.heap o) held)).0.class

-- AN INITIALIZER: the class is one of the program, and before <clinit> there is nothing in the frame

before_parts : (p : Linked) (f : FrameState) (stage : Stage) (method : Option ℕ) (c : ℕ) → stage ≡ Before c → IsStaged p f stage method → (c < length p.classes) × (length f.locals + length f.operands < 2 ^ 17)
before_parts p f Plain method c e h = cc
before_parts p f (Before d) (Some m) c e h = absurd h
before_parts p f (Before d) None c e h =
    let same : d ≡ c = cc in
    let locals : length f.locals ≡ 0 = ap (λ (vs : List Value). length vs) h.1.locals in
    let operands : length f.operands ≡ 0 = ap (λ (vs : List Value). length vs) h.1.operands in
    (subst (λ (k : ℕ). k < length p.classes) same h.0, omega arith)
before_parts p f (Clinit d) method c e h = cc

pub before_there : (p : Linked) (s : Kept) (t c : ℕ) → IsSoundFor p s → HasFrame s.guest t → (top s.guest t).stage ≡ Before c → (c < length p.classes) × (length (top s.guest t).locals + length (top s.guest t).operands < 2 ^ 17)
before_there p s t c sound has e = before_parts p (top s.guest t) (top s.guest t).stage (top s.guest t).method c e (top_staged p s t sound has)

clinit_parts : (p : Linked) (f : FrameState) (stage : Stage) (method : Option ℕ) (c : ℕ) → stage ≡ Clinit c → IsStaged p f stage method → c < length p.classes
clinit_parts p f Plain method c e h = cc
clinit_parts p f (Before d) method c e h = cc
clinit_parts p f (Clinit d) (Some m) c e h = let same : d ≡ c = cc in subst (λ (k : ℕ). k < length p.classes) same h.0
clinit_parts p f (Clinit d) None c e h = absurd h

pub clinit_there : (p : Linked) (s : Kept) (t c : ℕ) → IsSoundFor p s → HasFrame s.guest t → (top s.guest t).stage ≡ Clinit c → c < length p.classes
clinit_there p s t c sound has e = clinit_parts p (top s.guest t) (top s.guest t).stage (top s.guest t).method c e (top_staged p s t sound has)

pub unwinds_there : (p : Linked) (m : MachineState) (t o : ℕ) → IsSoundFor p (kept_of m) → m.guest.clock < 2 ^ 40 → turn_of (thread_at m.guest t) ≡ Unwind → (thread_at m.guest t).pending ≡ Some o → Unwinds p m t o
unwinds_there p m t o sound clock turn pending =
    let has : HasFrame m.guest t = unwinds_frame m.guest t turn in
    record { sound = sound; clock = clock; frame = has; pending = pending; held = pending_held (kept_of m) t o sound.held has.thread pending }

pub of_class : (p : Linked) (m : MachineState) (t o class : ℕ) → Unwinds p m t o → class ≡ (object_at m.heap o).class → UnwindsThrown p m t (record { exception = o; class = class })
of_class p m t o class u e = record {
  unwinds = u;
  thrown = e;
  known = subst (λ (k : ℕ). k < length p.classes) (sym e) (class_there p (kept_of m) o u.sound u.held);
}
