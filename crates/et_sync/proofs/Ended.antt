-- The event in which a thread ends.
use Rattle.std.proofs.Common.{◌≡◌, ℕ, ◌+◌, ◌<◌, ◌≤◌, ◌^◌, false, List, [], length, set, get_or, Option, Some, None, refl, sym, ◌∙◌, ap, subst, inl, inr, arith, get_or-set_same, append-nil}
use Rattle.std.specs.Prelude.{IfSome, IsSome}
use Rattle.std.proofs.lemmas.Bool.{cases_eq, true≢false}
use Rattle.std.proofs.lemmas.List.{length-set, get_or-set_other}
use Rattle.std.proofs.lemmas.List.Elements.{All-weaker}
use Rattle.et_program.specs.Entries.{Linked}
use Rattle.et_heap.specs.declared.monitor.Monitor.{Monitor}
use Rattle.et_state.specs.declared.stage.Turn.{Turn}
use Rattle.et_state.specs.declared.stage.Turn.TheVariants.{EndThread}
use Rattle.et_state.specs.Threads.{FrameState, ThreadState, no_thread, turn_of, as_ended, ended_roots, most_frames, most_threads}
use Rattle.et_state.specs.declared.class_state.ClassState.{ClassState}
use Rattle.et_state.specs.declared.class_state.ClassState.TheVariants.{Untouched, Begun, Done, Failed}
use Rattle.et_state.specs.State.{Kept, MachineState, kept_of}
use Rattle.et_state.specs.Words.{thread_at, with_thread, ticked, begun, steps_thread, IsUnended}
use Rattle.et_state.specs.Moves.{IsOnWay, Led}
use Rattle.et_state.specs.Sound.{IsSound}
use Rattle.et_state.proofs.Calls.{on_begin_event, on_end_thread}
use Rattle.et_state.proofs.Places.{ended_root}
use Rattle.et_state.proofs.Steps.{led_plain, root_there}
use Rattle.et_state.specs.declared.records.Record.{Record}
use Rattle.et_state.specs.declared.ends.EventEnd.TheVariants as ends
use Rattle.et_state.specs.Outcome.{Outcome}
use Rattle.et_state.specs.Outcome as outcome
use Rattle.et_event.specs.Answered.{EventAnswers}
use Rattle.et_event.specs.Event.{event, does_turn}
use Rattle.et_event.specs.Sound.{AreSoundFrames, HasThreadObject, IsSoundMonitor, IsSoundThread, IsSoundClassState, IsSoundStatic, IsSoundFor}

-- the state after the event in which thread t ends
abbrev ended : Kept → ℕ → Kept
ended s t = record { heap = s.heap; guest = with_thread (ticked s.guest) t (as_ended (thread_at s.guest t)) }

event_is : (p : Linked) (s : Kept) (t : ℕ) → turn_of (thread_at s.guest t) ≡ EndThread → event p s t ≡ outcome.Goes (ended s t) []
unfolding event
event_is p s t turn = ap (λ (x : Turn). does_turn (record { program = p; before = s; thread = t }) x) turn

-- THE STEP

pub unended_later : (m n : MachineState) (t : ℕ) → n ≡ begun m → IsUnended m.guest t → IsUnended n.guest t
unended_later m n t e is = subst (λ (x : MachineState). IsUnended x.guest t) (sym e) (record { thread = is.thread; unended = is.unended })

ended_led : (m m₁ m₂ : MachineState) (t : ℕ) → IsSound (kept_of m) → IsUnended m.guest t → m₁ ≡ begun m → m₂ ≡ steps_thread m₁ t (as_ended (thread_at m₁.guest t)) (ended_roots (thread_at m₁.guest t)) → Led (kept_of m) (ended (kept_of m) t) m₂
ended_led m m₁ m₂ t sound is e₁ e₂ =
    let s : Kept = kept_of m in
    let b : MachineState = begun m in
    let now : m₂ ≡ steps_thread b t (as_ended (thread_at b.guest t)) (ended_roots (thread_at b.guest t)) = e₂ ∙ ap (λ (n : MachineState). steps_thread n t (as_ended (thread_at n.guest t)) (ended_roots (thread_at n.guest t))) e₁ in
    let way : IsOnWay s (steps_thread b t (as_ended (thread_at b.guest t)) (ended_roots (thread_at b.guest t))) =
    on_end_thread s b t (on_begin_event m sound) (record { thread = is.thread; unended = is.unended }) (λ o c. root_there s (kept_of b) o (ended_root m.guest t o is.thread is.unended c)) in
    led_plain s (ended s t) m₂ (subst (λ (n : MachineState). IsOnWay s n) (sym now) way) (ap (λ (n : MachineState). length n.heap) now) (ap (λ (n : MachineState). kept_of n) now)

pub ended_answers : (m m₁ m₂ : MachineState) (t : ℕ) → IsSound (kept_of m) → IsUnended m.guest t → turn_of (thread_at m.guest t) ≡ EndThread → m₁ ≡ begun m → m₂ ≡ steps_thread m₁ t (as_ended (thread_at m₁.guest t)) (ended_roots (thread_at m₁.guest t))
    → (p : Linked) (out : List Record) → EventAnswers (event p (kept_of m) t) ends.Done m m₂ out out
ended_answers m m₁ m₂ t sound is turn e₁ e₂ p out =
    subst (λ (o : Outcome Kept). EventAnswers o ends.Done m m₂ out out) (sym (event_is p (kept_of m) t turn)) (ended_led m m₁ m₂ t sound is e₁ e₂, sym (append-nil out))

pub ended_clock : (m m₁ m₂ : MachineState) (t : ℕ) → m₁ ≡ begun m → m₂ ≡ steps_thread m₁ t (as_ended (thread_at m₁.guest t)) (ended_roots (thread_at m₁.guest t)) → m₂.guest.clock ≡ m.guest.clock + 1
ended_clock m m₁ m₂ t e₁ e₂ = ap (λ (n : MachineState). n.guest.clock) e₂ ∙ ap (λ (n : MachineState). n.guest.clock) e₁

-- THE SOUND STATE

owner_later : (n k : ℕ) (o : Option ℕ) → n ≡ k → IfSome o (λ t. t < n) → IfSome o (λ t. t < k)
owner_later n k None e h = tt
owner_later n k (Some t) e h = subst (λ (j : ℕ). t < j) e h

monitor_later : (s : Kept) (t : ℕ) (m : Monitor) → IsSoundMonitor s.guest m → IsSoundMonitor (ended s t).guest m
monitor_later s t m h =
    record { count = omega (arith, h.count); owned = h.owned; owner = owner_later (length s.guest.threads) (length (ended s t).guest.threads) m.owner (sym (length-set s.guest.threads t (as_ended (thread_at s.guest t)))) h.owner }

class_later : (s : Kept) (t : ℕ) (c : ClassState) → IsSoundClassState s.guest c → IsSoundClassState (ended s t).guest c
class_later s t Untouched h = tt
class_later s t (Begun k) h = subst (λ (n : ℕ). k < n) (sym (length-set s.guest.threads t (as_ended (thread_at s.guest t)))) h
class_later s t Done h = tt
class_later s t Failed h = tt

-- a thread has its frames and its Thread object, or it ended
record IsKeptOrEnded (x y : ThreadState) : Type 0 where
  frames : y.frames ≡ x.frames
  others : y.ended ≡ false → y ≡ x

ended_or_not : (ts : List ThreadState) (t k : ℕ) → t < length ts → IsKeptOrEnded (get_or ts k no_thread) (get_or (set ts t (as_ended (get_or ts t no_thread))) k no_thread)
ended_or_not ts t k lt =
    elim (cases_eq k t) [
      | inl e ↦
          subst (λ (j : ℕ). IsKeptOrEnded (get_or ts j no_thread) (get_or (set ts t (as_ended (get_or ts t no_thread))) j no_thread)) (sym e)
          (subst (λ (y : ThreadState). IsKeptOrEnded (get_or ts t no_thread) y) (sym (get_or-set_same ts t (as_ended (get_or ts t no_thread)) no_thread lt)) (record { frames = refl; others = λ h. absurd (true≢false h) }))
      | inr ne ↦
          let same : get_or (set ts t (as_ended (get_or ts t no_thread))) k no_thread ≡ get_or ts k no_thread = get_or-set_other ts t k (as_ended (get_or ts t no_thread)) no_thread ne in
          record { frames = ap (λ (y : ThreadState). y.frames) same; others = λ h. same }
    ]

thread_object_later : (p : Linked) (s : Kept) (t : ℕ) (object : Option ℕ) → HasThreadObject p s object → HasThreadObject p (ended s t) object
thread_object_later p s t None h = h
thread_object_later p s t (Some o) h = h

thread_later : (p : Linked) (s : Kept) (t k : ℕ) → IsSoundFor p s → t < length s.guest.threads → k < length s.guest.threads → IsSoundThread p (ended s t) k
thread_later p s t k sound lt le =
    let was : IsSoundThread p s k = sound.threads k le in
    let x : ThreadState = thread_at s.guest k in
    let y : ThreadState = thread_at (ended s t).guest k in
    let kept : IsKeptOrEnded x y = ended_or_not s.guest.threads t k lt in
    record {
      frames = subst (λ (fs : List FrameState). AreSoundFrames p fs) (sym kept.frames) was.frames;
      few_frames = subst (λ (fs : List FrameState). length fs ≤ most_frames) (sym kept.frames) was.few_frames;
      object = λ some unended.
          let same : y ≡ x = kept.others unended in
          subst (λ (q : Option ℕ). HasThreadObject p (ended s t) q) (sym (ap (λ (z : ThreadState). z.object) same))
          (thread_object_later p s t x.object (was.object some (sym (ap (λ (z : ThreadState). z.ended) same) ∙ unended)));
    }

static_later : (p : Linked) (s : Kept) (t i : ℕ) → IsSoundStatic p s.guest i → IsSoundStatic p (ended s t).guest i
static_later p s t i h = record { value = h.value; untouched = h.untouched }

ended_sound : (p : Linked) (s : Kept) (t : ℕ) → IsSoundFor p s → s.guest.clock < 2 ^ 40 → t < length s.guest.threads → IsSound (ended s t) → IsSoundFor p (ended s t)
ended_sound p s t sound clock lt held =
    let same : length (ended s t).guest.threads ≡ length s.guest.threads = length-set s.guest.threads t (as_ended (thread_at s.guest t)) in
    let later : s.guest.clock + 1 ≤ 2 ^ 40 = omega arith in
    let main : IsKeptOrEnded (thread_at s.guest 0) (thread_at (ended s t).guest 0) = ended_or_not s.guest.threads t 0 lt in
    record {
      held = held;
      clock = later;
      fits = sound.fits;
      objects = λ o x e. let h = sound.objects o x e in (h.0, monitor_later s t x.monitor h.1);
      threads = λ k le. thread_later p s t k sound lt (subst (λ (n : ℕ). k < n) same le);
      few_threads = subst (λ (n : ℕ). n ≤ most_threads) (sym same) sound.few_threads;
      entry = λ entered unended.
          let kept : thread_at (ended s t).guest 0 ≡ thread_at s.guest 0 = main.others unended in
          subst (λ (z : ThreadState). IsSome z.entry) (sym kept) (sound.entry (sym (ap (λ (z : ThreadState). z.entered) kept) ∙ entered) (sym (ap (λ (z : ThreadState). z.ended) kept) ∙ unended));
      classes = (sound.classes.0, All-weaker (IsSoundClassState s.guest) (IsSoundClassState (ended s t).guest) (class_later s t) s.guest.classes sound.classes.1);
      class_monitors = (sound.class_monitors.0, All-weaker (IsSoundMonitor s.guest) (IsSoundMonitor (ended s t).guest) (monitor_later s t) s.guest.class_monitors sound.class_monitors.1);
      statics = (sound.statics.0, λ i le. static_later p s t i (sound.statics.1 i le));
    }

pub sound_after : (m m₁ m₂ : MachineState) (t : ℕ) → IsSound (kept_of m) → m.guest.clock < 2 ^ 40 → IsUnended m.guest t → m₁ ≡ begun m → m₂ ≡ steps_thread m₁ t (as_ended (thread_at m₁.guest t)) (ended_roots (thread_at m₁.guest t))
    → (p : Linked) → IsSoundFor p (kept_of m) → IsSoundFor p (kept_of m₂)
sound_after m m₁ m₂ t sound clock is e₁ e₂ p h =
    let led : Led (kept_of m) (ended (kept_of m) t) m₂ = ended_led m m₁ m₂ t sound is e₁ e₂ in
    let held : IsSound (ended (kept_of m) t) = led.event.sound in
    subst (λ (x : Kept). IsSoundFor p x) (sym led.kept) (ended_sound p (kept_of m) t h clock is.thread held)
