-- The event in which the frame of a method is dropped, and its monitor left.
use Rattle.std.proofs.Common.{◌≡◌, ℕ, ◌+◌, ◌<◌, true, false, List, [], ◌∷◌, ◌++◌, length, Option, Some, None, refl, sym, ◌∙◌, ap, subst, Contains}
use Rattle.std.specs.Prelude.{if◌then◌else◌, unwrap_or}
use Rattle.std.proofs.lemmas.List.{length-set}
use Rattle.et_program.specs.Entries.{Linked}
use Rattle.et_state.specs.Threads.{FrameState, ThreadState, without_top}
use Rattle.et_state.specs.ThreadRoots.{frame_roots}
use Rattle.et_state.specs.State.{GuestState, Kept, MachineState, kept_of}
use Rattle.et_state.specs.Words.{thread_at, top, HasFrame, begun, steps_thread}
use Rattle.et_state.specs.Sound.{IsSound}
use Rattle.et_state.specs.Moves.{IsOnWay, Led}
use Rattle.et_state.proofs.Places.{top_root}
use Rattle.et_state.proofs.Calls.{on_begin_event, on_drop_frame}
use Rattle.et_state.proofs.Steps.{led_plain, root_there}
use Rattle.et_state.specs.declared.records.Record.{Record}
use Rattle.et_state.specs.declared.records.Record.TheVariants.{Unwind}
use Rattle.et_state.specs.declared.ends.EventEnd.TheVariants as ends
use Rattle.et_event.specs.Answered.{EventAnswers}
use Rattle.et_event.specs.Moments.{Moment, moment, Doing, begins, told, goes}
use Rattle.et_event.specs.Monitors.{Lock, OfObject, OfClass, left, lock_in}
use Rattle.et_event.specs.Sites.{running_method}
use Rattle.et_event.specs.Throw.{left_if_owned, dropped, unwound}
use Rattle.et_event.specs.Locks.{HasSome, doing, owns_at, leaving_lock}
use Rattle.et_event.proofs.Keeping.{monitor_on_way, left_is}
use Rattle.et_event.proofs.There.{there_later}
use Rattle.et_throw.specs.Unwinding.{leaving_if_owned}

-- THE MONITOR

leaves_owned : (e : Moment) (lock : Lock) (m : MachineState) → left_if_owned e (Some lock) (doing m) ≡ doing (leaving_if_owned e.thread (Some lock) m)
leaves_owned e lock m =
    elim (owns_at e.thread lock m) as (λ b. (if b then left lock (doing m) else doing m) ≡ doing (if b then leaving_lock lock m else m)) [
      | true ↦ left_is (Some lock) m []
      | false ↦ refl
    ]

leaves_is : (e : Moment) (lock : Option Lock) (m : MachineState) → left_if_owned e lock (doing m) ≡ doing (leaving_if_owned e.thread lock m)
leaves_is e None m = refl
leaves_is e (Some lock) m = leaves_owned e lock m

leaves_on_way : (s : Kept) (m : MachineState) (t : ℕ) (lock : Option Lock) → IsOnWay s m → HasSome m lock → IsOnWay s (leaving_if_owned t lock m)
leaves_on_way s m t None w has = w
leaves_on_way s m t (Some lock) w has = elim (owns_at t lock m) as (λ b. IsOnWay s (if b then leaving_lock lock m else m)) [ true ↦ monitor_on_way s m lock _ w has | false ↦ w ]

-- nothing but the monitor has changed
record SameBeside (m m' : MachineState) : Type 0 where
  threads : m'.guest.threads ≡ m.guest.threads
  objects : length m'.heap ≡ length m.heap
  lost : m'.lost ≡ m.lost

leaving_beside : (lock : Lock) (m : MachineState) → SameBeside m (leaving_lock lock m)
leaving_beside (OfObject o) m = record { threads = refl; objects = length-set m.heap o _; lost = refl }
leaving_beside (OfClass c) m = record { threads = refl; objects = refl; lost = refl }

leaves_beside : (t : ℕ) (lock : Option Lock) (m : MachineState) → SameBeside m (leaving_if_owned t lock m)
leaves_beside t None m = record { threads = refl; objects = refl; lost = refl }
leaves_beside t (Some lock) m = elim (owns_at t lock m) as (λ b. SameBeside m (if b then leaving_lock lock m else m)) [ true ↦ leaving_beside lock m | false ↦ record { threads = refl; objects = refl; lost = refl } ]

still_framed : (g g' : GuestState) (t : ℕ) → g'.threads ≡ g.threads → HasFrame g t → HasFrame g' t
still_framed g g' t e has = record {
  thread = subst (λ (ts : List ThreadState). t < length ts) (sym e) has.thread;
  frame = subst (λ (ts : List ThreadState). 0 < length (thread_at (record g { threads = ts }) t).frames) (sym e) has.frame;
}

-- THE EVENT

unwound_led : (m : MachineState) (t : ℕ) (lock : Option Lock) (m₁ m₂ m₃ : MachineState) → IsSound (kept_of m) → HasFrame m.guest t → HasSome m lock → m₁ ≡ begun m → m₂ ≡ leaving_if_owned t lock m₁
    → m₃ ≡ steps_thread m₂ t (without_top (thread_at m₂.guest t)) (frame_roots (top m₂.guest t))
    → (p : Linked) → Led (kept_of m) (dropped (moment p m t) (doing (leaving_if_owned t lock (begun m)))).state m₃
unwound_led m t lock m₁ m₂ m₃ sound has there e₁ e₂ e₃ p =
    let s : Kept = kept_of m in
    let b : MachineState = leaving_if_owned t lock (begun m) in
    let beside : SameBeside (begun m) b = leaves_beside t lock (begun m) in
    let is : m₃ ≡ steps_thread b t (without_top (thread_at b.guest t)) (frame_roots (top b.guest t)) =
    e₃ ∙ ap (λ (n : MachineState). steps_thread n t (without_top (thread_at n.guest t)) (frame_roots (top n.guest t))) (e₂ ∙ ap (λ (n : MachineState). leaving_if_owned t lock n) e₁) in
    let w : IsOnWay s b = leaves_on_way s (begun m) t lock (on_begin_event m sound) (there_later m (begun m) lock refl refl there) in
    let framed : HasFrame b.guest t = still_framed m.guest b.guest t beside.threads has in
    let same : top b.guest t ≡ top m.guest t = ap (λ (ts : List ThreadState). top (record m.guest { threads = ts }) t) beside.threads in
    let next : IsOnWay s (steps_thread b t (without_top (thread_at b.guest t)) (frame_roots (top b.guest t))) =
    on_drop_frame s b t w framed (λ o c. root_there s (kept_of b) o (top_root m.guest t o has (subst (λ (f : FrameState). Contains (frame_roots f) o) same c))) in
    led_plain s _ m₃ (subst (λ (n : MachineState). IsOnWay s n) (sym is) next) (ap (λ (n : MachineState). length n.heap) is ∙ beside.objects) (ap (λ (n : MachineState). kept_of n) is)

pub unwound_answers : (p : Linked) (t o : ℕ) (lock : Option Lock) (m m₁ m₂ m₃ : MachineState) (out out' : List Record) → IsSound (kept_of m) → HasFrame m.guest t → HasSome m lock
    → lock ≡ lock_in (top m.guest t).stage (running_method p (top m.guest t)) (top m.guest t).lock → m₁ ≡ begun m → m₂ ≡ leaving_if_owned t lock m₁
    → m₃ ≡ steps_thread m₂ t (without_top (thread_at m₂.guest t)) (frame_roots (top m₂.guest t))
    → out' ≡ out ++ Unwind (m.guest.clock + 1) t (unwrap_or (top m.guest t).method 0) o ∷ []
    → EventAnswers (unwound (moment p m t) o) ends.Done m m₃ out out'
unwound_answers p t o lock m m₁ m₂ m₃ out out' sound has there names e₁ e₂ e₃ told_is =
    let e : Moment = moment p m t in
    let r : Record = Unwind (m.guest.clock + 1) t (unwrap_or (top m.guest t).method 0) o in
    let here : EventAnswers (goes (told r (dropped e (left_if_owned e lock (begins e))))) ends.Done m m₃ out out' =
    subst (λ (d : Doing). EventAnswers (goes (told r (dropped e d))) ends.Done m m₃ out out') (sym (leaves_is e lock (begun m)))
    (unwound_led m t lock m₁ m₂ m₃ sound has there e₁ e₂ e₃ p, told_is) in
    subst (λ (l : Option Lock). EventAnswers (goes (told r (dropped e (left_if_owned e l (begins e))))) ends.Done m m₃ out out') names here
