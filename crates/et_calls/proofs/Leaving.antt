-- The event in which a frame returns.
use Rattle.std.proofs.Common.{◌≡◌, ℕ, ◌+◌, ◌<◌, ◌≤◌, Bool, true, false, List, [], ◌∷◌, ◌++◌, length, Option, Some, None, refl, sym, ◌∙◌, ap, subst, arith}
use Rattle.std.specs.Prelude.{unwrap_or}
use Rattle.et_base.specs.declared.value.Value.{Value}
use Rattle.et_state.specs.declared.stage.Stage.{Stage}
use Rattle.et_state.specs.declared.stage.Stage.TheVariants.{Plain, Before, Clinit}
use Rattle.et_state.specs.ThreadRoots.{frame_roots}
use Rattle.et_state.specs.Threads.{FrameState, first_frame, rest_of}
use Rattle.et_state.specs.State.{Kept, MachineState, kept_of}
use Rattle.et_state.specs.Words.{thread_at, top, HasFrame, begun, steps_thread}
use Rattle.et_state.specs.Sound.{IsSound}
use Rattle.et_state.specs.Moves.{IsOnWay}
use Rattle.et_state.proofs.Calls.{on_begin_event}
use Rattle.et_heap.specs.Objects.{object_at, with_monitor}
use Rattle.et_event.specs.Locks.{HasMonitor, HasSome, leaving_some, monitor_at, owns_some_at}
use Rattle.et_event.proofs.Keeping.{monitor_on_way}
use Rattle.et_event.proofs.There.{there_later}
use Rattle.et_event.proofs.Answering.{ill_typed_answers, ill_typed_end}
use Rattle.std.proofs.lemmas.List.{length-set}
use Rattle.et_state.proofs.Steps.{led_plain}
use Rattle.et_program.specs.Entries.{Linked}
use Rattle.et_state.specs.declared.records.Record.{Record}
use Rattle.et_state.specs.declared.records.Record.TheVariants.{Exit}
use Rattle.et_state.specs.declared.ends.EventEnd.TheVariants as ends
use Rattle.et_state.specs.declared.ends.EventEnd.{EventEnd}
use Rattle.et_state.specs.Outcome.{Outcome}
use Rattle.et_event.specs.declared.errors.GuestError.TheVariants.{IllegalMonitorStateException}
use Rattle.et_event.specs.Answered.{EventAnswers}
use Rattle.et_event.specs.Calls.{class_done_by, frame_returned, return, returned_by}
use Rattle.et_event.specs.Checks.{throws_unless}
use Rattle.et_event.specs.Operands.{returned_width}
use Rattle.et_event.specs.Moments.{Moment, moment, Doing, begins, later, told, with_thread_state, goes, ill_typed, throws}
use Rattle.et_event.specs.Monitors.{Lock, OfObject, OfClass, lock_in, left_once, left_some, owns_some}
use Rattle.et_event.specs.Sites.{running_method}
use Rattle.et_event.specs.Sound.{IsSoundFor, AreSoundFrames, IsAbove, IsStaged}
use Rattle.et_event.specs.PoolOperands.Operand.{Operand}
use Rattle.et_calls.proofs.Coming.{after_return, came_after_return}
use Rattle.et_calls.proofs.Values.{by_values, entries_are_in, return_is, width_returned}
use Rattle.et_calls.specs.Returned.{FitsBelow, IsValueIn, returned_entries, returned_values, returning_frame}
use Rattle.et_builtins.specs.Types.{returned_in}
use Rattle.et_calls.specs.Stages.{IsClassIn}
use Rattle.et_calls.specs.Ways.{Came}

-- what comes before the frame is dropped changes neither the clock nor the records
pub record Beside (d x : Doing) : Type 0 where
  pub clock : x.state.guest.clock ≡ d.state.guest.clock
  pub records : x.records ≡ d.records

left_beside : (lock : Option Lock) (d : Doing) → Beside d (left_some lock d)
left_beside None d = record { clock = refl; records = refl }
left_beside (Some (OfObject o)) d = record { clock = refl; records = refl }
left_beside (Some (OfClass c)) d = record { clock = refl; records = refl }

done_beside : (stage : Stage) (d x : Doing) → Beside d x → Beside d (class_done_by stage x)
done_beside Plain d x h = record { clock = h.clock; records = h.records }
done_beside (Before c) d x h = record { clock = h.clock; records = h.records }
done_beside (Clinit c) d x h = record { clock = h.clock; records = h.records }

-- the state and the records once the frame was dropped, where this came before
abbrev left_by : Moment → List Value → Doing → Doing
left_by e values x =
    told (Exit x.state.guest.clock e.thread (unwrap_or (top e.before.guest e.thread).method 0)) (with_thread_state e (after_return e.program values (thread_at e.before.guest e.thread)) x)

left_answers : (p : Linked) (t : ℕ) (values : List Value) (m m' : MachineState) (out out' : List Record) (x : Doing) → Beside (begins (moment p m t)) x
    → Came (kept_of m) (with_thread_state (moment p m t) (after_return p values (thread_at m.guest t)) x) m'
    → out' ≡ out ++ Exit (m.guest.clock + 1) t (unwrap_or (top m.guest t).method 0) ∷ []
    → EventAnswers (goes (left_by (moment p m t) values x)) ends.Done m m' out out'
left_answers p t values m m' out out' x beside came e = (
  led_plain (kept_of m) _ m' came.way came.made came.kept,
  e ∙ (ap (λ (n : ℕ). out ++ Exit n t (unwrap_or (top m.guest t).method 0) ∷ []) (sym beside.clock)
      ∙ ap (λ (rs : List Record). out ++ (rs ++ Exit x.state.guest.clock t (unwrap_or (top m.guest t).method 0) ∷ [])) (sym beside.records)),
)

pub frame_left : (p : Linked) (t : ℕ) (value : Option Value) (lock : Option Lock) (m m₂ m₃ : MachineState) (out out' : List Record) → HasFrame m.guest t → IsValueIn (top m.guest t) value
    → lock_in (top m.guest t).stage (running_method p (top m.guest t)) (top m.guest t).lock ≡ lock
    → Came (kept_of m) (class_done_by (top m.guest t).stage (left_some lock (begins (moment p m t)))) m₂ → m₂.guest.threads ≡ m.guest.threads
    → m₃ ≡ steps_thread m₂ t (after_return p (returned_entries value) (thread_at m₂.guest t)) (frame_roots (top m₂.guest t))
    → out' ≡ out ++ Exit (m.guest.clock + 1) t (unwrap_or (top m.guest t).method 0) ∷ []
    → EventAnswers (goes (frame_returned (moment p m t) (returned_entries value) (begins (moment p m t)))) ends.Done m m₃ out out'
frame_left p t value lock m m₂ m₃ out out' has there held came same e o =
    let d : Doing = begins (moment p m t) in
    let stage : Stage = (top m.guest t).stage in
    let x : Doing = class_done_by stage (left_some lock d) in
    let came₃ = came_after_return (kept_of m) x p t (returned_entries value) m₂ m₃ came has same (entries_are_in (top m.guest t) value there) e in
    subst (λ (l : Option Lock). EventAnswers (goes (left_by (moment p m t) (returned_entries value) (class_done_by stage (left_some l d)))) ends.Done m m₃ out out') (sym held)
    (left_answers p t (returned_entries value) m m₃ out out' x (done_beside stage d (left_some lock d) (left_beside lock d)) came₃ o)

-- THE MONITOR THAT IS LEFT

pub lock_later : (m m' : MachineState) (lock : Option Lock) → m' ≡ begun m → HasSome m lock → HasSome m' lock
lock_later m m' lock e has = there_later m m' lock (ap (λ (z : MachineState). z.heap) e) (ap (λ (z : MachineState). z.guest.class_monitors) e) has

left_led : (m : MachineState) (lock : Lock) → IsSound (kept_of m) → HasMonitor (begun m) lock → IsOnWay (kept_of m) (leaving_some (Some lock) (begun m))
left_led m lock sound has = monitor_on_way (kept_of m) (begun m) lock (left_once (monitor_at (begun m) lock)) (on_begin_event m sound) has

came_left : (e : Moment) (m : MachineState) (lock : Option Lock) → e.before ≡ kept_of m → IsSound (kept_of m) → HasSome (begun m) lock → Came (kept_of m) (left_some lock (begins e)) (leaving_some lock (begun m))
came_left e m lock before sound has =
    subst (λ (k : Kept). Came (kept_of m) (left_some lock (record { state = later k; records = [] })) (leaving_some lock (begun m))) (sym before) (here lock has)
  where
    here : (lock : Option Lock) → HasSome (begun m) lock → Came (kept_of m) (left_some lock (record { state = later (kept_of m); records = [] })) (leaving_some lock (begun m))
    here None has = record { kept = refl; way = on_begin_event m sound; made = refl }
    here (Some (OfObject o)) has = record { kept = refl; way = left_led m (OfObject o) sound has; made = length-set m.heap o (Some (with_monitor (left_once (monitor_at (begun m) (OfObject o))) (object_at m.heap o))) }
    here (Some (OfClass c)) has = record { kept = refl; way = left_led m (OfClass c) sound has; made = refl }

left_threads : (m : MachineState) (lock : Option Lock) → (leaving_some lock m).guest.threads ≡ m.guest.threads
left_threads m None = refl
left_threads m (Some (OfObject o)) = refl
left_threads m (Some (OfClass c)) = refl

left_lost : (m : MachineState) (lock : Option Lock) → (leaving_some lock m).lost ≡ m.lost
left_lost m None = refl
left_lost m (Some (OfObject o)) = refl
left_lost m (Some (OfClass c)) = refl

-- .. at the beginning of an event
pub record BegunLeft (e : Moment) (m m' : MachineState) (lock : Option Lock) : Type 0 where
  pub came : Came (kept_of m) (left_some lock (begins e)) m'
  pub threads : m'.guest.threads ≡ m.guest.threads
  pub lost : m'.lost ≡ []

pub begun_left : (e : Moment) (m m₁ m₂ : MachineState) (lock : Option Lock) → e.before ≡ kept_of m → IsSound (kept_of m) → HasSome m lock → m₁ ≡ begun m → m₂ ≡ leaving_some lock m₁ → BegunLeft e m m₂ lock
begun_left e m m₁ m₂ lock before sound has e₁ e₂ =
    let is : m₂ ≡ leaving_some lock (begun m) = e₂ ∙ ap (λ (z : MachineState). leaving_some lock z) e₁ in
    record {
      came = subst (λ (z : MachineState). Came (kept_of m) (left_some lock (begins e)) z) (sym is) (came_left e m lock before sound (lock_later m (begun m) lock refl has));
      threads = ap (λ (z : MachineState). z.guest.threads) is ∙ left_threads (begun m) lock;
      lost = ap (λ (z : MachineState). z.lost) is ∙ left_lost (begun m) lock;
    }

owned_is : (p : Linked) (t : ℕ) (m : MachineState) (lock : Option Lock) → owns_some (moment p m t) (begins (moment p m t)) lock ≡ owns_some_at t lock m
owned_is p t m None = refl
owned_is p t m (Some (OfObject o)) = refl
owned_is p t m (Some (OfClass c)) = refl

-- WHERE THE MONITOR IS OWNED, AND WHERE IT ISN'T

abbrev returns_by : Moment → Option Value → Bool → Outcome Kept
returns_by e value owned = throws_unless e (begins e) IllegalMonitorStateException owned (goes (frame_returned e (returned_entries value) (begins e)))

returning_is : (p : Linked) (t : ℕ) (value : Option Value) (m : MachineState) (lock : Option Lock) (b : Bool) → lock ≡ lock_in (top m.guest t).stage (running_method p (top m.guest t)) (top m.guest t).lock
    → owns_some_at t lock m ≡ b → returning_frame (moment p m t) value ≡ returns_by (moment p m t) value b
returning_is p t value m lock b held owned =
    ap (λ (l : Option Lock). returns_by (moment p m t) value (owns_some (moment p m t) (begins (moment p m t)) l)) (sym held)
    ∙ ap (λ (c : Bool). returns_by (moment p m t) value c) (owned_is p t m lock ∙ owned)

pub owned_answers : (p : Linked) (t : ℕ) (value : Option Value) (m m' : MachineState) (out out' : List Record) (end : EventEnd) (lock : Option Lock) → lock ≡ lock_in (top m.guest t).stage (running_method p (top m.guest t)) (top m.guest t).lock
    → owns_some_at t lock m ≡ true → EventAnswers (goes (frame_returned (moment p m t) (returned_entries value) (begins (moment p m t)))) end m m' out out'
    → EventAnswers (returning_frame (moment p m t) value) end m m' out out'
owned_answers p t value m m' out out' end lock held owned a =
    subst (λ (o : Outcome Kept). EventAnswers o end m m' out out') (sym (returning_is p t value m lock true held owned)) a

pub unowned_answers : (p : Linked) (t : ℕ) (value : Option Value) (m m' : MachineState) (out out' : List Record) (end : EventEnd) (lock : Option Lock) → lock ≡ lock_in (top m.guest t).stage (running_method p (top m.guest t)) (top m.guest t).lock
    → owns_some_at t lock m ≡ false → EventAnswers (throws (moment p m t) IllegalMonitorStateException (begins (moment p m t))) end m m' out out'
    → EventAnswers (returning_frame (moment p m t) value) end m m' out out'
unowned_answers p t value m m' out out' end lock held owned a =
    subst (λ (o : Outcome Kept). EventAnswers o end m m' out out') (sym (returning_is p t value m lock false held owned)) a

-- the values that are returned, and where they aren't there

pub returned_answers : (p : Linked) (t : ℕ) (kind : Option Operand) (value : Option Value) (m m' : MachineState) (out out' : List Record) (end : EventEnd)
    → returned_values kind (returned_by (moment p m t)) (top m.guest t).operands ≡ Some value → EventAnswers (returning_frame (moment p m t) value) end m m' out out'
    → EventAnswers (return (moment p m t) kind) end m m' out out'
returned_answers p t kind value m m' out out' end e a =
    subst (λ (o : Outcome Kept). EventAnswers o end m m' out out') (sym (return_is (moment p m t) kind ∙ ap (λ (v : Option (Option Value)). by_values (ill_typed (moment p m t)) (returning_frame (moment p m t)) v) e)) a

pub refused_answers : (p : Linked) (t : ℕ) (kind : Option Operand) (m : MachineState) (out : List Record) (end : EventEnd)
    → returned_values kind (returned_by (moment p m t)) (top m.guest t).operands ≡ None → end ≡ ill_typed_end m t
    → EventAnswers (return (moment p m t) kind) end m m out out
refused_answers p t kind m out end e is =
    subst (λ (o : Outcome Kept). EventAnswers o end m m out out) (sym (return_is (moment p m t) kind ∙ ap (λ (v : Option (Option Value)). by_values (ill_typed (moment p m t)) (returning_frame (moment p m t)) v) e))
    (ill_typed_answers p t m m out end refl is)

-- WHAT SOUND STATES GIVE

fits_staged : (p : Linked) (f : FrameState) (stage : Stage) (below : List FrameState) (vs : List Value) → IsAbove p f stage below → length vs ≡ returned_width (returned_in (running_method p f).descriptor) → FitsBelow stage vs below
fits_staged p f Plain [] vs h e = tt
fits_staged p f Plain (g ∷ below) vs h e = let fits : length g.operands + returned_width (returned_in (running_method p f).descriptor) ≤ g.room = h.fits in omega arith
fits_staged p f (Before c) below vs h e = tt
fits_staged p f (Clinit c) below vs h e = tt

fits_first : (p : Linked) (fs : List FrameState) (vs : List Value) → 0 < length fs → AreSoundFrames p fs → length vs ≡ returned_width (returned_in (running_method p (first_frame fs)).descriptor) → FitsBelow (first_frame fs).stage vs (rest_of fs)
fits_first p [] vs lt sound e = absurd (omega arith)
fits_first p (f ∷ below) vs lt sound e = fits_staged p f f.stage below vs sound.1 e

-- what a frame returns fits the frame below it
pub fits_returned : (p : Linked) (s : Kept) (t : ℕ) (kind : Option Operand) (value : Option Value) → IsSoundFor p s → HasFrame s.guest t
    → returned_values kind (returned_in (running_method p (top s.guest t)).descriptor) (top s.guest t).operands ≡ Some value
    → FitsBelow (top s.guest t).stage (returned_entries value) (rest_of (thread_at s.guest t).frames)
fits_returned p s t kind value sound has e =
    fits_first p (thread_at s.guest t).frames (returned_entries value) has.frame (sound.threads t has.thread).frames
    (width_returned kind (returned_in (running_method p (top s.guest t)).descriptor) (top s.guest t).operands value e)

class_staged : (p : Linked) (f : FrameState) (stage : Stage) (method : Option ℕ) → IsStaged p f stage method → IsClassIn stage (length p.classes)
class_staged p f Plain method h = tt
class_staged p f (Before c) method h = tt
class_staged p f (Clinit c) (Some m) h = h.0
class_staged p f (Clinit c) None h = absurd h

class_first : (p : Linked) (fs : List FrameState) → 0 < length fs → AreSoundFrames p fs → IsClassIn (first_frame fs).stage (length p.classes)
class_first p [] lt sound = absurd (omega arith)
class_first p (f ∷ below) lt sound = class_staged p f f.stage f.method sound.0

pub class_is_in : (p : Linked) (s : Kept) (t : ℕ) → IsSoundFor p s → HasFrame s.guest t → IsClassIn (top s.guest t).stage (length s.guest.classes)
class_is_in p s t sound has =
    subst (λ (n : ℕ). IsClassIn (top s.guest t).stage n) (sym sound.classes.0) (class_first p (thread_at s.guest t).frames has.frame (sound.threads t has.thread).frames)
