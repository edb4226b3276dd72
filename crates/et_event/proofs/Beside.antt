-- Texts beside a state: the graph, what the table answers, and soundness don't see them.
use Rattle.std.proofs.Common.{◌≡◌, ℕ, Bool, true, false, List, ◌∷◌, Option, Some, None, refl, sym, ap, subst, ◌∙◌}
use Rattle.std.specs.Prelude.{codes, if◌then◌else◌}
use Rattle.et_base.specs.declared.value.Value.{Value}
use Rattle.et_base.specs.declared.value.Value.TheVariants.{Unset, Int, Long, LongHigh, Null, Ref}
use Rattle.et_program.specs.Entries.{Linked, field_at}
use Rattle.et_heap.specs.declared.monitor.Monitor.{Monitor}
use Rattle.et_state.specs.declared.class_state.ClassState.{ClassState}
use Rattle.et_state.specs.declared.class_state.ClassState.TheVariants.{Untouched, Begun, Done, Failed}
use Rattle.et_state.specs.declared.records.Record.{Record}
use Rattle.et_state.specs.declared.ends.EventEnd.{EventEnd}
use Rattle.et_state.specs.declared.ends.EventEnd.TheVariants as ends
use Rattle.et_state.specs.Answers.{Answers}
use Rattle.et_state.specs.Outcome.{Outcome}
use Rattle.et_state.specs.Outcome as outcome
use Rattle.et_state.specs.Roots.{graph_of}
use Rattle.et_state.specs.Sound.{IsSound}
use Rattle.et_state.specs.Moves.{Led}
use Rattle.et_state.specs.State.{GuestState, Kept, MachineState, kept_of}
use Rattle.et_state.specs.Spoken.{spoken, silent}
use Rattle.et_state.specs.Texts.{Texts, no_texts}
use Rattle.et_state.specs.Words.{static_at, with_static}
use Rattle.et_event.specs.Answered.{EventAnswers, TextAnswers}
use Rattle.et_event.specs.Errors.{class_called}
use Rattle.et_event.specs.Heap.{leaving_values}
use Rattle.et_event.specs.Moments.{Moment, Doing, begins, current_frame, doing_with_guest, ends_event, fits_heap, instance_made, moment, next_object}
use Rattle.et_event.specs.Out.{OutRead, out_read, out_row, out_turn}
use Rattle.et_event.specs.Sites.{Site}
use Rattle.et_event.specs.Sound.{HasThreadObject, IsSoundClassState, IsSoundFor, IsSoundMonitor, IsSoundStatic, IsSoundThread}
use Rattle.et_event.specs.Told.{event_with_texts, keeping}
use Rattle.et_event.proofs.Told.{of_out, out-blind}

-- the graph has no texts
pub graph-blind : (x : Texts) (s : Kept) → graph_of (spoken x s) ≡ graph_of s
graph-blind x s = refl

-- what an event of the table answers, of a machine that stands beside its texts
pub answers-beside : (x : Texts) (o : Outcome Kept) (end : EventEnd) (m m' : MachineState) (out out' : List Record) → EventAnswers o end m m' out out'
    → Answers (keeping x o) end (spoken x (kept_of m)) (spoken x (kept_of m')) out out'
answers-beside x (outcome.Goes next records) ends.Done m m' out out' h = (ap (spoken x) h.0.kept, h.1)
answers-beside x (outcome.Waits next) ends.Waited m m' out out' h = (ap (spoken x) h.0.kept, h.1)
answers-beside x (outcome.IllTyped method pc) (ends.IllTyped named at) m m' out out' h = (h.0, h.1, ap (λ (y : MachineState). spoken x (kept_of y)) h.2, h.3)
answers-beside x outcome.ObjectLimit ends.ObjectLimit m m' out out' h = (ap (λ (y : MachineState). spoken x (kept_of y)) h.0, h.1)
answers-beside x _ _ m m' out out' h = absurd h

-- .. and in the words of a call that does events of texts: what a machine keeps has none
led-silent : (s next : Kept) (m : MachineState) → m.guest.texts ≡ no_texts → Led s next m → Led s (silent next) m
led-silent s next m none led =
    let same : silent next ≡ next = ap silent (sym led.kept) ∙ (ap (λ t. spoken t (kept_of m)) (sym none) ∙ led.kept) in
    subst (λ (k : Kept). Led s k m) (sym same) led

pub texts-answered : (x : Texts) (o : Outcome Kept) (end : EventEnd) (m m' : MachineState) (out out' : List Record) → m'.guest.texts ≡ no_texts → EventAnswers o end m m' out out'
    → TextAnswers (keeping x o) end m m' x x out out'
texts-answered x (outcome.Goes next records) ends.Done m m' out out' none h = (led-silent (kept_of m) next m' none h.0, refl, h.1)
texts-answered x (outcome.Waits next) ends.Waited m m' out out' none h = (led-silent (kept_of m) next m' none h.0, refl, h.1)
texts-answered x (outcome.IllTyped method pc) (ends.IllTyped named at) m m' out out' none h = (h.0, h.1, h.2, refl, h.3)
texts-answered x outcome.ObjectLimit ends.ObjectLimit m m' out out' none h = (h.0, refl, h.1)
texts-answered x _ _ m m' out out' none h = absurd h

-- THE READING OF System.out doesn't see texts, and they stay

ends-beside : (x : Texts) (s : Kept) (records : List Record) (b : Bool) → (if b then outcome.Goes (spoken x s) records else outcome.ObjectLimit) ≡ keeping x (if b then outcome.Goes s records else outcome.ObjectLimit)
ends-beside x s records true = refl
ends-beside x s records false = refl

abbrev ends-as : Texts → Doing → Type 0
ends-as x d = (if fits_heap d.state.heap then outcome.Goes (spoken x d.state) d.records else outcome.ObjectLimit) ≡ keeping x (ends_event d)

ends_as : (x : Texts) (d : Doing) → ends-as x d
ends_as x d = ends-beside x d.state d.records (fits_heap d.state.heap)

abbrev beside : Texts → Moment → Moment
beside x e = record { program = e.program; before = spoken x e.before; thread = e.thread }

abbrev made : Moment → Site → ℕ → Doing
made e at slot =
    let n = next_object (begins e) in
    let d = instance_made e (class_called e.program (codes "java/io/PrintStream")) (begins e) in
    leaving_values e at (Ref n ∷ (current_frame e).operands) (doing_with_guest (with_static d.state.guest slot (Ref n)) d)

read-beside : (e : Moment) (x : Texts) (at : Site) (slot : ℕ) (v : Value) → out_read (beside x e) at slot v (begins (beside x e)) ≡ keeping x (out_read e at slot v (begins e))
read-beside e x at slot Unset = ends_as x (made e at slot)
read-beside e x at slot (Int n) = ends_as x (made e at slot)
read-beside e x at slot (Long n) = ends_as x (made e at slot)
read-beside e x at slot LongHigh = ends_as x (made e at slot)
read-beside e x at slot Null = ends_as x (made e at slot)
read-beside e x at slot (Ref o) = ends_as x (leaving_values e at (Ref o ∷ (current_frame e).operands) (begins e))

pub out-beside : (e : Moment) (x : Texts) (y : OutRead) → out_row (beside x e) y ≡ keeping x (out_row e y)
out-beside e x y = let slot = (field_at e.program y.field).slot in read-beside e x y.at slot (static_at e.before.guest slot)

pub out_answered : (p : Linked) (x : Texts) (m m' : MachineState) (t : ℕ) (y : OutRead) (end : EventEnd) (out out' : List Record) → m'.guest.texts ≡ no_texts → out_turn p (kept_of m) t ≡ Some y
    → EventAnswers (out_row (moment p m t) y) end m m' out out' → TextAnswers (event_with_texts p (spoken x (kept_of m)) t) end m m' x x out out'
out_answered p x m m' t y end out out' none read h =
    let e : Moment = moment p m t in
    subst (λ (o : Outcome Kept). TextAnswers o end m m' x x out out')
    (sym (of_out p (spoken x (kept_of m)) t y (out-blind p x (kept_of m) t ∙ read) ∙ out-beside e x y))
    (texts-answered x (out_row e y) end m m' out out' none h)

-- A STATE IS SOUND WITH ANY TEXTS

abbrev with_texts : GuestState → Texts → GuestState
with_texts g x = record g { texts = x }

monitor-spoken : (g : GuestState) (x : Texts) (m : Monitor) → IsSoundMonitor g m → IsSoundMonitor (with_texts g x) m
monitor-spoken g x m h = record { count = h.count; owned = h.owned; owner = h.owner }

class-spoken : (g : GuestState) (x : Texts) (c : ClassState) → IsSoundClassState g c → IsSoundClassState (with_texts g x) c
class-spoken g x Untouched h = h
class-spoken g x (Begun t) h = h
class-spoken g x Done h = h
class-spoken g x Failed h = h

object-spoken : (p : Linked) (s : Kept) (x : Texts) (o : Option ℕ) → HasThreadObject p s o → HasThreadObject p (spoken x s) o
object-spoken p s x None h = h
object-spoken p s x (Some o) h = h

thread-spoken : (p : Linked) (s : Kept) (x : Texts) (t : ℕ) → IsSoundThread p s t → IsSoundThread p (spoken x s) t
thread-spoken p s x t h = record { frames = h.frames; few_frames = h.few_frames; object = λ later going. object-spoken p s x _ (h.object later going) }

static-spoken : (p : Linked) (g : GuestState) (x : Texts) (i : ℕ) → IsSoundStatic p g i → IsSoundStatic p (with_texts g x) i
static-spoken p g x i h = record { value = h.value; untouched = h.untouched }

pub held-spoken : (s : Kept) (x : Texts) → IsSound s → IsSound (spoken x s)
held-spoken s x h = record { room = h.room; none = h.none; roots = h.roots; slots = h.slots; referents = h.referents }

pub sound-spoken : (p : Linked) (s : Kept) (x : Texts) → IsSoundFor p s → IsSoundFor p (spoken x s)
sound-spoken p s x h = record {
  held = held-spoken s x h.held;
  clock = h.clock;
  fits = h.fits;
  objects = λ o y at. ((h.objects o y at).0, monitor-spoken s.guest x _ (h.objects o y at).1);
  threads = λ t lt. thread-spoken p s x t (h.threads t lt);
  few_threads = h.few_threads;
  entry = h.entry;
  classes = (h.classes.0, λ k d lt. class-spoken s.guest x _ (h.classes.1 k d lt));
  class_monitors = (h.class_monitors.0, λ k d lt. monitor-spoken s.guest x _ (h.class_monitors.1 k d lt));
  statics = (h.statics.0, λ i lt. static-spoken p s.guest x i (h.statics.1 i lt));
}
