-- A flush of what isn't reached leaves a sound state of the program.
use Rattle.std.proofs.Common.{◌≡◌, ℕ, ◌+◌, ◌-◌, ◌<◌, ◌≤◌, ◌↔◌, ◌||◌, Bool, true, false, List, [], ◌∷◌, ◌++◌, length, Option, Some, None, Contains, refl, sym, ◌∙◌, ap, subst, arith}
use Rattle.std.specs.Prelude.{codes, nat_le, option_to_list}
use Rattle.std.proofs.lemmas.Bool.{and_parts, and_from, leb-true, le-leb}
use Rattle.std.proofs.lemmas.List.Elements.{Contains-append_right}
use Rattle.std.proofs.lemmas.List.Sums.{sum_by-cons}
use Rattle.std.proofs.lemmas.Option.{same_Some, none-some}
use Rattle.et_graph.specs.Graph.{IsReached}
use Rattle.et_base.proofs.Lists.{Contains-here}
use Rattle.et_program.specs.Entries.{Linked}
use Rattle.et_program.specs.Members.{is_subclass}
use Rattle.et_heap.specs.Objects.{ObjectState, Objects, IsHeld, at, object_at, made_count, slot_count, slots_in, most_objects, most_slots}
use Rattle.et_heap.specs.Remaining.{kept_referent, left_place, remaining}
use Rattle.et_state.specs.Threads.{ThreadState, ended_roots}
use Rattle.et_state.specs.State.{GuestState, Kept}
use Rattle.et_state.specs.Words.{thread_at}
use Rattle.et_state.specs.Roots.{graph_of}
use Rattle.et_state.proofs.Places.{ended_root}
use Rattle.et_state.specs.Enqueuing.{newcomers, begins_to_wait, joined_place, joined_from, flushed_heap}
use Rattle.et_state.proofs.Enqueued.{length-flushed, sound_flushed, flushed_at, flushed_same}
use Rattle.et_event.specs.Errors.{class_called}
use Rattle.et_event.specs.Moments.{fits_heap}
use Rattle.et_event.specs.Sound.{HasThreadObject, IsSoundObject, IsSoundMonitor, IsSoundThread, IsSoundFor}

-- here says of each object that is held whether it is reached
abbrev Tells : Kept → (ℕ → Bool) → Type 0
Tells s here = (o : ℕ) → IsHeld s.heap o → (here o ≡ true) ↔ IsReached (graph_of s) o

abbrev flushed : Kept → (ℕ → Bool) → Kept
flushed s here = record { heap = flushed_heap here s.heap; guest = s.guest }

-- OBJECTS

abbrev with_less : (ℕ → Bool) → ObjectState → ObjectState
with_less here x = record x { referent = kept_referent here x.referent }

-- other references may wait in it, and it may wait
abbrev waiting_as : List ℕ → Bool → ObjectState → ObjectState
waiting_as ws b x = record x { waiting = ws; waits = b }

sound_waiting : (p : Linked) (ws : List ℕ) (b : Bool) (x : ObjectState) → IsSoundObject p x → IsSoundObject p (waiting_as ws b x)
sound_waiting p ws b x h = record {
  class = h.class;
  slots = h.slots;
  fields = λ f lt static below. let has = h.fields f lt static below in record { slot = has.slot; value = has.value };
  elements = h.elements;
}

sound_with_less : (p : Linked) (here : ℕ → Bool) (x : ObjectState) → IsSoundObject p x → IsSoundObject p (with_less here x)
sound_with_less p here x h = record {
  class = h.class;
  slots = h.slots;
  fields = λ f lt static below. let has = h.fields f lt static below in record { slot = has.slot; value = has.value };
  elements = h.elements;
}

abbrev IsSoundIn : Linked → GuestState → ObjectState → Type 0
IsSoundIn p g x = IsSoundObject p x × IsSoundMonitor g x.monitor

monitor_with_less : (g : GuestState) (here : ℕ → Bool) (x : ObjectState) → IsSoundMonitor g x.monitor → IsSoundMonitor g (with_less here x).monitor
monitor_with_less g here x h = h

object_left : (p : Linked) (g : GuestState) (here : ℕ → Bool) (coming : ℕ → List ℕ) (begins : ℕ → Bool) (k : ℕ) (b : Bool) (o : Option ObjectState) (y : ObjectState)
    → ((x : ObjectState) → o ≡ Some x → IsSoundIn p g x) → joined_place coming begins k (left_place here b o) ≡ Some y → IsSoundIn p g y
object_left p g here coming begins k true None y sound e = absurd (none-some y e)
object_left p g here coming begins k false None y sound e = absurd (none-some y e)
object_left p g here coming begins k false (Some x) y sound e = absurd (none-some y e)
object_left p g here coming begins k true (Some x) y sound e =
    let was : IsSoundIn p g x = sound x refl in
    let ws : List ℕ = x.waiting ++ coming k in
    let waits : Bool = x.waits || begins k in
    subst (λ (z : ObjectState). IsSoundIn p g z) (same_Some (waiting_as ws waits (with_less here x)) y e)
    (sound_waiting p ws waits (with_less here x) (sound_with_less p here x was.0), monitor_with_less g here x was.1)

-- THREADS

-- the Thread object of a thread that has not ended is a root, and so it stays
thread_object_left : (p : Linked) (s : Kept) (here : ℕ → Bool) (object : Option ℕ) → ((o : ℕ) → object ≡ Some o → here o ≡ true) → HasThreadObject p s object → HasThreadObject p (flushed s here) object
thread_object_left p s here None stays h = h
thread_object_left p s here (Some o) stays h =
    let class : (object_at (flushed_heap here s.heap) o).class ≡ (object_at s.heap o).class = flushed_same (λ x. x.class) (λ x r ws b. refl) here s.heap o (stays o refl) in
    ap (λ (c : ℕ). is_subclass p c (class_called p (codes "java/lang/Thread"))) class ∙ h

object_stays : (p : Linked) (s : Kept) (here : ℕ → Bool) (t o : ℕ) → IsSoundFor p s → Tells s here → t < length s.guest.threads → (thread_at s.guest t).ended ≡ false → (thread_at s.guest t).object ≡ Some o → here o ≡ true
object_stays p s here t o sound tells lt unended e =
    let x : ThreadState = thread_at s.guest t in
    let own : Contains (option_to_list x.object) o = subst (λ (q : Option ℕ). Contains (option_to_list q) o) (sym e) (Contains-here o []) in
    let ends : Contains (ended_roots x) o = Contains-append_right (option_to_list x.pending) (option_to_list x.entry ++ option_to_list x.object) o (Contains-append_right (option_to_list x.entry) (option_to_list x.object) o own) in
    let root = ended_root s.guest t o lt unended ends in
    let reached : IsReached (graph_of s) o = (o, root, ([], refl)) in
    (tells o (sound.held.roots o root)).1 reached

thread_left : (p : Linked) (s : Kept) (here : ℕ → Bool) (t : ℕ) → IsSoundFor p s → Tells s here → t < length s.guest.threads → IsSoundThread p (flushed s here) t
thread_left p s here t sound tells lt =
    let was : IsSoundThread p s t = sound.threads t lt in
    record {
      frames = was.frames;
      few_frames = was.few_frames;
      object = λ some unended. thread_object_left p s here (thread_at s.guest t).object (λ o e. object_stays p s here t o sound tells lt unended e) (was.object some unended);
    }

-- WHAT FITS

slots_left : (here : ℕ → Bool) (b : Bool) (x : Option ObjectState) → slots_in (left_place here b x) ≤ slots_in x
slots_left here true None = omega arith
slots_left here false None = omega arith
slots_left here true (Some x) = omega arith
slots_left here false (Some x) = omega arith

fewer_slots : (here : ℕ → Bool) (k : ℕ) (heap : Objects) → slot_count (remaining here k heap) ≤ slot_count heap
fewer_slots here k [] = omega arith
fewer_slots here k (x ∷ xs) =
    let one : slots_in (left_place here (here k) x) ≤ slots_in x = slots_left here (here k) x in
    let rest : slot_count (remaining here (k + 1) xs) ≤ slot_count xs = fewer_slots here (k + 1) xs in
    omega (arith, sum_by-cons slots_in x xs, sum_by-cons slots_in (left_place here (here k) x) (remaining here (k + 1) xs))

joined_slots : (coming : ℕ → List ℕ) (begins : ℕ → Bool) (k : ℕ) (x : Option ObjectState) → slots_in (joined_place coming begins k x) ≡ slots_in x
joined_slots coming begins k None = refl
joined_slots coming begins k (Some x) = refl

as_many_slots : (coming : ℕ → List ℕ) (begins : ℕ → Bool) (k : ℕ) (heap : Objects) → slot_count (joined_from coming begins k heap) ≡ slot_count heap
as_many_slots coming begins k [] = refl
as_many_slots coming begins k (x ∷ xs) =
    omega (arith, joined_slots coming begins k x, as_many_slots coming begins (k + 1) xs, sum_by-cons slots_in x xs, sum_by-cons slots_in (joined_place coming begins k x) (joined_from coming begins (k + 1) xs))

fits_left : (here : ℕ → Bool) (heap : Objects) → fits_heap heap ≡ true → fits_heap (flushed_heap here heap) ≡ true
fits_left here heap h =
    let parts = and_parts (nat_le (made_count heap) most_objects) (nat_le (slot_count heap) most_slots) h in
    let made : made_count (flushed_heap here heap) ≡ made_count heap = ap (λ (n : ℕ). n - 1) (length-flushed here heap) in
    let few : made_count heap ≤ most_objects = leb-true (made_count heap) most_objects parts.0 in
    let slots : slot_count heap ≤ most_slots = leb-true (slot_count heap) most_slots parts.1 in
    let fewer : slot_count (remaining here 0 heap) ≤ slot_count heap = fewer_slots here 0 heap in
    let same : slot_count (flushed_heap here heap) ≡ slot_count (remaining here 0 heap) = as_many_slots (newcomers here heap) (begins_to_wait here heap) 0 (remaining here 0 heap) in
    let a : made_count (flushed_heap here heap) ≤ most_objects = subst (λ (n : ℕ). n ≤ most_objects) (sym made) few in
    let b : slot_count (flushed_heap here heap) ≤ most_slots = omega arith in
    and_from (nat_le (made_count (flushed_heap here heap)) most_objects) (nat_le (slot_count (flushed_heap here heap)) most_slots) (le-leb (made_count (flushed_heap here heap)) most_objects a) (le-leb (slot_count (flushed_heap here heap)) most_slots b)

-- THE STATE

pub sound_left : (p : Linked) (s : Kept) (here : ℕ → Bool) → IsSoundFor p s → Tells s here → IsSoundFor p (flushed s here)
sound_left p s here sound tells = record {
  held = sound_flushed s here sound.held tells;
  clock = sound.clock;
  fits = fits_left here s.heap sound.fits;
  objects = λ o y e. object_left p s.guest here (newcomers here s.heap) (begins_to_wait here s.heap) o (here o) (at s.heap o) y (λ x is. sound.objects o x is) (sym (flushed_at here s.heap o) ∙ e);
  threads = λ t lt. thread_left p s here t sound tells lt;
  few_threads = sound.few_threads;
  entry = sound.entry;
  classes = sound.classes;
  class_monitors = sound.class_monitors;
  statics = sound.statics;
}
