-- A sound state is well formed, and the other way round.
use Rattle.std.proofs.Common.{◌≡◌, ℕ, ◌<◌, ◌^◌, true, false, [], ◌++◌, length, Option, Some, None, Contains, sym, subst, arith}
use Rattle.std.specs.Prelude.{option_to_list}
use Rattle.std.proofs.lemmas.List.Elements.{Contains-append_right}
use Rattle.et_base.proofs.Lists.{Contains-here}
use Rattle.et_program.specs.Entries.{Linked}
use Rattle.et_heap.proofs.HeapLists.{held_within}
use Rattle.et_state.specs.Threads.{ThreadState, ended_roots}
use Rattle.et_state.specs.State.{GuestState, Kept}
use Rattle.et_state.specs.Words.{thread_at, ticked}
use Rattle.et_state.specs.Sound.{IsSound}
use Rattle.et_state.proofs.Places.{ended_root}
use Rattle.et_event.specs.Moments.{fits_heap, later}
use Rattle.et_event.specs.Sound.{HasThreadObject, IsSoundFor, IsSoundThread}
use Rattle.et_history.specs.soundness.WellFormed.{IsWellFormed}
use Rattle.et_history.proofs.soundness.Growing.{Grows, objects_grow, monitors_grow, classes_grow}

-- the Thread object of a thread that has not ended is held
pub object_within : (s : Kept) (t o : ℕ) → IsSound s → t < length s.guest.threads → (thread_at s.guest t).ended ≡ false → (thread_at s.guest t).object ≡ Some o → o < length s.heap
object_within s t o sound lt unended e =
    let x : ThreadState = thread_at s.guest t in
    let here : Contains (option_to_list x.object) o = subst (λ (q : Option ℕ). Contains (option_to_list q) o) (sym e) (Contains-here o []) in
    let there : Contains (ended_roots x) o = Contains-append_right (option_to_list x.pending) (option_to_list x.entry ++ option_to_list x.object) o (Contains-append_right (option_to_list x.entry) (option_to_list x.object) o here) in
    held_within s.heap o (sound.roots o (ended_root s.guest t o lt unended there))

pub well_formed : (p : Linked) (s : Kept) → IsSoundFor p s → IsWellFormed p s
well_formed p s h = record {
  clock = h.clock;
  objects = h.objects;
  threads = h.threads;
  thread_objects = λ t o lt unended e. object_within s t o h.held lt unended e;
  few_threads = h.few_threads;
  entry = h.entry;
  classes = h.classes;
  class_monitors = h.class_monitors;
  statics = h.statics;
}

pub sound : (p : Linked) (s : Kept) → IsSound s → fits_heap s.heap ≡ true → IsWellFormed p s → IsSoundFor p s
sound p s held fit h = record {
  held = held;
  clock = h.clock;
  fits = fit;
  objects = h.objects;
  threads = h.threads;
  few_threads = h.few_threads;
  entry = h.entry;
  classes = h.classes;
  class_monitors = h.class_monitors;
  statics = h.statics;
}

thread_later : (p : Linked) (s : Kept) (t : ℕ) → IsSoundThread p s t → IsSoundThread p (later s) t
thread_later p s t h = record { frames = h.frames; few_frames = h.few_frames; object = λ some unended. still (thread_at s.guest t).object (h.object some unended) }
  where
    still : (object : Option ℕ) → HasThreadObject p s object → HasThreadObject p (later s) object
    still None i = i
    still (Some o) i = i

-- THE CLOCK GOES ON
pub well_later : (p : Linked) (s : Kept) → s.guest.clock < 2 ^ 40 → IsWellFormed p s → IsWellFormed p (later s)
well_later p s lt h =
    let g' : GuestState = ticked s.guest in
    let w : Grows s.guest g' = record { clock = omega arith; threads = omega arith } in
    record {
      clock = omega arith;
      objects = objects_grow p s g' w h;
      threads = λ t le. thread_later p s t (h.threads t le);
      thread_objects = h.thread_objects;
      few_threads = h.few_threads;
      entry = h.entry;
      classes = (h.classes.0, classes_grow s.guest g' s.guest.classes w h.classes.1);
      class_monitors = (h.class_monitors.0, monitors_grow s.guest g' s.guest.class_monitors w h.class_monitors.1);
      statics = (h.statics.0, λ i le. let was = h.statics.1 i le in record { value = was.value; untouched = was.untouched });
    }
