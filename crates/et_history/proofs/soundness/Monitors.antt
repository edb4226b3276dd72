-- Monitors are entered and left, classes go on with their initialization, threads are started.
use Rattle.std.proofs.Common.{◌≡◌, ℕ, zero, suc, ◌+◌, ◌-◌, ◌<◌, ◌≤◌, ◌⊎◌, Bool, true, false, List, [], ◌∷◌, ◌++◌, length, set, get_or, Some, None, refl, sym, ◌∙◌, ap, subst, inl, inr, arith, get_or-set_same}
use Rattle.std.specs.Prelude.{All, nat_le, IsSome, if◌then◌else◌}
use Rattle.std.specs.List.{slice_index_or}
use Rattle.std.proofs.lemmas.Bool.{cases_eq, cases_lt, leb-false}
use Rattle.std.proofs.lemmas.List.{length-set, length-append, get_or-set_other, get_or_append_left, get_or-append_right}
use Rattle.et_program.specs.Entries.{Linked, field_at}
use Rattle.et_heap.specs.Objects.{ObjectState, IsHeld, free_monitor, object_at, with_monitor}
use Rattle.et_heap.specs.declared.monitor.Monitor.{Monitor}
use Rattle.et_heap.proofs.HeapLists.{held_within}
use Rattle.et_state.specs.Threads.{ThreadState, no_thread, new_thread, most_threads, most_frames}
use Rattle.et_state.specs.declared.class_state.ClassState.{ClassState}
use Rattle.et_state.specs.declared.class_state.ClassState.TheVariants.{Untouched}
use Rattle.et_state.specs.State.{GuestState, Kept}
use Rattle.et_state.specs.Words.{thread_at, class_state_at, class_monitor_at, with_class_state, with_new_thread, with_string}
use Rattle.et_event.specs.BuiltIns.{with_thread_for}
use Rattle.et_event.specs.Initialization.{with_state}
use Rattle.et_event.specs.Moments.{Moment, Doing, fits_heap}
use Rattle.et_event.specs.Monitors.{Lock, OfObject, OfClass, monitor_of, with_monitor_of, entered, left, left_once}
use Rattle.et_event.specs.Sound.{AreSoundFrames, HasThreadObject, IsSoundMonitor, IsSoundClassState}
use Rattle.et_history.specs.soundness.WellFormed.{IsWellFormed, IsThere}
use Rattle.et_history.proofs.soundness.Growing.{Grows, objects_grow, monitors_grow, classes_grow, free_is_sound}
use Rattle.et_history.proofs.soundness.Objects.{object_well, object_is_sound}
use Rattle.et_history.proofs.soundness.Slots.{set_all, monitor_sound, fits_still}
use Rattle.et_history.proofs.soundness.Threads.{beside_threads, guest_now, object_still}

-- A GUEST with the same threads and static slots, and the same states of classes

same_guest : (p : Linked) (s : Kept) (monitors : List Monitor) (strings : List (List ℕ × ℕ)) → IsWellFormed p s → length monitors ≡ length p.classes → All (IsSoundMonitor s.guest) monitors
    → IsWellFormed p (guest_now s (record s.guest { class_monitors = monitors; interned = strings }))
same_guest p s monitors strings h n each =
    beside_threads p s s.guest.classes monitors s.guest.statics strings h h.classes (n, each) (h.statics.0, λ i le. let was = h.statics.1 i le in record { value = was.value; untouched = was.untouched })

-- a string is interned
pub string_well : (p : Linked) (s : Kept) (bytes : List ℕ) (o : ℕ) → IsWellFormed p s → IsWellFormed p (guest_now s (with_string s.guest bytes o))
string_well p s bytes o h = same_guest p s s.guest.class_monitors (s.guest.interned ++ (bytes, o) ∷ []) h h.class_monitors.0 h.class_monitors.1

-- MONITORS

class_monitor_sound : (p : Linked) (s : Kept) (c : ℕ) → IsWellFormed p s → IsSoundMonitor s.guest (class_monitor_at s.guest c)
class_monitor_sound p s c h =
    elim (cases_lt c (length s.guest.class_monitors)) [
      | inl lt ↦ h.class_monitors.1 c free_monitor lt
      | inr le ↦ subst (λ (m : Monitor). IsSoundMonitor s.guest m) (sym (beyond s.guest.class_monitors c le)) (free_is_sound s.guest)
    ]
  where
    beyond : (ms : List Monitor) (k : ℕ) → length ms ≤ k → get_or ms k free_monitor ≡ free_monitor
    beyond [] k le = refl
    beyond (m ∷ ms) zero le = absurd (omega arith)
    beyond (m ∷ ms) (suc k) le = beyond ms k (omega arith)

monitor_is_sound : (p : Linked) (d : Doing) (lock : Lock) → IsWellFormed p d.state → IsThere d.state lock → IsSoundMonitor d.state.guest (monitor_of d lock)
monitor_is_sound p d (OfObject o) h there = (object_is_sound p d.state o h there).1
monitor_is_sound p d (OfClass c) h there = class_monitor_sound p d.state c h

with_monitor_well : (p : Linked) (d : Doing) (lock : Lock) (m : Monitor) → IsWellFormed p d.state → IsThere d.state lock → IsSoundMonitor d.state.guest m → IsWellFormed p (with_monitor_of lock m d).state
with_monitor_well p d (OfObject o) m h there sound =
    let x : ObjectState = object_at d.state.heap o in
    object_well p d.state o (with_monitor m x) h there (monitor_sound p x m (object_is_sound p d.state o h there).0) sound refl
with_monitor_well p d (OfClass c) m h there sound =
    let ms : List Monitor = d.state.guest.class_monitors in
    same_guest p d.state (set ms c m) d.state.guest.interned h (length-set ms c m ∙ h.class_monitors.0) (set_all (IsSoundMonitor d.state.guest) ms c m h.class_monitors.1 sound)

pub entered_well : (p : Linked) (e : Moment) (lock : Lock) (d : Doing) → IsWellFormed p d.state → IsThere d.state lock → e.thread < length d.state.guest.threads → (monitor_of d lock).count < d.state.guest.clock → IsWellFormed p (entered e lock d).state
entered_well p e lock d h there lt few =
    let m : Monitor = record { owner = Some e.thread; count = (monitor_of d lock).count + 1 } in
    with_monitor_well p d lock m h there (record { count = omega arith; owned = (λ s. omega arith, λ l. refl); owner = lt })

left_sound : (g : GuestState) (m : Monitor) → IsSoundMonitor g m → IsSoundMonitor g (left_once m)
left_sound g m h = by (nat_le m.count 1) refl
  where
    by : (b : Bool) → nat_le m.count 1 ≡ b → IsSoundMonitor g (if b then free_monitor else record { owner = m.owner; count = m.count - 1 })
    by true e = free_is_sound g
    by false e =
        let many : 1 < m.count = leb-false m.count 1 e in
        record { count = omega (arith, h.count); owned = (λ s. omega arith, λ l. h.owned.1 (omega arith)); owner = h.owner }

pub left_well : (p : Linked) (lock : Lock) (d : Doing) → IsWellFormed p d.state → IsThere d.state lock → IsWellFormed p (left lock d).state
left_well p lock d h there = with_monitor_well p d lock (left_once (monitor_of d lock)) h there (left_sound d.state.guest (monitor_of d lock) (monitor_is_sound p d lock h there))

-- nobody entered a monitor more often than there were events
pub monitor_count : (p : Linked) (d : Doing) (lock : Lock) → IsWellFormed p d.state → IsThere d.state lock → (monitor_of d lock).count ≤ d.state.guest.clock
monitor_count p d lock h there = (monitor_is_sound p d lock h there).count

monitor_fits : (lock : Lock) (m : Monitor) (d : Doing) → IsThere d.state lock → fits_heap d.state.heap ≡ true → fits_heap (with_monitor_of lock m d).state.heap ≡ true
monitor_fits (OfObject o) m d there h = fits_still d.state.heap o (with_monitor m (object_at d.state.heap o)) there refl h
monitor_fits (OfClass c) m d there h = h

pub entered_fits : (e : Moment) (lock : Lock) (d : Doing) → IsThere d.state lock → fits_heap d.state.heap ≡ true → fits_heap (entered e lock d).state.heap ≡ true
entered_fits e lock d there h = monitor_fits lock (record { owner = Some e.thread; count = (monitor_of d lock).count + 1 }) d there h

pub left_fits : (lock : Lock) (d : Doing) → IsThere d.state lock → fits_heap d.state.heap ≡ true → fits_heap (left lock d).state.heap ≡ true
left_fits lock d there h = monitor_fits lock (left_once (monitor_of d lock)) d there h

-- A CLASS goes on

pub untouched_before : (g : GuestState) (c k : ℕ) (x : ClassState) → c < length g.classes → (x ≡ Untouched → ⊥) → class_state_at (with_class_state g c x) k ≡ Untouched → class_state_at g k ≡ Untouched
untouched_before g c k x lt touched u =
    elim (cases_eq k c) [
      | inl e ↦ absurd (touched (sym (get_or-set_same g.classes c x Untouched lt) ∙ subst (λ (j : ℕ). class_state_at (with_class_state g c x) j ≡ Untouched) e u))
      | inr ne ↦ sym (get_or-set_other g.classes c k x Untouched ne) ∙ u
    ]

pub class_well : (p : Linked) (c : ℕ) (x : ClassState) (d : Doing) → IsWellFormed p d.state → c < length p.classes → IsSoundClassState d.state.guest x → (x ≡ Untouched → ⊥) → IsWellFormed p (with_state c x d).state
class_well p c x d h lt sound touched =
    let s : Kept = d.state in
    let inside : c < length s.guest.classes = omega (arith, h.classes.0) in
    beside_threads p s (set s.guest.classes c x) s.guest.class_monitors s.guest.statics s.guest.interned h (length-set s.guest.classes c x ∙ h.classes.0, set_all (IsSoundClassState s.guest) s.guest.classes c x h.classes.1 sound) h.class_monitors
    (h.statics.0, λ i le. let was = h.statics.1 i le in record { value = was.value; untouched = λ u. was.untouched (untouched_before s.guest c (field_at p (slice_index_or p.statics i 0)).class x inside touched u) })

-- A THREAD is started

-- what stands at a place of the threads, one of which is new
record IsOldOrNew (ts : List ThreadState) (x : ThreadState) (k : ℕ) (y : ThreadState) : Type 0 where
  is : ((k < length ts) × (y ≡ get_or ts k no_thread)) ⊎ (y ≡ x)

old_or_new : (ts : List ThreadState) (x : ThreadState) (k : ℕ) → k < length (ts ++ x ∷ []) → IsOldOrNew ts x k (get_or (ts ++ x ∷ []) k no_thread)
old_or_new ts x k lt =
    let n : length (ts ++ x ∷ []) ≡ length ts + length (x ∷ []) = length-append ts (x ∷ []) in
    elim (cases_lt k (length ts)) [
      | inl old ↦ record { is = inl (old, get_or_append_left ts (x ∷ []) no_thread k old) }
      | inr le ↦
          let same : k ≡ length ts = omega arith in
          let at_end : get_or (ts ++ x ∷ []) k no_thread ≡ get_or (x ∷ []) (k - length ts) no_thread = get_or-append_right ts (x ∷ []) (length ts) k no_thread refl le in
          let zero_at : k - length ts ≡ 0 = omega arith in
          record { is = inr (at_end ∙ ap (λ (j : ℕ). get_or (x ∷ []) j no_thread) zero_at) }
    ]

abbrev started : ℕ → ThreadState
started o = new_thread None (Some o)

record IsThreadAt (p : Linked) (s : Kept) (k : ℕ) (y : ThreadState) : Type 0 where
  frames : AreSoundFrames p y.frames
  few_frames : length y.frames ≤ most_frames
  object : 0 < k → y.ended ≡ false → HasThreadObject p s y.object
  made : (q : ℕ) → y.ended ≡ false → y.object ≡ Some q → q < length s.heap

thread_is : (p : Linked) (s : Kept) (o k : ℕ) (y : ThreadState) → IsWellFormed p s → IsHeld s.heap o → HasThreadObject p s (Some o) → IsOldOrNew s.guest.threads (started o) k y → IsThreadAt p s k y
thread_is p s o k y h held object there =
    elim there.is [
      | inl old ↦
          let was = h.threads k old.0 in
          let so : IsThreadAt p s k (thread_at s.guest k) = record { frames = was.frames; few_frames = was.few_frames; object = was.object; made = λ q unended e. h.thread_objects k q old.0 unended e } in
          subst (λ (z : ThreadState). IsThreadAt p s k z) (sym old.1) so
      | inr new ↦ subst (λ (z : ThreadState). IsThreadAt p s k z) (sym new) (record { frames = tt; few_frames = (let few : 0 ≤ most_frames = omega arith in few); object = λ some unended. object; made = λ q unended e. subst (λ (j : ℕ). j < length s.heap) (own q e) (held_within s.heap o held) })
    ]
  where
    own : (q : ℕ) → (started o).object ≡ Some q → o ≡ q
    own q e = cc

pub started_well : (p : Linked) (o : ℕ) (d : Doing) → IsWellFormed p d.state → IsHeld d.state.heap o → HasThreadObject p d.state (Some o) → 0 < length d.state.guest.threads → length d.state.guest.threads < most_threads → IsWellFormed p (with_thread_for o d).state
started_well p o d h held object some few =
    let s : Kept = d.state in
    let ts : List ThreadState = s.guest.threads in
    let g : GuestState = with_new_thread s.guest (started o) in
    let n : length (ts ++ started o ∷ []) ≡ length ts + length (started o ∷ []) = length-append ts (started o ∷ []) in
    let w : Grows s.guest g = record { clock = omega arith; threads = omega arith } in
    let first : thread_at g 0 ≡ thread_at s.guest 0 = get_or_append_left ts (started o ∷ []) no_thread 0 some in
    record {
      clock = h.clock;
      objects = objects_grow p s g w h;
      threads = λ t le. let is = thread_is p s o t (thread_at g t) h held object (old_or_new ts (started o) t le) in record { frames = is.frames; few_frames = is.few_frames; object = λ more unended. object_still p s g (thread_at g t).object (is.object more unended) };
      thread_objects = λ t q le unended e. (thread_is p s o t (thread_at g t) h held object (old_or_new ts (started o) t le)).made q unended e;
      few_threads = omega arith;
      entry = λ entered unended. subst (λ (z : ThreadState). IsSome z.entry) (sym first) (h.entry (sym (ap (λ (z : ThreadState). z.entered) first) ∙ entered) (sym (ap (λ (z : ThreadState). z.ended) first) ∙ unended));
      classes = (h.classes.0, classes_grow s.guest g s.guest.classes w h.classes.1);
      class_monitors = (h.class_monitors.0, monitors_grow s.guest g s.guest.class_monitors w h.class_monitors.1);
      statics = (h.statics.0, λ i le. let was = h.statics.1 i le in record { value = was.value; untouched = was.untouched });
    }
