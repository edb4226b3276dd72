-- A thread becomes another one.
use Rattle.std.proofs.Common.{◌≡◌, ℕ, ◌<◌, ◌≤◌, false, List, length, set, get_or, Option, Some, None, sym, subst, inl, inr, arith, get_or-set_same}
use Rattle.std.specs.Prelude.{All, IsSome}
use Rattle.std.proofs.lemmas.Bool.{cases_eq}
use Rattle.std.proofs.lemmas.List.{length-set, get_or-set_other}
use Rattle.et_base.specs.declared.value.Value.{Value}
use Rattle.et_heap.specs.declared.monitor.Monitor.{Monitor}
use Rattle.et_program.specs.Entries.{Linked}
use Rattle.et_state.specs.declared.class_state.ClassState.{ClassState}
use Rattle.et_state.specs.Threads.{FrameState, ThreadState, no_thread, most_threads, most_frames, with_pending, as_entered, as_ended}
use Rattle.et_state.specs.State.{GuestState, Kept}
use Rattle.et_state.specs.Words.{thread_at, with_thread}
use Rattle.et_event.specs.Sound.{AreSoundFrames, HasThreadObject, IsSoundClassState, IsSoundMonitor, IsSoundStatic, IsSoundThread}
use Rattle.et_history.specs.soundness.WellFormed.{IsWellFormed, MayBeThread}
use Rattle.et_history.proofs.soundness.Growing.{Grows, objects_grow, monitors_grow, classes_grow}

-- A STATE WITH ANOTHER GUEST

abbrev pub guest_now : Kept → GuestState → Kept
guest_now s g = record { heap = s.heap; guest = g }

pub object_still : (p : Linked) (s : Kept) (g : GuestState) (object : Option ℕ) → HasThreadObject p s object → HasThreadObject p (guest_now s g) object
object_still p s g None h = h
object_still p s g (Some o) h = h

-- .. with the same threads: what it keeps beside them is sound again
pub beside_threads : (p : Linked) (s : Kept) (classes : List ClassState) (monitors : List Monitor) (statics : List Value) (strings : List (List ℕ × ℕ))
    → let g : GuestState = record s.guest { classes = classes; class_monitors = monitors; statics = statics; interned = strings } in
    IsWellFormed p s → (length classes ≡ length p.classes) × All (IsSoundClassState s.guest) classes → (length monitors ≡ length p.classes) × All (IsSoundMonitor s.guest) monitors → (length statics ≡ length p.statics) × ((i : ℕ) → i < length p.statics → IsSoundStatic p g i)
    → IsWellFormed p (guest_now s g)
beside_threads p s classes monitors statics strings h of_classes of_monitors of_statics =
    let g : GuestState = record s.guest { classes = classes; class_monitors = monitors; statics = statics; interned = strings } in
    let w : Grows s.guest g = record { clock = omega arith; threads = omega arith } in
    record {
      clock = h.clock;
      objects = objects_grow p s g w h;
      threads = λ t le. let was = h.threads t le in record { frames = was.frames; few_frames = was.few_frames; object = λ some unended. object_still p s g _ (was.object some unended) };
      thread_objects = h.thread_objects;
      few_threads = h.few_threads;
      entry = h.entry;
      classes = (of_classes.0, classes_grow s.guest g classes w of_classes.1);
      class_monitors = (of_monitors.0, monitors_grow s.guest g monitors w of_monitors.1);
      statics = of_statics;
    }

-- EACH THREAD

-- what thread k is, where thread t became x
pub record IsNow (p : Linked) (s : Kept) (k : ℕ) (y : ThreadState) : Type 0 where
  pub frames : AreSoundFrames p y.frames
  pub few_frames : length y.frames ≤ most_frames
  pub object : 0 < k → y.ended ≡ false → HasThreadObject p s y.object
  pub made : (o : ℕ) → y.ended ≡ false → y.object ≡ Some o → o < length s.heap

was_so : (p : Linked) (s : Kept) (k : ℕ) → IsWellFormed p s → k < length s.guest.threads → IsNow p s k (thread_at s.guest k)
was_so p s k h lt = let t = h.threads k lt in record { frames = t.frames; few_frames = t.few_frames; object = t.object; made = λ o unended e. h.thread_objects k o lt unended e }

is_so : (p : Linked) (s : Kept) (t : ℕ) (x : ThreadState) → MayBeThread p s t x → IsNow p s t x
is_so p s t x may = record { frames = may.frames; few_frames = may.few_frames; object = may.object; made = may.made }

each_now : (p : Linked) (s : Kept) (t k : ℕ) (x : ThreadState) → IsWellFormed p s → t < length s.guest.threads → k < length s.guest.threads → MayBeThread p s t x → IsNow p s k (get_or (set s.guest.threads t x) k no_thread)
each_now p s t k x h lt le may =
    elim (cases_eq k t) [
      | inl e ↦ subst (λ (j : ℕ). IsNow p s j (get_or (set s.guest.threads t x) j no_thread)) (sym e) (subst (λ (y : ThreadState). IsNow p s t y) (sym (get_or-set_same s.guest.threads t x no_thread lt)) (is_so p s t x may))
      | inr ne ↦ subst (λ (y : ThreadState). IsNow p s k y) (sym (get_or-set_other s.guest.threads t k x no_thread ne)) (was_so p s k h le)
    ]

abbrev HasEntry : ThreadState → Type 0
HasEntry x = x.entered ≡ false → x.ended ≡ false → IsSome x.entry

entry_now : (p : Linked) (s : Kept) (t : ℕ) (x : ThreadState) → IsWellFormed p s → t < length s.guest.threads → MayBeThread p s t x → HasEntry (get_or (set s.guest.threads t x) 0 no_thread)
entry_now p s t x h lt may =
    elim (cases_eq 0 t) [
      | inl e ↦ subst (λ (j : ℕ). HasEntry (get_or (set s.guest.threads t x) j no_thread)) (sym e) (subst (λ (y : ThreadState). HasEntry y) (sym (get_or-set_same s.guest.threads t x no_thread lt)) (λ entered unended. may.entry (sym e) entered unended))
      | inr ne ↦ subst (λ (y : ThreadState). HasEntry y) (sym (get_or-set_other s.guest.threads t 0 x no_thread ne)) (λ entered unended. h.entry entered unended)
    ]

thread_now : (p : Linked) (s : Kept) (g : GuestState) (k : ℕ) → IsNow p s k (thread_at g k) → IsSoundThread p (guest_now s g) k
thread_now p s g k n = record {
  frames = n.frames;
  few_frames = n.few_frames;
  object = λ some unended. object_still p s g (thread_at g k).object (n.object some unended);
}

-- THE STATE
pub with_thread_well : (p : Linked) (s : Kept) (t : ℕ) (x : ThreadState) → IsWellFormed p s → t < length s.guest.threads → MayBeThread p s t x → IsWellFormed p (guest_now s (with_thread s.guest t x))
with_thread_well p s t x h lt may =
    let g : GuestState = with_thread s.guest t x in
    let same : length (set s.guest.threads t x) ≡ length s.guest.threads = length-set s.guest.threads t x in
    let w : Grows s.guest g = record { clock = omega arith; threads = omega arith } in
    record {
      clock = h.clock;
      objects = objects_grow p s g w h;
      threads = λ k le. thread_now p s g k (each_now p s t k x h lt (subst (λ (n : ℕ). k < n) same le) may);
      thread_objects = λ k o le unended e. (each_now p s t k x h lt (subst (λ (n : ℕ). k < n) same le) may).made o unended e;
      few_threads = subst (λ (n : ℕ). n ≤ most_threads) (sym same) h.few_threads;
      entry = entry_now p s t x h lt may;
      classes = (h.classes.0, classes_grow s.guest g s.guest.classes w h.classes.1);
      class_monitors = (h.class_monitors.0, monitors_grow s.guest g s.guest.class_monitors w h.class_monitors.1);
      statics = (h.statics.0, λ i le. let was = h.statics.1 i le in record { value = was.value; untouched = was.untouched });
    }

-- WHAT A THREAD MAY BECOME

entry_of_first : (s : Kept) (t : ℕ) → HasEntry (thread_at s.guest 0) → t ≡ 0 → HasEntry (thread_at s.guest t)
entry_of_first s t h e = subst (λ (k : ℕ). HasEntry (thread_at s.guest k)) (sym e) h

-- it has other frames
pub may_have_frames : (p : Linked) (s : Kept) (t : ℕ) (fs : List FrameState) → IsWellFormed p s → t < length s.guest.threads → AreSoundFrames p fs → length fs ≤ most_frames → MayBeThread p s t (record (thread_at s.guest t) { frames = fs })
may_have_frames p s t fs h lt frames few =
    let was = h.threads t lt in
    record { frames = frames; few_frames = few; object = was.object; made = λ o unended e. h.thread_objects t o lt unended e; entry = λ e. entry_of_first s t (λ entered unended. h.entry entered unended) e }

-- an exception becomes pending, or none is
pub may_throw : (p : Linked) (s : Kept) (t : ℕ) (q : Option ℕ) → IsWellFormed p s → t < length s.guest.threads → MayBeThread p s t (with_pending q (thread_at s.guest t))
may_throw p s t q h lt =
    let was = h.threads t lt in
    record { frames = was.frames; few_frames = was.few_frames; object = was.object; made = λ o unended e. h.thread_objects t o lt unended e; entry = λ e. entry_of_first s t (λ entered unended. h.entry entered unended) e }

true_is_entered : (x : ThreadState) → HasEntry (as_entered x)
true_is_entered x e = absurd (not_both e)
  where
    not_both : (as_entered x).entered ≡ false → ⊥
    not_both q = cc

-- it counts as entered
pub may_be_entered : (p : Linked) (s : Kept) (t : ℕ) → IsWellFormed p s → t < length s.guest.threads → MayBeThread p s t (as_entered (thread_at s.guest t))
may_be_entered p s t h lt =
    let was = h.threads t lt in
    record { frames = was.frames; few_frames = was.few_frames; object = was.object; made = λ o unended e. h.thread_objects t o lt unended e; entry = λ e. true_is_entered (thread_at s.guest t) }

ended_not : (x : ThreadState) → (as_ended x).ended ≡ false → ⊥
ended_not x e = cc

-- it ends
pub may_end : (p : Linked) (s : Kept) (t : ℕ) → IsWellFormed p s → t < length s.guest.threads → MayBeThread p s t (as_ended (thread_at s.guest t))
may_end p s t h lt =
    let x : ThreadState = thread_at s.guest t in
    let was = h.threads t lt in
    record {
      frames = was.frames;
      few_frames = was.few_frames;
      object = λ some unended. absurd (ended_not x unended);
      made = λ o unended e. absurd (ended_not x unended);
      entry = λ e entered unended. absurd (ended_not x unended);
    }
