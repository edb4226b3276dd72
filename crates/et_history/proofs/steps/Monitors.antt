-- A monitor is entered or left.
use Rattle.et_history.specs.steps.Steps.{HasMonitor}
use Rattle.std.proofs.Common.{◌≡◌, ℕ, ◌+◌, ◌<◌, ◌≤◌, ◌⊎◌, Bool, true, false, List, length, set, get_or, Option, Some, None, refl, sym, ◌∙◌, ap, subst, inl, inr, arith, get_or-set_same}
use Rattle.std.specs.Prelude.{if◌then◌else◌, ◌==◌}
use Rattle.std.proofs.lemmas.Bool.{eqb-true, eq-eqb, true≢false, false≢true}
use Rattle.std.proofs.lemmas.List.{length-set, get_or-set_other}
use Rattle.et_heap.specs.declared.monitor.Monitor.{Monitor}
use Rattle.et_heap.specs.Objects.{ObjectState, Objects, IsHeld, found, free_monitor, object_at, with_monitor, with_object_at}
use Rattle.et_heap.proofs.HeapLists.{held_within, held_set, set_held}
use Rattle.et_state.specs.Sound.{IsSound}
use Rattle.et_state.specs.State.{Kept}
use Rattle.et_state.specs.Words.{with_class_monitor}
use Rattle.et_event.specs.Moments.{Moment, Doing, begins}
use Rattle.et_event.specs.Monitors.{Lock, OfObject, OfClass, monitor_of, with_monitor_of, is_owner, owns, left_once, entered, left}
use Rattle.et_history.specs.soundness.WellFormed.{IsThere}
use Rattle.et_history.specs.steps.Holding.{is_lock, monitor_in}
use Rattle.et_history.specs.steps.Changing.{entered_once, left_by_owner, becomes, Changes}
use Rattle.et_history.proofs.steps.Heaps.{sound_guest, slots_fine, referent_fine, object_sound, rest_held}
use Rattle.et_history.proofs.steps.WaitingLists.{keep_then, keep_set}
use Rattle.et_history.proofs.steps.Words.{Way, Still}

abbrev pub way : ℕ → Option Lock → Option Lock → Way
way n entry exit = record { frames = n; entry = entry; exit = exit }

pub is_there : (e : Moment) (lock : Lock) → HasMonitor e lock → IsThere e.before lock
is_there e (OfObject o) h = h
is_there e (OfClass c) h = tt

pub first_monitor : (e : Moment) (lock : Lock) → monitor_of (begins e) lock ≡ monitor_in e.before lock
first_monitor e (OfObject o) = refl
first_monitor e (OfClass c) = refl

pub monitor_same : (d : Doing) (lock : Lock) → monitor_of d lock ≡ monitor_in d.state lock
monitor_same d (OfObject o) = refl
monitor_same d (OfClass c) = refl

abbrev IsIn : Kept → Lock → Type 0
IsIn s (OfObject o) = IsHeld s.heap o
IsIn s (OfClass c) = c < length s.guest.class_monitors

is_in : (e : Moment) {w : Way} (lock : Lock) (s : Kept) → Still e w s → HasMonitor e lock → IsIn s lock
is_in e (OfObject o) s h has = h.changes.stays o has
is_in e (OfClass c) s h has = subst (λ (n : ℕ). c < n) (sym h.monitors) has

pub is_same : (lock k : Lock) → is_lock lock k ≡ true → lock ≡ k
is_same (OfObject o) (OfObject k) e = ap (λ (i : ℕ). OfObject i) (eqb-true o k e)
is_same (OfObject o) (OfClass k) e = absurd (false≢true e)
is_same (OfClass c) (OfObject k) e = absurd (false≢true e)
is_same (OfClass c) (OfClass k) e = ap (λ (i : ℕ). OfClass i) (eqb-true c k e)

other_number : (a b : ℕ) → (a == b) ≡ false → b ≡ a → ⊥
other_number a b e same = true≢false (sym (eq-eqb a b (sym same)) ∙ e)

-- THE MONITORS, of which one became m

marked : (d : Doing) (lock k : Lock) (m : Monitor) → IsIn d.state lock → monitor_in (with_monitor_of lock m d).state k ≡ (if is_lock lock k then m else monitor_in d.state k)
marked d (OfObject o) (OfObject k) m held = by (o == k) refl
  where
    h : Objects
    h = d.state.heap

    y : ObjectState
    y = with_monitor m (object_at h o)

    by : (b : Bool) → (o == k) ≡ b → (object_at (with_object_at h o y) k).monitor ≡ (if b then m else (object_at h k).monitor)
    by true e = subst (λ (j : ℕ). (object_at (with_object_at h o y) j).monitor ≡ m) (eqb-true o k e) (ap (λ (x : Option ObjectState). (found x).monitor) (get_or-set_same h o (Some y) None (held_within h o held)))
    by false e = ap (λ (x : Option ObjectState). (found x).monitor) (get_or-set_other h o k (Some y) None (other_number o k e))
marked d (OfObject o) (OfClass k) m held = refl
marked d (OfClass c) (OfObject k) m lt = refl
marked d (OfClass c) (OfClass k) m lt = by (c == k) refl
  where
    ms : List Monitor
    ms = d.state.guest.class_monitors

    by : (b : Bool) → (c == k) ≡ b → get_or (set ms c m) k free_monitor ≡ (if b then m else get_or ms k free_monitor)
    by true e = subst (λ (j : ℕ). get_or (set ms c m) j free_monitor ≡ m) (eqb-true c k e) (get_or-set_same ms c m free_monitor lt)
    by false e = get_or-set_other ms c k m free_monitor (other_number c k e)

marked_sound : (d : Doing) (lock : Lock) (m : Monitor) → IsSound d.state → IsIn d.state lock → IsSound (with_monitor_of lock m d).state
marked_sound d (OfObject o) m sound held =
    object_sound d.state o (with_monitor m (object_at d.state.heap o)) sound held (slots_fine d.state o sound) (referent_fine d.state o sound) (rest_held d.state o sound)
marked_sound d (OfClass c) m sound lt = sound_guest d.state (with_class_monitor d.state.guest c m) sound sound.roots

marked_stays : (d : Doing) (lock : Lock) (m : Monitor) (o : ℕ) → IsIn d.state lock → IsHeld d.state.heap o → IsHeld (with_monitor_of lock m d).state.heap o
marked_stays d (OfObject k) m o held there = held_set d.state.heap k (with_monitor m (object_at d.state.heap k)) o held there
marked_stays d (OfClass c) m o lt there = there

abbrev IsFresh : Moment → Kept → ℕ → Type 0
IsFresh e s o = IsHeld e.before.heap o ⊎ ((length e.before.heap ≤ o) × (monitor_in s (OfObject o) ≡ free_monitor))

marked_fresh : (e : Moment) (a b : Option Lock) (d : Doing) (lock : Lock) (m : Monitor) (o : ℕ) → Changes e a b d.state → HasMonitor e lock → IsIn d.state lock → IsHeld (with_monitor_of lock m d).state.heap o
    → IsFresh e (with_monitor_of lock m d).state o
marked_fresh e a b d (OfObject k) m o h has held there =
    let heap : Objects = d.state.heap in
    let y : ObjectState = with_monitor m (object_at heap k) in
    elim (h.fresh o (set_held heap k y o held there)) [
      | inl was ↦ inl was
      | inr new ↦
          let lt : k < length e.before.heap = held_within e.before.heap k has in
          let le = new.0 in
          inr (new.0, ap (λ (x : Option ObjectState). (found x).monitor) (get_or-set_other heap k o (Some y) None (λ same. absurd (omega arith))) ∙ new.1)
    ]
marked_fresh e a b d (OfClass c) m o h has lt there = h.fresh o there

marked_longer : (d : Doing) (lock : Lock) (m : Monitor) → length (with_monitor_of lock m d).state.heap ≡ length d.state.heap
marked_longer d (OfObject k) m = length-set d.state.heap k (Some (with_monitor m (object_at d.state.heap k)))
marked_longer d (OfClass c) m = refl

marked_clock : (d : Doing) (lock : Lock) (m : Monitor) → (with_monitor_of lock m d).state.guest.clock ≡ d.state.guest.clock
marked_clock d (OfObject k) m = refl
marked_clock d (OfClass c) m = refl

changed : (e : Moment) (lock : Lock) (a b : Option Lock) (m : Monitor) (d : Doing) → Changes e None None d.state → HasMonitor e lock → IsIn d.state lock
    → ((k : Lock) → (if is_lock lock k then m else monitor_in e.before k) ≡ becomes e.thread a b k (monitor_in e.before k)) → Changes e a b (with_monitor_of lock m d).state
changed e lock a b m d h has inside so =
    let len = marked_longer d lock m in
    let le = h.longer in
    record {
      sound = marked_sound d lock m h.sound inside;
      clock = marked_clock d lock m ∙ h.clock;
      stays = λ o held. marked_stays d lock m o inside (h.stays o held);
      fresh = λ o there. marked_fresh e None None d lock m o h has inside there;
      longer = omega arith;
      full = λ o new lt. marked_stays d lock m o inside (h.full o new (omega (arith, len, lt)));
      monitor = λ k there. marked d lock k m inside ∙ (ap (λ (x : Monitor). if is_lock lock k then m else x) (h.monitor k there) ∙ so k);
    }

-- .. where what it became depends on what it was
same_if : (lock k : Lock) (s : Kept) (m : Monitor) (f : Monitor → Monitor) → m ≡ f (monitor_in s lock) → (if is_lock lock k then m else monitor_in s k) ≡ (if is_lock lock k then f (monitor_in s k) else monitor_in s k)
same_if lock k s m f same = by (is_lock lock k) refl
  where
    by : (b : Bool) → is_lock lock k ≡ b → (if b then m else monitor_in s k) ≡ (if b then f (monitor_in s k) else monitor_in s k)
    by true e = subst (λ (j : Lock). m ≡ f (monitor_in s j)) (is_same lock k e) same
    by false e = refl

was_first : (e : Moment) (lock : Lock) (d : Doing) → Changes e None None d.state → HasMonitor e lock → monitor_of d lock ≡ monitor_in e.before lock
was_first e lock d h has = monitor_same d lock ∙ h.monitor lock (is_there e lock has)

guest_marked : (e : Moment) (n : ℕ) (a b : Option Lock) (lock : Lock) (m : Monitor) (d : Doing) → Still e (way n None None) d.state → IsIn d.state lock → Changes e a b (with_monitor_of lock m d).state → Still e (way n a b) (with_monitor_of lock m d).state
guest_marked e n a b (OfObject o) m d h inside changes = record {
  changes = changes;
  lists = keep_then e.before.heap d.state.heap (with_monitor_of (OfObject o) m d).state.heap h.changes.longer h.lists (keep_set d.state.heap o (with_monitor m (object_at d.state.heap o)) inside refl refl);
  thread = h.thread;
  monitors = h.monitors;
  frames = h.frames;
}
guest_marked e n a b (OfClass c) m d h inside changes = record { changes = changes; lists = h.lists; thread = h.thread; monitors = length-set d.state.guest.class_monitors c m ∙ h.monitors; frames = h.frames }

-- ENTERED, AND LEFT

pub entered_still : (e : Moment) (n : ℕ) (lock : Lock) (d : Doing) → Still e (way n None None) d.state → HasMonitor e lock → Still e (way n (Some lock) None) (entered e lock d).state
entered_still e n lock d h has =
    let m : Monitor = record { owner = Some e.thread; count = (monitor_of d lock).count + 1 } in
    let same : m ≡ entered_once e.thread (monitor_in e.before lock) = ap (λ (x : Monitor). entered_once e.thread x) (was_first e lock d h.changes has) in
    guest_marked e n (Some lock) None lock m d h (is_in e lock d.state h has)
    (changed e lock (Some lock) None m d h.changes has (is_in e lock d.state h has) (λ k. same_if lock k e.before m (entered_once e.thread) same))

owner_case : (t : ℕ) (m : Monitor) (b : Bool) → is_owner t m.owner ≡ b → left_by_owner t m ≡ (if b then left_once m else m)
owner_case t m b e = ap (λ (c : Bool). if c then left_once m else m) e

pub owned_first : (e : Moment) (lock : Lock) (d : Doing) (b : Bool) → Changes e None None d.state → HasMonitor e lock → owns e d lock ≡ b → is_owner e.thread (monitor_in e.before lock).owner ≡ b
owned_first e lock d b h has owned = sym (ap (λ (m : Monitor). is_owner e.thread m.owner) (was_first e lock d h has)) ∙ owned

pub left_still : (e : Moment) (n : ℕ) (lock : Lock) (d : Doing) → Still e (way n None None) d.state → HasMonitor e lock → owns e d lock ≡ true → Still e (way n None (Some lock)) (left lock d).state
left_still e n lock d h has owned =
    let m : Monitor = left_once (monitor_of d lock) in
    let owner = owned_first e lock d true h.changes has owned in
    let same : m ≡ left_by_owner e.thread (monitor_in e.before lock) = ap (λ (x : Monitor). left_once x) (was_first e lock d h.changes has) ∙ sym (owner_case e.thread (monitor_in e.before lock) true owner) in
    guest_marked e n None (Some lock) lock m d h (is_in e lock d.state h has)
    (changed e lock None (Some lock) m d h.changes has (is_in e lock d.state h has) (λ k. same_if lock k e.before m (left_by_owner e.thread) same))

-- an exception drops a frame whose monitor its thread does not own
pub unowned_still : (e : Moment) (n : ℕ) (lock : Lock) (d : Doing) → Still e (way n None None) d.state → HasMonitor e lock → owns e d lock ≡ false → Still e (way n None (Some lock)) d.state
unowned_still e n lock d h has owned =
    let c = h.changes in
    let owner = owned_first e lock d false c has owned in
    record {
      changes = record { sound = c.sound; clock = c.clock; stays = c.stays; fresh = c.fresh; longer = c.longer; full = c.full; monitor = λ k there. c.monitor k there ∙ same k };
      lists = h.lists;
      thread = h.thread;
      monitors = h.monitors;
      frames = h.frames;
    }
  where
    same : (k : Lock) → monitor_in e.before k ≡ becomes e.thread None (Some lock) k (monitor_in e.before k)
    same k = by (is_lock lock k) refl
      where
        by : (b : Bool) → is_lock lock k ≡ b → monitor_in e.before k ≡ (if b then left_by_owner e.thread (monitor_in e.before k) else monitor_in e.before k)
        by true q =
            subst (λ (j : Lock). monitor_in e.before j ≡ left_by_owner e.thread (monitor_in e.before j)) (is_same lock k q)
            (sym (owner_case e.thread (monitor_in e.before lock) false (owned_first e lock d false h.changes has owned)))
        by false q = refl
