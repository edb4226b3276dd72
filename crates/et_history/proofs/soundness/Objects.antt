-- An object becomes another one of its class, or is made.
use Rattle.std.proofs.Common.{◌≡◌, ℕ, zero, suc, ◌+◌, ◌-◌, ◌<◌, ◌≤◌, [], ◌∷◌, ◌++◌, length, Option, Some, None, refl, sym, ◌∙◌, ap, subst, inl, inr, arith, get_or-set_same}
use Rattle.std.specs.Prelude.{codes}
use Rattle.std.proofs.lemmas.Bool.{cases_eq, cases_lt}
use Rattle.std.proofs.lemmas.List.{length-set, length-append, get_or-set_other, get_or_append_left, get_or-append_right}
use Rattle.std.proofs.lemmas.Option.{same_Some}
use Rattle.et_heap.proofs.References.{there_is}
use Rattle.et_program.specs.Entries.{Linked}
use Rattle.et_program.specs.Members.{is_subclass}
use Rattle.et_heap.proofs.HeapLists.{held_within}
use Rattle.et_heap.specs.declared.monitor.Monitor.{Monitor}
use Rattle.et_heap.specs.Objects.{ObjectState, Objects, IsHeld, at, found, object_at, with_object_at, free_monitor}
use Rattle.et_state.specs.State.{Kept}
use Rattle.et_state.specs.Words.{thread_at}
use Rattle.et_event.specs.Errors.{class_called}
use Rattle.et_event.specs.Sound.{HasThreadObject, IsSoundObject, IsSoundMonitor}
use Rattle.et_history.specs.soundness.WellFormed.{IsWellFormed}
use Rattle.et_history.proofs.soundness.Growing.{free_is_sound}

abbrev pub heap_now : Kept → Objects → Kept
heap_now s heap = record { heap = heap; guest = s.guest }

-- objects before the length of a heap have the same classes in another one
abbrev HaveClasses : Objects → Objects → Type 0
HaveClasses heap heap' = (o : ℕ) → o < length heap → (object_at heap' o).class ≡ (object_at heap o).class

object_so : (p : Linked) (s : Kept) (heap : Objects) (object : Option ℕ) → ((o : ℕ) → object ≡ Some o → o < length s.heap) → HaveClasses s.heap heap → HasThreadObject p s object → HasThreadObject p (heap_now s heap) object
object_so p s heap None within same h = h
object_so p s heap (Some o) within same h = ap (λ (c : ℕ). is_subclass p c (class_called p (codes "java/lang/Thread"))) (same o (within o refl)) ∙ h

-- A STATE WITH OTHER OBJECTS
pub heap_well : (p : Linked) (s : Kept) (heap : Objects) → IsWellFormed p s → length s.heap ≤ length heap → HaveClasses s.heap heap → ((o : ℕ) (x : ObjectState) → at heap o ≡ Some x → IsSoundObject p x × IsSoundMonitor s.guest x.monitor) → IsWellFormed p (heap_now s heap)
heap_well p s heap h longer same objects = record {
  clock = h.clock;
  objects = objects;
  threads = λ t lt. let was = h.threads t lt in record {
    frames = was.frames;
    few_frames = was.few_frames;
    object = λ some unended. object_so p s heap (thread_at s.guest t).object (λ o e. h.thread_objects t o lt unended e) same (was.object some unended);
  };
  thread_objects = λ t o lt unended e. let was : o < length s.heap = h.thread_objects t o lt unended e in let now : o < length heap = omega arith in now;
  few_threads = h.few_threads;
  entry = h.entry;
  classes = h.classes;
  class_monitors = h.class_monitors;
  statics = h.statics;
}

-- AN OBJECT BECOMES y

abbrev IsSoundIn : Linked → Kept → ObjectState → Type 0
IsSoundIn p s x = IsSoundObject p x × IsSoundMonitor s.guest x.monitor

class_so : (heap : Objects) (o k : ℕ) (y : ObjectState) → o < length heap → y.class ≡ (object_at heap o).class → (object_at (with_object_at heap o y) k).class ≡ (object_at heap k).class
class_so heap o k y lt class =
    elim (cases_eq k o) [
      | inl e ↦ subst (λ (j : ℕ). (object_at (with_object_at heap o y) j).class ≡ (object_at heap j).class) (sym e) (ap (λ (x : Option ObjectState). (found x).class) (get_or-set_same heap o (Some y) None lt) ∙ class)
      | inr ne ↦ ap (λ (x : Option ObjectState). (found x).class) (get_or-set_other heap o k (Some y) None ne)
    ]

each_so : (p : Linked) (s : Kept) (o : ℕ) (y : ObjectState) → IsWellFormed p s → o < length s.heap → IsSoundIn p s y → (k : ℕ) (x : ObjectState) → at (with_object_at s.heap o y) k ≡ Some x → IsSoundIn p s x
each_so p s o y h lt sound k x is =
    elim (cases_eq k o) [
      | inl e ↦
          let at_o : at (with_object_at s.heap o y) o ≡ Some x = subst (λ (j : ℕ). at (with_object_at s.heap o y) j ≡ Some x) e is in
          let same : y ≡ x = same_Some y x (sym (get_or-set_same s.heap o (Some y) None lt) ∙ at_o) in
          subst (λ (z : ObjectState). IsSoundIn p s z) same sound
      | inr ne ↦ h.objects k x (sym (get_or-set_other s.heap o k (Some y) None ne) ∙ is)
    ]

pub object_well : (p : Linked) (s : Kept) (o : ℕ) (y : ObjectState) → IsWellFormed p s → IsHeld s.heap o → IsSoundObject p y → IsSoundMonitor s.guest y.monitor → y.class ≡ (object_at s.heap o).class → IsWellFormed p (heap_now s (with_object_at s.heap o y))
object_well p s o y h held sound monitor class =
    let lt : o < length s.heap = held_within s.heap o held in
    let n : length (with_object_at s.heap o y) ≡ length s.heap = length-set s.heap o (Some y) in
    heap_well p s (with_object_at s.heap o y) h (omega arith) (λ k le. class_so s.heap o k y lt class) (each_so p s o y h lt (sound, monitor))

-- what stands at a number at which there is an object
pub found_there : (heap : Objects) (o : ℕ) → IsHeld heap o → at heap o ≡ Some (object_at heap o)
found_there heap o held = there_is (at heap o) held

pub object_is_sound : (p : Linked) (s : Kept) (o : ℕ) → IsWellFormed p s → IsHeld s.heap o → IsSoundIn p s (object_at s.heap o)
object_is_sound p s o h held = h.objects o (object_at s.heap o) (found_there s.heap o held)

-- AN OBJECT IS MADE

old_object : (heap : Objects) (y : Option ObjectState) (o : ℕ) → o < length heap → at (heap ++ y ∷ []) o ≡ at heap o
old_object heap y o lt = get_or_append_left heap (y ∷ []) None o lt

new_one : (p : Linked) (s : Kept) (y x : ObjectState) (k : ℕ) → IsSoundIn p s y → at (Some y ∷ []) k ≡ Some x → IsSoundIn p s x
new_one p s y x zero sound e = subst (λ (z : ObjectState). IsSoundIn p s z) (same_Some y x e) sound
new_one p s y x (suc k) sound e = absurd (nothing e)
  where
    nothing : at [] k ≡ Some x → ⊥
    nothing q = cc

more_sound : (p : Linked) (s : Kept) (y : ObjectState) → IsWellFormed p s → IsSoundIn p s y → (o : ℕ) (x : ObjectState) → at (s.heap ++ Some y ∷ []) o ≡ Some x → IsSoundIn p s x
more_sound p s y h sound o x e =
    elim (cases_lt o (length s.heap)) [
      | inl lt ↦ h.objects o x (sym (old_object s.heap (Some y) o lt) ∙ e)
      | inr le ↦ new_one p s y x (o - length s.heap) sound (sym (get_or-append_right s.heap (Some y ∷ []) (length s.heap) o None refl le) ∙ e)
    ]

pub made_well : (p : Linked) (s : Kept) (y : ObjectState) → IsWellFormed p s → IsSoundObject p y → y.monitor ≡ free_monitor → IsWellFormed p (heap_now s (s.heap ++ Some y ∷ []))
made_well p s y h sound free =
    let monitor : IsSoundMonitor s.guest y.monitor = subst (λ (m : Monitor). IsSoundMonitor s.guest m) (sym free) (free_is_sound s.guest) in
    let n : length (s.heap ++ Some y ∷ []) ≡ length s.heap + length (Some y ∷ []) = length-append s.heap (Some y ∷ []) in
    heap_well p s (s.heap ++ Some y ∷ []) h (omega arith) (λ o lt. ap (λ (x : Option ObjectState). (found x).class) (old_object s.heap (Some y) o lt)) (more_sound p s y h (sound, monitor))
