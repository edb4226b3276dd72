-- What the words of an event do: each takes the state on so that what is referred to is held, and keeps each monitor.
use Rattle.std.proofs.Common.{◌≡◌, ℕ, ◌+◌, ◌<◌, false, List, [], ◌∷◌, ◌++◌, length, set, get_or, Option, Some, None, Contains, refl, sym, ◌∙◌, ap, subst, inl, inr, arith, get_or-set_same}
use Rattle.std.specs.Prelude.{if◌then◌else◌, codes, is_some, fold, unwrap_or}
use Rattle.std.proofs.lemmas.Bool.{cases_lt}
use Rattle.std.proofs.lemmas.List.{length-set, length-append, get_or_append_left}
use Rattle.et_state.proofs.Interned.{object_pushed, object_in}
use Rattle.et_base.specs.declared.value.Value.{Value}
use Rattle.et_base.specs.declared.value.Value.TheVariants.{Unset, Int, Long, LongHigh, Null, Ref}
use Rattle.et_base.proofs.Lists.{Contains-here}
use Rattle.et_program.specs.Entries.{class_at}
use Rattle.et_program.specs.declared.info.FieldInfo.{FieldInfo}
use Rattle.et_heap.specs.declared.monitor.Monitor.{Monitor}
use Rattle.et_heap.specs.Objects.{ObjectState, Objects, IsHeld, free_monitor, new_object, object_at, slot_of, with_slot, with_referent, with_object_at, with_queue}
use Rattle.et_state.specs.Threads.{FrameState, ThreadState, no_thread, new_thread, has_frame, rest_of, with_top_of, as_entered, with_pending}
use Rattle.et_state.specs.declared.class_state.ClassState.{ClassState}
use Rattle.et_state.specs.Interned.{object_of}
use Rattle.et_state.specs.Sound.{IsSound}
use Rattle.et_state.specs.State.{GuestState, Kept}
use Rattle.et_state.specs.Words.{thread_at, with_thread, with_top, with_new_thread, static_at, with_static, with_string, with_class_state}
use Rattle.et_state.proofs.Places.{string_root}
use Rattle.et_event.specs.BuiltIns.{with_referent_of, with_thread_for, with_queue_of, with_first_taken}
use Rattle.et_event.specs.Errors.{class_called}
use Rattle.et_event.specs.Initialization.{constant_set}
use Rattle.et_event.specs.Kinds.{narrowed}
use Rattle.et_event.specs.Moments.{Moment, Doing, begins, thread_of, doing_with_guest, with_thread_state, next_object, instance_made, array_made, updated, slot_written, static_written, pending_now, entry_given_up}
use Rattle.et_event.specs.Monitors.{Lock, OfObject, OfClass}
use Rattle.et_event.specs.Sites.{LoadedConstant, AnInt, ALong, AString}
use Rattle.et_event.specs.Strings.{interned, string_object}
use Rattle.et_history.specs.soundness.WellFormed.{IsThere}
use Rattle.et_history.proofs.soundness.Outcomes.{if_case}
use Rattle.et_history.specs.steps.Holding.{monitor_in}
use Rattle.et_history.specs.steps.Changing.{becomes, Changes}
use Rattle.et_history.specs.steps.Values.{Fine, Fines, FineSome, FineFrame, FineThread}
use Rattle.et_history.proofs.steps.Values.{fines_set, rest_fine}
use Rattle.et_history.proofs.steps.WaitingLists.{KeepLists, keep_then, keep_set, keep_push, keep_taken}
use Rattle.et_state.proofs.Steps.{newest_held}
use Rattle.et_history.proofs.steps.Heaps.{Grown, grown_set, grown_push, sound_guest, fine_thread, thread_sound, new_thread_sound, string_sound, static_sound, slots_fine, referent_fine, object_sound, made_sound, AreRestHeld, rest_held, rest_with_queue, rest_without_first}
use Rattle.et_heap.specs.Queues.{with_waits, without_first_waiting, take_first}
use Rattle.et_heap.proofs.HeapLists.{held_set}
use Rattle.et_state.proofs.UnderWay.{waiting_pair}

-- what an event has come to besides the state: how many frames its thread has, and which monitor it entered and left
pub record Way : Type 0 where
  pub frames : ℕ
  pub entry : Option Lock
  pub exit : Option Lock

pub record Still (e : Moment) (w : Way) (s : Kept) : Type 0 where
  pub changes : Changes e w.entry w.exit s
  -- a reference stands in one waiting list at most, and is marked then
  pub lists : KeepLists e.before.heap s.heap
  pub thread : e.thread < length s.guest.threads
  pub monitors : length s.guest.class_monitors ≡ length e.before.guest.class_monitors
  pub frames : length (thread_at s.guest e.thread).frames ≡ w.frames

-- as many frames as at first, and no monitor entered or left
abbrev pub level : Moment → Way
level e = record { frames = length (thread_of e).frames; entry = None; exit = None }

abbrev pub with_frames : ℕ → Way → Way
with_frames n w = record w { frames = n }

-- CHANGES

ticked_monitor : (e : Moment) (lock : Lock) → monitor_in (begins e).state lock ≡ becomes e.thread None None lock (monitor_in e.before lock)
ticked_monitor e (OfObject o) = refl
ticked_monitor e (OfClass c) = refl

pub begun : (e : Moment) → IsSound e.before → e.thread < length e.before.guest.threads → Still e (level e) (begins e).state
begun e sound lt = record {
  changes = record {
    sound = record { room = sound.room; none = sound.none; roots = sound.roots; slots = sound.slots; referents = sound.referents };
    clock = refl;
    stays = λ o held. held;
    fresh = λ o held. inl held;
    longer = omega arith;
    full = λ o le new. absurd (omega (arith, le, new));
    monitor = λ lock there. ticked_monitor e lock;
  };
  lists = λ reported within lined. lined;
  thread = lt;
  monitors = refl;
  frames = refl;
}

same_monitor : (s : Kept) (g : GuestState) (lock : Lock) → g.class_monitors ≡ s.guest.class_monitors → monitor_in (record { heap = s.heap; guest = g }) lock ≡ monitor_in s lock
same_monitor s g (OfObject o) same = refl
same_monitor s g (OfClass c) same = ap (λ (ms : List Monitor). get_or ms c free_monitor) same

changes_guest : (e : Moment) (a b : Option Lock) (s : Kept) (g : GuestState) → Changes e a b s → IsSound (record { heap = s.heap; guest = g }) → g.clock ≡ s.guest.clock → g.class_monitors ≡ s.guest.class_monitors
    → Changes e a b (record { heap = s.heap; guest = g })
changes_guest e a b s g h sound clock same =
    record { sound = sound; clock = clock ∙ h.clock; stays = h.stays; fresh = h.fresh; longer = h.longer; full = h.full; monitor = λ lock there. same_monitor s g lock same ∙ h.monitor lock there }

grown_monitor : (e : Moment) (s : Kept) (heap : Objects) (lock : Lock) → Grown s.heap heap → ((o : ℕ) → IsHeld e.before.heap o → IsHeld s.heap o) → IsThere e.before lock → monitor_in (record { heap = heap; guest = s.guest }) lock ≡ monitor_in s lock
grown_monitor e s heap (OfObject o) grown stays there = (grown.stays o (stays o there)).1
grown_monitor e s heap (OfClass c) grown stays there = refl

changes_heap : (e : Moment) (a b : Option Lock) (s : Kept) (heap : Objects) → Changes e a b s → IsSound (record { heap = heap; guest = s.guest }) → Grown s.heap heap → Changes e a b (record { heap = heap; guest = s.guest })
changes_heap e a b s heap h sound grown = record {
  sound = sound;
  clock = h.clock;
  stays = λ o held. (grown.stays o (h.stays o held)).0;
  fresh = λ o held. elim (grown.more o held) [
    | inl d ↦ elim (h.fresh o d) [ inl was ↦ inl was | inr new ↦ inr (new.0, (grown.stays o d).1 ∙ new.1) ]
    | inr new ↦ inr (omega (arith, h.longer, new.0), new.1)
  ];
  longer = omega (arith, h.longer, grown.longer);
  full = λ o le lt. elim (cases_lt o (length s.heap)) [ inl old ↦ (grown.stays o (h.full o le old)).0 | inr new ↦ grown.full o new lt ];
  monitor = λ lock there. grown_monitor e s heap lock grown h.stays there ∙ h.monitor lock there;
}

-- THE GUEST

pub thread_now : (s : Kept) (t : ℕ) (x : ThreadState) → t < length s.guest.threads → thread_at (with_thread s.guest t x) t ≡ x
thread_now s t x lt = get_or-set_same s.guest.threads t x no_thread lt

pub still_thread : (e : Moment) {w : Way} (s : Kept) → Still e w s → FineThread s.heap (thread_at s.guest e.thread)
still_thread e s h = fine_thread s e.thread h.changes.sound h.thread

pub thread_still : (e : Moment) {w : Way} (x : ThreadState) (s : Kept) → Still e w s → FineThread s.heap x → Still e (with_frames (length x.frames) w) (record { heap = s.heap; guest = with_thread s.guest e.thread x })
thread_still e {w = w} x s h fine =
    let len : length (set s.guest.threads e.thread x) ≡ length s.guest.threads = length-set s.guest.threads e.thread x in
    let lt = h.thread in
    record {
      changes = changes_guest e w.entry w.exit s (with_thread s.guest e.thread x) h.changes (thread_sound s e.thread x h.changes.sound h.thread fine) refl refl;
      lists = h.lists;
      thread = omega arith;
      monitors = h.monitors;
      frames = ap (λ (y : ThreadState). length y.frames) (thread_now s e.thread x h.thread);
    }

pub counted : (e : Moment) {w : Way} (n : ℕ) (s : Kept) → w.frames ≡ n → Still e w s → Still e (with_frames n w) s
counted e n s same h = record { changes = h.changes; lists = h.lists; thread = h.thread; monitors = h.monitors; frames = h.frames ∙ same }

length_first : (f : FrameState) (fs : List FrameState) → 0 < length fs → length (f ∷ rest_of fs) ≡ length fs
length_first f [] lt = absurd (omega arith)
length_first f (g ∷ fs) lt = refl

pub top_still : (e : Moment) {w : Way} (f : FrameState) (s : Kept) → 0 < w.frames → Still e w s → FineFrame s.heap f → Still e w (record { heap = s.heap; guest = with_top s.guest e.thread f })
top_still e {w = w} f s some h fine =
    let x : ThreadState = thread_at s.guest e.thread in
    let was : FineThread s.heap x = still_thread e s h in
    let now : FineThread s.heap (with_top_of x f) = record { frames = (fine, rest_fine s.heap x.frames was.frames); pending = was.pending; entry = was.entry; object = was.object } in
    let more : 0 < length x.frames = subst (λ (n : ℕ). 0 < n) (sym h.frames) some in
    counted e w.frames _ (length_first f x.frames more ∙ h.frames) (thread_still e (with_top_of x f) s h now)

pub static_still : (e : Moment) {w : Way} (i : ℕ) (v : Value) (s : Kept) → Still e w s → Fine s.heap v → Still e w (record { heap = s.heap; guest = with_static s.guest i v })
static_still e {w = w} i v s h fine =
    record { changes = changes_guest e w.entry w.exit s (with_static s.guest i v) h.changes (static_sound s i v h.changes.sound fine) refl refl; lists = h.lists; thread = h.thread; monitors = h.monitors; frames = h.frames }

string_still : (e : Moment) {w : Way} (text : List ℕ) (o : ℕ) (s : Kept) → Still e w s → IsHeld s.heap o → Still e w (record { heap = s.heap; guest = with_string s.guest text o })
string_still e {w = w} text o s h held =
    record { changes = changes_guest e w.entry w.exit s (with_string s.guest text o) h.changes (string_sound s text o h.changes.sound held) refl refl; lists = h.lists; thread = h.thread; monitors = h.monitors; frames = h.frames }

pub state_still : (e : Moment) {w : Way} (c : ℕ) (x : ClassState) (s : Kept) → Still e w s → Still e w (record { heap = s.heap; guest = with_class_state s.guest c x })
state_still e {w = w} c x s h =
    record { changes = changes_guest e w.entry w.exit s (with_class_state s.guest c x) h.changes (sound_guest s (with_class_state s.guest c x) h.changes.sound h.changes.sound.roots) refl refl; lists = h.lists; thread = h.thread; monitors = h.monitors; frames = h.frames }

abbrev started : ℕ → ThreadState
started o = new_thread None (Some o)

pub started_still : (e : Moment) {w : Way} (o : ℕ) (d : Doing) → Still e w d.state → IsHeld d.state.heap o → Still e w (with_thread_for o d).state
started_still e {w = w} o d h held =
    let s : Kept = d.state in
    let ts : List ThreadState = s.guest.threads in
    let fine : FineThread s.heap (started o) = record { frames = tt; pending = tt; entry = λ u. tt; object = λ u. held } in
    let n : length (ts ++ started o ∷ []) ≡ length ts + length (started o ∷ []) = length-append ts (started o ∷ []) in
    let same : get_or (ts ++ started o ∷ []) e.thread no_thread ≡ get_or ts e.thread no_thread = get_or_append_left ts (started o ∷ []) no_thread e.thread h.thread in
    let lt = h.thread in
    record {
      changes = changes_guest e w.entry w.exit s (with_new_thread s.guest (started o)) h.changes (new_thread_sound s (started o) h.changes.sound fine) refl refl;
      lists = h.lists;
      thread = omega arith;
      monitors = h.monitors;
      frames = ap (λ (x : ThreadState). length x.frames) same ∙ h.frames;
    }

-- OBJECTS

some_held : (h : Objects) (o : ℕ) (y : ObjectState) → IsHeld h o → (q : Option ℕ) → FineSome h q → FineSome (with_object_at h o y) q
some_held h o y held None fine = tt
some_held h o y held (Some z) fine = held_set h o y z held fine

object_still : (e : Moment) {w : Way} (o : ℕ) (y : ObjectState) (s : Kept) → Still e w s → IsHeld s.heap o → y.monitor ≡ (object_at s.heap o).monitor → y.waiting ≡ (object_at s.heap o).waiting → y.waits ≡ (object_at s.heap o).waits
    → Fines s.heap y.slots → FineSome s.heap y.referent → AreRestHeld s.heap y → Still e w (record { heap = with_object_at s.heap o y; guest = s.guest })
object_still e {w = w} o y s h held same list mark slots referent rest = record {
  changes = changes_heap e w.entry w.exit s (with_object_at s.heap o y) h.changes (object_sound s o y h.changes.sound held slots referent rest) (grown_set s.heap o y held same);
  lists = keep_then e.before.heap s.heap (with_object_at s.heap o y) h.changes.longer h.lists (keep_set s.heap o y held list mark);
  thread = h.thread;
  monitors = h.monitors;
  frames = h.frames;
}

made_still : (e : Moment) {w : Way} (class elements slots : ℕ) (s : Kept) → Still e w s → Still e w (record { heap = s.heap ++ Some (new_object class elements slots) ∷ []; guest = s.guest })
made_still e {w = w} class elements slots s h =
    let y : ObjectState = new_object class elements slots in
    record {
      changes = changes_heap e w.entry w.exit s (s.heap ++ Some y ∷ []) h.changes (made_sound s class elements slots h.changes.sound) (grown_push s.heap y refl);
      lists = keep_then e.before.heap s.heap (s.heap ++ Some y ∷ []) h.changes.longer h.lists (keep_push s.heap y refl refl);
      thread = h.thread;
      monitors = h.monitors;
      frames = h.frames;
    }

pub instance_still : (e : Moment) {w : Way} (class : ℕ) (d : Doing) → Still e w d.state → Still e w (instance_made e class d).state
instance_still e class d h = made_still e class 0 (class_at e.program class).info.slots d.state h

pub array_still : (e : Moment) {w : Way} (class n : ℕ) (d : Doing) → Still e w d.state → Still e w (array_made e class n d).state
array_still e class n d h = made_still e class n n d.state h

updated_still : (e : Moment) {w : Way} (o i : ℕ) (old v : Value) (d : Doing) → Still e w d.state → Still e w (updated e o i old v d).state
updated_still e o i old Unset d h = h
updated_still e o i old (Int n) d h = h
updated_still e o i old (Long n) d h = h
updated_still e o i old LongHigh d h = h
updated_still e o i old Null d h = h
updated_still e o i old (Ref new) d h = h

pub slot_still : (e : Moment) {w : Way} (o i : ℕ) (v : Value) (d : Doing) → Still e w d.state → IsHeld d.state.heap o → Fine d.state.heap v → Still e w (slot_written e o i v d).state
slot_still e o i v d h held fine =
    let s : Kept = d.state in
    let x : ObjectState = object_at s.heap o in
    updated_still e o i (slot_of x i) v (record { state = record { heap = with_object_at s.heap o (with_slot i v x); guest = s.guest }; records = d.records })
    (object_still e o (with_slot i v x) s h held refl refl refl (fines_set s.heap x.slots i v fine (slots_fine s o h.changes.sound)) (referent_fine s o h.changes.sound) (rest_held s o h.changes.sound))

pub written_static_still : (e : Moment) {w : Way} (i : ℕ) (v : Value) (d : Doing) → Still e w d.state → Fine d.state.heap v → Still e w (static_written e i v d).state
written_static_still e i v d h fine = updated_still e 0 i (static_at d.state.guest i) v (doing_with_guest (with_static d.state.guest i v) d) (static_still e i v d.state h fine)

pub referent_still : (e : Moment) {w : Way} (o : ℕ) (r : Option ℕ) (d : Doing) → Still e w d.state → IsHeld d.state.heap o → FineSome d.state.heap r → Still e w (with_referent_of o r d).state
referent_still e o r d h held fine = object_still e o (with_referent r (object_at d.state.heap o)) d.state h held refl refl refl (slots_fine d.state o h.changes.sound) fine (rest_held d.state o h.changes.sound)

pub queue_still : (e : Moment) {w : Way} (o : ℕ) (q : Option ℕ) (d : Doing) → Still e w d.state → IsHeld d.state.heap o → FineSome d.state.heap q → Still e w (with_queue_of o q d).state
queue_still e o q d h held fine =
    object_still e o (with_queue q (object_at d.state.heap o)) d.state h held refl refl refl (slots_fine d.state o h.changes.sound) (referent_fine d.state o h.changes.sound) (rest_with_queue d.state o q h.changes.sound fine)

taken_still : (e : Moment) {w : Way} (q : ℕ) (ws : List ℕ) (s : Kept) → (object_at s.heap q).waiting ≡ ws → Still e w s → IsHeld s.heap q → Still e w (record { heap = take_first ws q s.heap; guest = s.guest })
taken_still e q [] s is h held = record { changes = h.changes; lists = h.lists; thread = h.thread; monitors = h.monitors; frames = h.frames }
taken_still e {w = w} q (r ∷ ws) s is h held =
    let y : ObjectState = without_first_waiting (object_at s.heap q) in
    let first : Kept = record { heap = with_object_at s.heap q y; guest = s.guest } in
    let there : IsHeld s.heap r = h.changes.sound.slots q r (waiting_pair s.heap q r (subst (λ (os : List ℕ). Contains os r) (sym is) (Contains-here r ws))) in
    let sound : IsSound first = object_sound s q y h.changes.sound held (slots_fine s q h.changes.sound) (referent_fine s q h.changes.sound) (rest_without_first s q h.changes.sound) in
    let changes : Changes e w.entry w.exit first = changes_heap e w.entry w.exit s first.heap h.changes sound (grown_set s.heap q y held refl) in
    let z : ObjectState = with_waits false (object_at first.heap r) in
    let now : Objects = with_object_at first.heap r z in
    let after : IsHeld first.heap r = held_set s.heap q y r held there in
    record {
      changes = changes_heap e w.entry w.exit first now changes (object_sound first r z sound after (slots_fine first r sound) (referent_fine first r sound) (rest_held first r sound)) (grown_set first.heap r z after refl);
      lists = keep_then e.before.heap s.heap now h.changes.longer h.lists (keep_taken s.heap q r ws is held there);
      thread = h.thread;
      monitors = h.monitors;
      frames = h.frames;
    }

-- a queue is polled
pub first_taken_still : (e : Moment) {w : Way} (q : ℕ) (d : Doing) → Still e w d.state → IsHeld d.state.heap q → Still e w (with_first_taken q d).state
first_taken_still e q d h held = taken_still e q (object_at d.state.heap q).waiting d.state refl h held

pub made_held : (h : Objects) (y : ObjectState) (k : ℕ) → y.monitor ≡ free_monitor → IsHeld h k → IsHeld (h ++ Some y ∷ []) k
made_held h y k free held = ((grown_push h y free).stays k held).0

-- STRINGS OF CONSTANTS

pub record Interned (e : Moment) (w : Way) (bytes : List ℕ) (d x : Doing) : Type 0 where
  pub still : Still e w x.state
  pub stays : (o : ℕ) → IsHeld d.state.heap o → IsHeld x.state.heap o
  pub held : IsHeld x.state.heap (string_object bytes x)

-- the object of a string, where none was made yet, and what is done once it is
abbrev pub string_state : Moment → ObjectState
string_state e = let class = class_called e.program (codes "java/lang/String") in new_object class 0 (class_at e.program class).info.slots

abbrev pub string_made : Moment → List ℕ → Doing → Doing
string_made e bytes d =
    let x = instance_made e (class_called e.program (codes "java/lang/String")) d in
    doing_with_guest (with_string x.state.guest bytes (next_object d)) x

pub interned_still : (e : Moment) {w : Way} (bytes : List ℕ) (d : Doing) → Still e w d.state → Interned e w bytes d (interned e bytes d)
interned_still e {w = w} bytes d h = by (object_of d.state.guest.interned bytes) refl
  where
    x : Doing
    x = string_made e bytes d

    by : (q : Option ℕ) → object_of d.state.guest.interned bytes ≡ q → Interned e w bytes d (if is_some q then d else x)
    by (Some o) is = record {
      still = h;
      stays = λ k held. held;
      held = subst (λ (r : Option ℕ). IsHeld d.state.heap (unwrap_or r 0)) (sym is) (h.changes.sound.roots o (string_root d.state.guest o (object_in d.state.guest.interned bytes o is)));
    }
    by None is =
        let y : Doing = instance_made e (class_called e.program (codes "java/lang/String")) d in
        record {
          still = string_still e bytes (next_object d) y.state (instance_still e (class_called e.program (codes "java/lang/String")) d h) (newest_held d.state.heap (string_state e));
          stays = λ k held. made_held d.state.heap (string_state e) k refl held;
          held = subst (λ (r : Option ℕ). IsHeld x.state.heap (unwrap_or r 0)) (sym (object_pushed d.state.guest.interned bytes (next_object d) is)) (newest_held d.state.heap (string_state e));
        }

-- EXCEPTIONS

pub pending_still : (e : Moment) {w : Way} (o : ℕ) (d : Doing) → Still e w d.state → IsHeld d.state.heap o → Still e w (pending_now e o d).state
pending_still e {w = w} o d h held =
    let x : ThreadState = thread_at d.state.guest e.thread in
    let was : FineThread d.state.heap x = still_thread e d.state h in
    let now : FineThread d.state.heap (with_pending (Some o) x) = record { frames = was.frames; pending = held; entry = was.entry; object = was.object } in
    counted e w.frames _ h.frames (thread_still e (with_pending (Some o) x) d.state h now)

pub as_entered_still : (e : Moment) {w : Way} (d : Doing) → Still e w d.state → Still e w (with_thread_state e (as_entered (thread_at d.state.guest e.thread)) d).state
as_entered_still e {w = w} d h =
    let x : ThreadState = thread_at d.state.guest e.thread in
    let was : FineThread d.state.heap x = still_thread e d.state h in
    let now : FineThread d.state.heap (as_entered x) = record { frames = was.frames; pending = was.pending; entry = λ u. tt; object = was.object } in
    counted e w.frames _ h.frames (thread_still e (as_entered x) d.state h now)

pub given_up_still : (e : Moment) {w : Way} (d : Doing) → Still e w d.state → Still e w (entry_given_up e d).state
given_up_still e {w = w} d h =
    if_case (λ (x : Doing). Still e w x.state) (has_frame (thread_at d.state.guest e.thread).frames) d (with_thread_state e (as_entered (thread_at d.state.guest e.thread)) d) h (as_entered_still e d h)

-- INITIALIZATION

fold_still : {A : Type 0} (e : Moment) {w : Way} (f : Doing → A → Doing) → ((x : Doing) (a : A) → Still e w x.state → Still e w (f x a).state) → (xs : List A) (d : Doing) → Still e w d.state → Still e w (fold f d xs).state
fold_still e f step [] d h = h
fold_still e f step (a ∷ xs) d h = fold_still e f step xs (f d a) (step d a h)

pub fine_narrowed : (h : Objects) (descriptor : List ℕ) (v : Value) → Fine h v → Fine h (narrowed descriptor v)
fine_narrowed h descriptor Unset f = f
fine_narrowed h descriptor (Int n) f = tt
fine_narrowed h descriptor (Long n) f = f
fine_narrowed h descriptor LongHigh f = f
fine_narrowed h descriptor Null f = f
fine_narrowed h descriptor (Ref o) f = f

constant_still : (e : Moment) {w : Way} (f : FieldInfo) (k : Option LoadedConstant) (d : Doing) → Still e w d.state → Still e w (constant_set e f k d).state
constant_still e f None d h = h
constant_still e f (Some (AnInt n)) d h = written_static_still e f.slot (narrowed f.descriptor (Int n)) d h tt
constant_still e f (Some (ALong n)) d h = written_static_still e f.slot (Long n) d h tt
constant_still e f (Some (AString bytes)) d h =
    let x : Doing = interned e bytes d in
    let made = interned_still e bytes d h in
    written_static_still e f.slot (Ref (string_object bytes x)) x made.still made.held
