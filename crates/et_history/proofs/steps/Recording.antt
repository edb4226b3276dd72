-- What the words of an event tell: the records so far are those of what it has made so far.
use Rattle.std.proofs.Common.{◌≡◌, ℕ, ◌+◌, ◌*◌, ◌<◌, true, false, List, [], ◌∷◌, ◌++◌, length, set, Option, Some, None, Contains, refl, sym, ◌∙◌, ap, subst, inl, inr, arith}
use Rattle.std.specs.Prelude.{if◌then◌else◌, codes, is_some, unwrap_or}
use Rattle.std.proofs.lemmas.Bool.{false≢true}
use Rattle.std.proofs.lemmas.List.{length-set, length-append, length-replicate, length_push}
use Rattle.et_state.proofs.Interned.{object_pushed, object_in}
use Rattle.et_base.proofs.Lists.{Contains-here}
use Rattle.et_base.specs.declared.value.Value.{Value}
use Rattle.et_base.specs.declared.value.Value.TheVariants.{Unset, Int, Long, LongHigh, Null, Ref}
use Rattle.et_program.specs.Entries.{class_at}
use Rattle.et_program.specs.declared.info.Element.{Element}
use Rattle.et_program.specs.declared.info.Element.TheVariants.{NoArray, Base, Class}
use Rattle.et_heap.specs.declared.monitor.Monitor.{Monitor}
use Rattle.et_heap.specs.Objects.{ObjectState, Objects, IsHeld, found, new_object, object_at, slot_of, with_slot, with_referent, with_monitor, with_object_at, with_queue}
use Rattle.et_heap.proofs.HeapLists.{held_within, held_push, held_set}
use Rattle.et_state.specs.Threads.{FrameState, ThreadState, new_thread, with_top_of, as_entered, with_pending}
use Rattle.et_state.specs.declared.class_state.ClassState.{ClassState}
use Rattle.et_state.specs.declared.records.Record.{Record}
use Rattle.et_state.specs.declared.records.Record.TheVariants.{Alloc, Update}
use Rattle.et_state.specs.Interned.{object_of}
use Rattle.et_state.specs.Sound.{IsSound}
use Rattle.et_state.specs.State.{GuestState, Kept}
use Rattle.et_state.specs.Words.{thread_at, with_thread, with_new_thread, static_at, with_static, with_string, with_class_state, with_class_monitor}
use Rattle.et_state.proofs.Places.{string_root}
use Rattle.et_event.specs.BuiltIns.{with_referent_of, with_thread_for, with_queue_of, with_first_taken}
use Rattle.et_event.specs.Errors.{class_called}
use Rattle.et_event.specs.Initialization.{with_state}
use Rattle.et_event.specs.Kinds.{is_array_element}
use Rattle.et_event.specs.Moments.{Moment, Doing, begins, told, doing_with_guest, with_thread_state, with_frame, next_object, object_added, instance_made, array_made, array_size, element_width, number_of_value, updated, slot_written, static_written, pending_now}
use Rattle.et_event.specs.Monitors.{Lock, OfObject, OfClass, with_monitor_of}
use Rattle.et_event.specs.Strings.{interned, string_object}
use Rattle.et_history.specs.steps.Records.{size_by, size_of, IsAlike, IsMadeBefore, IsMadeBeforeOrNone, IsUpdated, next_after, IsAllocationOf, IsRecordOf, AreRecordsOf, HasPlainStrings, Steady}
use Rattle.et_history.proofs.steps.Values.{fine_grows, fine_at, fines_set, rest_fine}
use Rattle.et_history.specs.steps.Steps.{HasSlot}
use Rattle.et_history.specs.steps.Values.{Fine, Fines, FineSome, FineFrame, FineThread, Grows}
use Rattle.et_state.proofs.Steps.{newest_held}
use Rattle.et_history.proofs.steps.Heaps.{sound_guest, fine_thread, thread_sound, new_thread_sound, string_sound, static_sound, statics_fine, slots_fine, referent_fine, object_sound, made_sound, AreRestHeld, rest_held, rest_with_queue, rest_without_first}
use Rattle.et_history.proofs.steps.Records.{steady_itself, steady_then, steady_set, steady_push, newest_at, records_grow, records_more}
use Rattle.et_heap.specs.Queues.{with_waits, without_first_waiting, take_first}
use Rattle.et_state.proofs.UnderWay.{waiting_pair}
use Rattle.et_event.proofs.Values.{updated_state}

-- an event has come to this state with these records
pub record Tells (e : Moment) (s : Kept) (rs : List Record) : Type 0 where
  pub sound : IsSound s
  pub clock : s.guest.clock ≡ e.before.guest.clock + 1
  pub thread : e.thread < length s.guest.threads
  pub steady : Steady e.before.heap s.heap
  pub records : AreRecordsOf e.program (e.before.guest.clock + 1) e.thread s.heap (length e.before.heap) rs (length s.heap)

abbrev pub Told : Moment → Doing → Type 0
Told e d = Tells e d.state d.records

pub begun : (e : Moment) → IsSound e.before → e.thread < length e.before.guest.threads → Told e (begins e)
begun e sound lt = record {
  sound = record { room = sound.room; none = sound.none; roots = sound.roots; slots = sound.slots; referents = sound.referents };
  clock = refl;
  thread = lt;
  steady = steady_itself e.before.heap;
  records = refl;
}

-- WHAT TELLS NOTHING

guest_told : (e : Moment) (g : GuestState) (d : Doing) → Told e d → IsSound (record { heap = d.state.heap; guest = g }) → g.clock ≡ d.state.guest.clock → e.thread < length g.threads → Told e (doing_with_guest g d)
guest_told e g d h sound clock lt = record { sound = sound; clock = clock ∙ h.clock; thread = lt; steady = h.steady; records = h.records }

pub thread_told : (e : Moment) (x : ThreadState) (d : Doing) → Told e d → FineThread d.state.heap x → Told e (with_thread_state e x d)
thread_told e x d h fine =
    let len : length (set d.state.guest.threads e.thread x) ≡ length d.state.guest.threads = length-set d.state.guest.threads e.thread x in
    guest_told e (with_thread d.state.guest e.thread x) d h (thread_sound d.state e.thread x h.sound h.thread fine) refl (subst (λ (n : ℕ). e.thread < n) (sym len) h.thread)

pub told_thread : (e : Moment) (d : Doing) → Told e d → FineThread d.state.heap (thread_at d.state.guest e.thread)
told_thread e d h = fine_thread d.state e.thread h.sound h.thread

pub top_told : (e : Moment) (f : FrameState) (d : Doing) → Told e d → FineFrame d.state.heap f → Told e (with_frame e f d)
top_told e f d h fine =
    let x : ThreadState = thread_at d.state.guest e.thread in
    let was : FineThread d.state.heap x = told_thread e d h in
    thread_told e (with_top_of x f) d h (record { frames = (fine, rest_fine d.state.heap x.frames was.frames); pending = was.pending; entry = was.entry; object = was.object })

static_told : (e : Moment) (i : ℕ) (v : Value) (d : Doing) → Told e d → Fine d.state.heap v → Told e (doing_with_guest (with_static d.state.guest i v) d)
static_told e i v d h fine = guest_told e (with_static d.state.guest i v) d h (static_sound d.state i v h.sound fine) refl h.thread

string_told : (e : Moment) (text : List ℕ) (o : ℕ) (d : Doing) → Told e d → IsHeld d.state.heap o → Told e (doing_with_guest (with_string d.state.guest text o) d)
string_told e text o d h held = guest_told e (with_string d.state.guest text o) d h (string_sound d.state text o h.sound held) refl h.thread

pub state_told : (e : Moment) (c : ℕ) (x : ClassState) (d : Doing) → Told e d → Told e (with_state c x d)
state_told e c x d h = guest_told e (with_class_state d.state.guest c x) d h (sound_guest d.state (with_class_state d.state.guest c x) h.sound h.sound.roots) refl h.thread

class_monitor_told : (e : Moment) (c : ℕ) (m : Monitor) (d : Doing) → Told e d → Told e (doing_with_guest (with_class_monitor d.state.guest c m) d)
class_monitor_told e c m d h = guest_told e (with_class_monitor d.state.guest c m) d h (sound_guest d.state (with_class_monitor d.state.guest c m) h.sound h.sound.roots) refl h.thread

abbrev started : ℕ → ThreadState
started o = new_thread None (Some o)

pub started_told : (e : Moment) (o : ℕ) (d : Doing) → Told e d → IsHeld d.state.heap o → Told e (with_thread_for o d)
started_told e o d h held =
    let ts : List ThreadState = d.state.guest.threads in
    let fine : FineThread d.state.heap (started o) = record { frames = tt; pending = tt; entry = λ u. tt; object = λ u. held } in
    let n : length (ts ++ started o ∷ []) ≡ length ts + length (started o ∷ []) = length-append ts (started o ∷ []) in
    let lt = h.thread in
    guest_told e (with_new_thread d.state.guest (started o)) d h (new_thread_sound d.state (started o) h.sound fine) refl (omega arith)

-- an object became one that is alike
object_told : (e : Moment) (o : ℕ) (y : ObjectState) (d : Doing) → Told e d → IsHeld d.state.heap o → IsAlike (object_at d.state.heap o) y → Fines d.state.heap y.slots → FineSome d.state.heap y.referent → AreRestHeld d.state.heap y
    → Tells e (record { heap = with_object_at d.state.heap o y; guest = d.state.guest }) d.records
object_told e o y d h held alike slots referent rest =
    let heap : Objects = d.state.heap in
    let now : Objects = with_object_at heap o y in
    let steady : Steady heap now = steady_set heap o y held alike in
    let len : length now ≡ length heap = length-set heap o (Some y) in
    record {
      sound = object_sound d.state o y h.sound held slots referent rest;
      clock = h.clock;
      thread = h.thread;
      steady = steady_then e.before.heap heap now h.steady steady;
      records = subst (λ (n : ℕ). AreRecordsOf e.program (e.before.guest.clock + 1) e.thread now (length e.before.heap) d.records n) (sym len)
          (records_grow e.program (e.before.guest.clock + 1) e.thread heap now (length e.before.heap) (length heap) d.records steady h.records);
    }

pub referent_told : (e : Moment) (o : ℕ) (r : Option ℕ) (d : Doing) → Told e d → IsHeld d.state.heap o → FineSome d.state.heap r → Told e (with_referent_of o r d)
referent_told e o r d h held fine =
    object_told e o (with_referent r (object_at d.state.heap o)) d h held (record { class = refl; elements = refl; slots = refl }) (slots_fine d.state o h.sound) fine (rest_held d.state o h.sound)

pub queue_told : (e : Moment) (o : ℕ) (q : Option ℕ) (d : Doing) → Told e d → IsHeld d.state.heap o → FineSome d.state.heap q → Told e (with_queue_of o q d)
queue_told e o q d h held fine =
    object_told e o (with_queue q (object_at d.state.heap o)) d h held (record { class = refl; elements = refl; slots = refl }) (slots_fine d.state o h.sound) (referent_fine d.state o h.sound) (rest_with_queue d.state o q h.sound fine)

taken_told : (e : Moment) (q : ℕ) (ws : List ℕ) (d : Doing) → (object_at d.state.heap q).waiting ≡ ws → Told e d → IsHeld d.state.heap q → Told e (record { state = record { heap = take_first ws q d.state.heap; guest = d.state.guest }; records = d.records })
taken_told e q [] d is h held = record { sound = h.sound; clock = h.clock; thread = h.thread; steady = h.steady; records = h.records }
taken_told e q (r ∷ ws) d is h held =
    let y : ObjectState = without_first_waiting (object_at d.state.heap q) in
    let first : Doing = record { state = record { heap = with_object_at d.state.heap q y; guest = d.state.guest }; records = d.records } in
    let there : IsHeld d.state.heap r = h.sound.slots q r (waiting_pair d.state.heap q r (subst (λ (os : List ℕ). Contains os r) (sym is) (Contains-here r ws))) in
    let told : Told e first = object_told e q y d h held (record { class = refl; elements = refl; slots = refl }) (slots_fine d.state q h.sound) (referent_fine d.state q h.sound) (rest_without_first d.state q h.sound) in
    object_told e r (with_waits false (object_at first.state.heap r)) first told (held_set d.state.heap q y r held there) (record { class = refl; elements = refl; slots = refl }) (slots_fine first.state r told.sound) (referent_fine first.state r told.sound) (rest_held first.state r told.sound)

-- a queue is polled
pub first_taken_told : (e : Moment) (q : ℕ) (d : Doing) → Told e d → IsHeld d.state.heap q → Told e (with_first_taken q d)
first_taken_told e q d h held = taken_told e q (object_at d.state.heap q).waiting d refl h held

-- what has the monitor is there
abbrev pub HasLock : Doing → Lock → Type 0
HasLock d (OfObject o) = IsHeld d.state.heap o
HasLock d (OfClass c) = Unit {0}

pub monitor_told : (e : Moment) (lock : Lock) (m : Monitor) (d : Doing) → Told e d → HasLock d lock → Told e (with_monitor_of lock m d)
monitor_told e (OfObject o) m d h held =
    object_told e o (with_monitor m (object_at d.state.heap o)) d h held (record { class = refl; elements = refl; slots = refl }) (slots_fine d.state o h.sound) (referent_fine d.state o h.sound) (rest_held d.state o h.sound)
monitor_told e (OfClass c) m d h held = class_monitor_told e c m d h

-- WHAT TELLS SOMETHING

pub record_told : (e : Moment) (r : Record) (d : Doing) → Told e d → next_after (length d.state.heap) r ≡ length d.state.heap → IsRecordOf e.program (e.before.guest.clock + 1) e.thread d.state.heap (length d.state.heap) r → Told e (told r d)
record_told e r d h same is = record {
  sound = h.sound;
  clock = h.clock;
  thread = h.thread;
  steady = h.steady;
  records = subst (λ (n : ℕ). AreRecordsOf e.program (e.before.guest.clock + 1) e.thread d.state.heap (length e.before.heap) (d.records ++ r ∷ []) n) same
      (records_more e.program (e.before.guest.clock + 1) e.thread d.state.heap (length e.before.heap) (length d.state.heap) d.records r h.records is);
}

pub there : (d : Doing) (o : ℕ) → IsHeld d.state.heap o → IsMadeBefore d.state.heap (length d.state.heap) o
there d o held = (held_within d.state.heap o held, held)

pub some_there : (d : Doing) (o : Option ℕ) → FineSome d.state.heap o → IsMadeBeforeOrNone d.state.heap (length d.state.heap) (unwrap_or o 0)
some_there d None fine = inl refl
some_there d (Some o) fine = inr (there d o fine)

number_there : (d : Doing) (v : Value) → Fine d.state.heap v → IsMadeBeforeOrNone d.state.heap (length d.state.heap) (number_of_value v)
number_there d Unset fine = inl refl
number_there d (Int n) fine = inl refl
number_there d (Long n) fine = inl refl
number_there d LongHigh fine = inl refl
number_there d Null fine = inl refl
number_there d (Ref o) fine = inr (there d o fine)

updated_told : (e : Moment) (o i : ℕ) (old v : Value) (d : Doing) → Told e d → IsUpdated e.program d.state.heap (length d.state.heap) o i → Fine d.state.heap old → Fine d.state.heap v → Told e (updated e o i old v d)
updated_told e o i old Unset d h object was fine = h
updated_told e o i old (Int n) d h object was fine = h
updated_told e o i old (Long n) d h object was fine = h
updated_told e o i old LongHigh d h object was fine = h
updated_told e o i old Null d h object was fine = record_told e (Update d.state.guest.clock e.thread o i (number_of_value old) 0) d h refl (h.clock, refl, object, number_there d old was, inl refl)
updated_told e o i old (Ref new) d h object was fine = record_told e (Update d.state.guest.clock e.thread o i (number_of_value old) new) d h refl (h.clock, refl, object, number_there d old was, inr (there d new fine))

slot_stays : (h h' : Objects) (o i : ℕ) → Steady h h' → IsHeld h o → HasSlot h o i → HasSlot h' o i
slot_stays h h' o i steady held (inl own) = inl own
slot_stays h h' o i steady held (inr within) = let same = (steady.alike o held).slots in inr (omega arith)

-- the object is alike with another slot written
with_slot_steady : (h : Objects) (o i : ℕ) (v : Value) → IsHeld h o → Steady h (with_object_at h o (with_slot i v (object_at h o)))
with_slot_steady h o i v held = steady_set h o (with_slot i v (object_at h o)) held (record { class = refl; elements = refl; slots = length-set (object_at h o).slots i v })

pub slot_steady : (e : Moment) (o i : ℕ) (v : Value) (d : Doing) → IsHeld d.state.heap o → Steady d.state.heap (slot_written e o i v d).state.heap
slot_steady e o i v d held =
    let x : ObjectState = object_at d.state.heap o in
    let next : Doing = record { state = record { heap = with_object_at d.state.heap o (with_slot i v x); guest = d.state.guest }; records = d.records } in
    subst (λ (s : Kept). Steady d.state.heap s.heap) (sym (updated_state e o i (slot_of x i) v next)) (with_slot_steady d.state.heap o i v held)

pub slot_told : (e : Moment) (o i : ℕ) (v : Value) (d : Doing) → Told e d → IsHeld d.state.heap o → HasSlot d.state.heap o i → Fine d.state.heap v → Told e (slot_written e o i v d)
slot_told e o i v d h held has fine =
    let heap : Objects = d.state.heap in
    let x : ObjectState = object_at heap o in
    let y : ObjectState = with_slot i v x in
    let next : Doing = record { state = record { heap = with_object_at heap o y; guest = d.state.guest }; records = d.records } in
    let slots : Fines heap x.slots = slots_fine d.state o h.sound in
    let steady : Steady heap next.state.heap = with_slot_steady heap o i v held in
    let now : Told e next = object_told e o y d h held (record { class = refl; elements = refl; slots = length-set x.slots i v }) (fines_set heap x.slots i v fine slots) (referent_fine d.state o h.sound) (rest_held d.state o h.sound) in
    updated_told e o i (slot_of x i) v next now (inr (there next o (steady.stays o held), slot_stays heap next.state.heap o i steady held has))
    (fine_grows heap next.state.heap (slot_of x i) steady.stays (fine_at heap x.slots i slots)) (fine_grows heap next.state.heap v steady.stays fine)

pub written_static_told : (e : Moment) (i : ℕ) (v : Value) (d : Doing) → Told e d → i < length e.program.statics → Fine d.state.heap v → Told e (static_written e i v d)
written_static_told e i v d h within fine =
    updated_told e 0 i (static_at d.state.guest i) v (doing_with_guest (with_static d.state.guest i v) d) (static_told e i v d h fine) (inl (refl, within)) (fine_at d.state.heap d.state.guest.statics i (statics_fine d.state h.sound)) fine

-- OBJECTS

made_told : (e : Moment) (class elements slots size : ℕ) (d : Doing) → Told e d → size ≡ size_of e.program (new_object class elements slots) → ((class_at e.program class).info.element ≡ NoArray → elements ≡ 0) → Told e (object_added e (new_object class elements slots) size d)
made_told e class elements slots size d h is bare =
    let y : ObjectState = new_object class elements slots in
    let heap : Objects = d.state.heap in
    let now : Objects = heap ++ Some y ∷ [] in
    let clock : ℕ = e.before.guest.clock + 1 in
    let steady : Steady heap now = steady_push heap y in
    let len : length now ≡ length heap + 1 = length_push heap (Some y) in
    let here : found (Some y) ≡ object_at now (length heap) = ap (λ (x : Option ObjectState). found x) (sym (newest_at heap y)) in
    let allocation : IsAllocationOf e.program now (length heap) (length heap) class size elements = record {
      number_is = refl;
      held = newest_held heap y;
      class_is = ap (λ (x : ObjectState). x.class) here;
      length_is = ap (λ (x : ObjectState). x.length) here;
      size_is = is ∙ ap (λ (x : ObjectState). size_of e.program x) here;
      plain = bare;
    } in
    let r : Record = Alloc d.state.guest.clock e.thread (length heap) class size elements in
    record {
      sound = made_sound d.state class elements slots h.sound;
      clock = h.clock;
      thread = h.thread;
      steady = steady_then e.before.heap heap now h.steady steady;
      records = subst (λ (n : ℕ). AreRecordsOf e.program clock e.thread now (length e.before.heap) (d.records ++ r ∷ []) n) (sym len)
          (records_more e.program clock e.thread now (length e.before.heap) (length heap) d.records r
          (records_grow e.program clock e.thread heap now (length e.before.heap) (length heap) d.records steady h.records) (h.clock, refl, allocation));
    }

pub instance_told : (e : Moment) (class : ℕ) (d : Doing) → Told e d → (class_at e.program class).info.element ≡ NoArray → Told e (instance_made e class d)
instance_told e class d h plain =
    let slots : ℕ = (class_at e.program class).info.slots in
    made_told e class 0 slots (16 + 8 * slots) d h
    (ap (λ (n : ℕ). 16 + 8 * n) (sym (length-replicate slots Unset)) ∙ ap (λ (x : Element). size_by x 0 (length (new_object class 0 slots).slots)) (sym plain)) (λ none. refl)

array_size_is : (x : Element) (n slots : ℕ) → is_array_element x ≡ true → array_size n (element_width x) ≡ size_by x n slots
array_size_is NoArray n slots is = cc
array_size_is (Base kind) n slots is = refl
array_size_is (Class class) n slots is = refl

no_array : (x : Element) → x ≡ NoArray → is_array_element x ≡ true → ⊥
no_array x none is = false≢true (sym (ap (λ (y : Element). is_array_element y) none) ∙ is)

pub array_told : (e : Moment) (class n : ℕ) (d : Doing) → Told e d → is_array_element (class_at e.program class).info.element ≡ true → Told e (array_made e class n d)
array_told e class n d h array =
    let x : Element = (class_at e.program class).info.element in
    made_told e class n n (array_size n (element_width x)) d h (array_size_is x n (length (new_object class n n).slots) array) (λ none. absurd (no_array x none array))

-- STRINGS OF CONSTANTS

pub record Interned (e : Moment) (bytes : List ℕ) (d x : Doing) : Type 0 where
  pub tells : Told e x
  pub stays : Grows d.state.heap x.state.heap
  pub held : IsHeld x.state.heap (string_object bytes x)

pub interned_told : (e : Moment) (bytes : List ℕ) (d : Doing) → HasPlainStrings e.program → Told e d → Interned e bytes d (interned e bytes d)
interned_told e bytes d plain h = by (object_of d.state.guest.interned bytes) refl
  where
    class : ℕ
    class = class_called e.program (codes "java/lang/String")

    y : Doing
    y = instance_made e class d

    n : ℕ
    n = next_object d

    x : Doing
    x = doing_with_guest (with_string y.state.guest bytes n) y

    object : ObjectState
    object = new_object class 0 (class_at e.program class).info.slots

    by : (q : Option ℕ) → object_of d.state.guest.interned bytes ≡ q → Interned e bytes d (if is_some q then d else x)
    by (Some o) is = record {
      tells = h;
      stays = λ k held. held;
      held = subst (λ (r : Option ℕ). IsHeld d.state.heap (unwrap_or r 0)) (sym is) (h.sound.roots o (string_root d.state.guest o (object_in d.state.guest.interned bytes o is)));
    }
    by None is = record {
      tells = string_told e bytes n y (instance_told e class d h plain) (newest_held d.state.heap object);
      stays = λ k held. held_push d.state.heap object k held;
      held = subst (λ (r : Option ℕ). IsHeld x.state.heap (unwrap_or r 0)) (sym (object_pushed d.state.guest.interned bytes n is)) (newest_held d.state.heap object);
    }

-- EXCEPTIONS

pub pending_told : (e : Moment) (o : ℕ) (d : Doing) → Told e d → IsHeld d.state.heap o → Told e (pending_now e o d)
pending_told e o d h held =
    let x : ThreadState = thread_at d.state.guest e.thread in
    let was : FineThread d.state.heap x = told_thread e d h in
    thread_told e (with_pending (Some o) x) d h (record { frames = was.frames; pending = held; entry = was.entry; object = was.object })

pub as_entered_told : (e : Moment) (d : Doing) → Told e d → Told e (with_thread_state e (as_entered (thread_at d.state.guest e.thread)) d)
as_entered_told e d h =
    let x : ThreadState = thread_at d.state.guest e.thread in
    let was : FineThread d.state.heap x = told_thread e d h in
    thread_told e (as_entered x) d h (record { frames = was.frames; pending = was.pending; entry = λ u. tt; object = was.object })
