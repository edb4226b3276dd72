-- What the words of an event write: the records so far tell it.
use Rattle.std.proofs.Common.{◌≡◌, ℕ, zero, suc, ◌<◌, ◌⊎◌, ◌==◌, ◌&&◌, Bool, true, false, List, [], ◌∷◌, ◌++◌, length, replicate, Option, Some, None, refl, sym, ◌∙◌, ap, subst, inl, inr, get_or-set_same}
use Rattle.std.specs.Prelude.{if◌then◌else◌, slice_index_or}
use Rattle.std.proofs.lemmas.Bool.{cases_eq, and_parts, eqb-true, eq-eqb, false≢true}
use Rattle.std.proofs.lemmas.List.{get_or-set_other}
use Rattle.et_base.specs.declared.value.Value.{Value}
use Rattle.et_base.specs.declared.value.Value.TheVariants.{Unset, Int, Long, LongHigh, Null, Ref}
use Rattle.et_heap.specs.declared.monitor.Monitor.{Monitor}
use Rattle.et_heap.specs.Objects.{ObjectState, Objects, IsHeld, found, new_object, object_at, slot_of, with_slot, with_monitor, with_object_at}
use Rattle.et_heap.specs.Queues.{with_waits, without_first_waiting, take_first}
use Rattle.et_heap.proofs.HeapLists.{held_within, held_set}
use Rattle.et_state.specs.State.{GuestState, Kept}
use Rattle.et_state.specs.Words.{static_at, with_static}
use Rattle.et_state.specs.declared.records.Record.{Record}
use Rattle.et_state.specs.declared.records.Record.TheVariants.{Alloc, Update, Enter, Exit, Unwind}
use Rattle.et_event.specs.BuiltIns.{with_first_taken}
use Rattle.et_event.specs.Moments.{Moment, Doing, told, doing_with_guest, object_added, number_of_value, updated, slot_written, static_written}
use Rattle.et_event.specs.Monitors.{Lock, OfObject, OfClass, with_monitor_of}
use Rattle.et_history.specs.steps.Steps.{IsReference}
use Rattle.et_history.specs.steps.Writes.{reference_at, TellsOld, after_record, TellWrites}
use Rattle.et_history.proofs.steps.Recording.{HasLock}

-- LISTS OF RECORDS

pub tell_to : (before a b : ℕ → ℕ → ℕ) (rs : List Record) → TellWrites before rs a → ((o i : ℕ) → b o i ≡ a o i) → TellWrites before rs b
tell_to before a b [] h same = λ o i. same o i ∙ h o i
tell_to before a b (r ∷ rs) h same = (h.0, tell_to (after_record before r) a b rs h.1 same)

old_told : (before a : ℕ → ℕ → ℕ) (r : Record) → ((o i : ℕ) → a o i ≡ before o i) → TellsOld a r → TellsOld before r
old_told before a (Alloc event thread object class size elements) same h = tt
old_told before a (Update event thread object slot old new) same h = h ∙ same object slot
old_told before a (Enter event thread method receiver) same h = tt
old_told before a (Exit event thread method) same h = tt
old_told before a (Unwind event thread method exception) same h = tt

after_same : (before a : ℕ → ℕ → ℕ) (r : Record) → ((o i : ℕ) → a o i ≡ before o i) → (o i : ℕ) → after_record a r o i ≡ after_record before r o i
after_same before a (Alloc event thread object class size elements) same o i = same o i
after_same before a (Update event thread object slot old new) same o i = ap (λ (n : ℕ). if (o == object) && (i == slot) then new else n) (same o i)
after_same before a (Enter event thread method receiver) same o i = same o i
after_same before a (Exit event thread method) same o i = same o i
after_same before a (Unwind event thread method exception) same o i = same o i

-- one record more
pub tell_more : (before a : ℕ → ℕ → ℕ) (rs : List Record) (r : Record) → TellWrites before rs a → TellsOld a r → TellWrites before (rs ++ r ∷ []) (after_record a r)
tell_more before a [] r h t = (old_told before a r h t, after_same before a r h)
tell_more before a (x ∷ rs) r h t = (h.0, tell_more (after_record before x) a rs r h.1 t)

-- AN EVENT SO FAR

abbrev pub TellsSo : Moment → Doing → Type 0
TellsSo e d = TellWrites (reference_at e.before) d.records (reference_at d.state)

pub same_writes : (e : Moment) (s : Kept) (d : Doing) → TellsSo e d → ((o i : ℕ) → reference_at s o i ≡ reference_at d.state o i) → TellsSo e (record { state = s; records = d.records })
same_writes e s d h same = tell_to (reference_at e.before) (reference_at d.state) (reference_at s) d.records h same

-- what is told besides writes
abbrev pub IsOther : Record → Type 0
IsOther (Update event thread object slot old new) = ⊥
IsOther other = Unit {0}

other_after : (a : ℕ → ℕ → ℕ) (r : Record) → IsOther r → (o i : ℕ) → a o i ≡ after_record a r o i
other_after a (Alloc event thread object class size elements) is o i = refl
other_after a (Update event thread object slot old new) is o i = absurd is
other_after a (Enter event thread method receiver) is o i = refl
other_after a (Exit event thread method) is o i = refl
other_after a (Unwind event thread method exception) is o i = refl

other_old : (a : ℕ → ℕ → ℕ) (r : Record) → IsOther r → TellsOld a r
other_old a (Alloc event thread object class size elements) is = tt
other_old a (Update event thread object slot old new) is = absurd is
other_old a (Enter event thread method receiver) is = tt
other_old a (Exit event thread method) is = tt
other_old a (Unwind event thread method exception) is = tt

pub record_writes : (e : Moment) (r : Record) (d : Doing) → IsOther r → TellsSo e d → TellsSo e (told r d)
record_writes e r d is h =
    let a : ℕ → ℕ → ℕ = reference_at d.state in
    tell_to (reference_at e.before) (after_record a r) a (d.records ++ r ∷ []) (tell_more (reference_at e.before) a d.records r h (other_old a r is)) (other_after a r is)

-- HEAPS

abbrev number_at : Objects → (object slot : ℕ) → ℕ
number_at h o i = number_of_value (slot_of (object_at h o) i)

abbrev number_in : (slot : ℕ) → Option ObjectState → ℕ
number_in i x = number_of_value (slot_of (found x) i)

by_heap : (g : GuestState) (h h' : Objects) → ((o i : ℕ) → number_at h' o i ≡ number_at h o i) → (o i : ℕ) → reference_at (record { heap = h'; guest = g }) o i ≡ reference_at (record { heap = h; guest = g }) o i
by_heap g h h' same o i = ap (λ (n : ℕ). if o == 0 then number_of_value (static_at g i) else n) (same o i)

set_same : (h : Objects) (o : ℕ) (y : ObjectState) → o < length h → ((i : ℕ) → number_of_value (slot_of y i) ≡ number_at h o i) → (k i : ℕ) → number_at (with_object_at h o y) k i ≡ number_at h k i
set_same h o y lt same k i =
    elim (cases_eq k o) [
      | inl e ↦ subst (λ (j : ℕ). number_at (with_object_at h o y) j i ≡ number_at h j i) (sym e) (ap (number_in i) (get_or-set_same h o (Some y) None lt) ∙ same i)
      | inr ne ↦ ap (number_in i) (get_or-set_other h o k (Some y) None ne)
    ]

-- an object became one with the same slots
pub object_writes : (e : Moment) (o : ℕ) (y : ObjectState) (d : Doing) → TellsSo e d → IsHeld d.state.heap o → y.slots ≡ (object_at d.state.heap o).slots
    → TellsSo e (record { state = record { heap = with_object_at d.state.heap o y; guest = d.state.guest }; records = d.records })
object_writes e o y d h held same =
    same_writes e (record { heap = with_object_at d.state.heap o y; guest = d.state.guest }) d h
    (by_heap d.state.guest d.state.heap (with_object_at d.state.heap o y) (set_same d.state.heap o y (held_within d.state.heap o held) (λ i. ap (λ (vs : List Value). number_of_value (slice_index_or vs i Unset)) same)))

pub monitor_writes : (e : Moment) (lock : Lock) (m : Monitor) (d : Doing) → TellsSo e d → HasLock d lock → TellsSo e (with_monitor_of lock m d)
monitor_writes e (OfObject o) m d h held = object_writes e o (with_monitor m (object_at d.state.heap o)) d h held refl
monitor_writes e (OfClass c) m d h held = h

-- a queue is polled
taken_writes : (e : Moment) (q : ℕ) (ws : List ℕ) (d : Doing) → TellsSo e d → IsHeld d.state.heap q → ((r : ℕ) (more : List ℕ) → ws ≡ r ∷ more → IsHeld d.state.heap r)
    → TellsSo e (record { state = record { heap = take_first ws q d.state.heap; guest = d.state.guest }; records = d.records })
taken_writes e q [] d h held there = h
taken_writes e q (r ∷ ws) d h held there =
    let y : ObjectState = without_first_waiting (object_at d.state.heap q) in
    let first : Doing = record { state = record { heap = with_object_at d.state.heap q y; guest = d.state.guest }; records = d.records } in
    object_writes e r (with_waits false (object_at first.state.heap r)) first (object_writes e q y d h held refl) (held_set d.state.heap q y r held (there r ws refl)) refl

pub first_taken_writes : (e : Moment) (q : ℕ) (d : Doing) → TellsSo e d → IsHeld d.state.heap q → ((r : ℕ) (more : List ℕ) → (object_at d.state.heap q).waiting ≡ r ∷ more → IsHeld d.state.heap r) → TellsSo e (with_first_taken q d)
first_taken_writes e q d h held there = taken_writes e q (object_at d.state.heap q).waiting d h held there

-- an object is made: nothing stands in its slots
empty_slot : (n i : ℕ) → slice_index_or (replicate n Unset) i Unset ≡ Unset
empty_slot zero i = refl
empty_slot (suc n) zero = refl
empty_slot (suc n) (suc i) = empty_slot n i

push_same : (h : Objects) (y : ObjectState) → ((i : ℕ) → number_of_value (slot_of y i) ≡ 0) → (o i : ℕ) → number_at (h ++ Some y ∷ []) o i ≡ number_at h o i
push_same [] y new zero i = new i
push_same [] y new (suc o) i = refl
push_same (x ∷ h) y new zero i = refl
push_same (x ∷ h) y new (suc o) i = push_same h y new o i

pub made_writes : (e : Moment) (class elements slots size : ℕ) (d : Doing) → TellsSo e d → TellsSo e (object_added e (new_object class elements slots) size d)
made_writes e class elements slots size d h =
    let y : ObjectState = new_object class elements slots in
    let s : Kept = record { heap = d.state.heap ++ Some y ∷ []; guest = d.state.guest } in
    let now : TellsSo e (record { state = s; records = d.records }) =
    same_writes e s d h (by_heap d.state.guest d.state.heap s.heap (push_same d.state.heap y (λ i. ap (λ (v : Value). number_of_value v) (empty_slot slots i)))) in
    record_writes e (Alloc d.state.guest.clock e.thread (length d.state.heap) class size elements) (record { state = s; records = d.records }) tt now

-- WRITES

-- at one place, or at any other
at_or_not : (k o j i new old x : ℕ) → (k ≡ o → j ≡ i → x ≡ new) → ((k ≡ o → j ≡ i → ⊥) → x ≡ old) → x ≡ (if (k == o) && (j == i) then new else old)
at_or_not k o j i new old x here elsewhere = by ((k == o) && (j == i)) refl
  where
    both : k ≡ o → j ≡ i → ((k == o) && (j == i)) ≡ true
    both a b = ap (λ (c : Bool). c && (j == i)) (eq-eqb k o a) ∙ eq-eqb j i b

    by : (b : Bool) → ((k == o) && (j == i)) ≡ b → x ≡ (if b then new else old)
    by true e = let parts = and_parts (k == o) (j == i) e in here (eqb-true k o parts.0) (eqb-true j i parts.1)
    by false e = elsewhere (λ a b. false≢true (sym e ∙ both a b))

nothing_there : (f : ℕ → ℕ → ℕ) (o i k j : ℕ) → f o i ≡ 0 → (if (k == o) && (j == i) then 0 else f k j) ≡ f k j
nothing_there f o i k j none = sym (at_or_not k o j i 0 (f k j) (f k j) (λ a b. ap (λ (n : ℕ). f n j) a ∙ (ap (λ (n : ℕ). f o n) b ∙ none)) (λ ne. refl))

-- a value was written there, which is a reference, or no reference stood there
module _ (e : Moment) (o i : ℕ) (old : Value) (s : Kept) (d : Doing) (h : TellsSo e d) (was : number_of_value old ≡ reference_at d.state o i) where
  abbrev Written : ℕ → Type 0
  Written n = (k j : ℕ) → reference_at s k j ≡ (if (k == o) && (j == i) then n else reference_at d.state k j)

  referred : (new : ℕ) → Written new → TellsSo e (told (Update s.guest.clock e.thread o i (number_of_value old) new) (record { state = s; records = d.records }))
  referred new all =
      let a : ℕ → ℕ → ℕ = reference_at d.state in
      let r : Record = Update s.guest.clock e.thread o i (number_of_value old) new in
      tell_to (reference_at e.before) (after_record a r) (reference_at s) (d.records ++ r ∷ []) (tell_more (reference_at e.before) a d.records r h was) all

  unreferred : Written 0 → ⊥ ⊎ (number_of_value old ≡ 0) → TellsSo e (record { state = s; records = d.records })
  unreferred all (inl never) = absurd never
  unreferred all (inr none) = same_writes e s d h (λ k j. all k j ∙ nothing_there (reference_at d.state) o i k j (sym was ∙ none))

  updated_writes : (v : Value) → Written (number_of_value v) → IsReference v ⊎ (number_of_value old ≡ 0) → TellsSo e (updated e o i old v (record { state = s; records = d.records }))
  updated_writes Unset all plain = unreferred all plain
  updated_writes (Int n) all plain = unreferred all plain
  updated_writes (Long n) all plain = unreferred all plain
  updated_writes LongHigh all plain = unreferred all plain
  updated_writes Null all plain = referred 0 all
  updated_writes (Ref new) all plain = referred new all

no_zero : (o : ℕ) → (o ≡ 0 → ⊥) → (o == 0) ≡ false
no_zero o ne = by (o == 0) refl
  where
    by : (b : Bool) → (o == 0) ≡ b → b ≡ false
    by true e = absurd (ne (eqb-true o 0 e))
    by false e = refl

-- a slot of an object
pub slot_writes : (e : Moment) (o i : ℕ) (v : Value) (d : Doing) → TellsSo e d → IsHeld d.state.heap o → (o ≡ 0 → ⊥) → i < length (object_at d.state.heap o).slots → IsReference v ⊎ (number_of_value (slot_of (object_at d.state.heap o) i) ≡ 0)
    → TellsSo e (slot_written e o i v d)
slot_writes e o i v d h held some inside plain = updated_writes e o i (slot_of x i) s d h (sym (object_reference d.state)) v (λ k j. at_or_not k o j i (number_of_value v) (reference_at d.state k j) (reference_at s k j) (here k j) (elsewhere k j)) plain
  where
    heap : Objects
    heap = d.state.heap

    x : ObjectState
    x = object_at heap o

    y : ObjectState
    y = with_slot i v x

    s : Kept
    s = record { heap = with_object_at heap o y; guest = d.state.guest }

    object_reference : (z : Kept) → reference_at z o i ≡ number_at z.heap o i
    object_reference z = ap (λ (b : Bool). if b then number_of_value (static_at z.guest i) else number_at z.heap o i) (no_zero o some)

    there : (j : ℕ) → number_at s.heap o j ≡ number_of_value (slot_of y j)
    there j = ap (number_in j) (get_or-set_same heap o (Some y) None (held_within heap o held))

    here : (k j : ℕ) → k ≡ o → j ≡ i → reference_at s k j ≡ number_of_value v
    here k j a b =
        ap (λ (n : ℕ). reference_at s n j) a
        ∙ (ap (λ (n : ℕ). reference_at s o n) b ∙ (object_reference s ∙ (there i ∙ ap (λ (w : Value). number_of_value w) (get_or-set_same x.slots i v Unset inside))))

    elsewhere : (k j : ℕ) → (k ≡ o → j ≡ i → ⊥) → reference_at s k j ≡ reference_at d.state k j
    elsewhere k j ne =
        ap (λ (n : ℕ). if k == 0 then number_of_value (static_at d.state.guest j) else n)
        (elim (cases_eq k o) [
          | inl a ↦
              ap (λ (n : ℕ). number_at s.heap n j) a
              ∙ (there j ∙ (ap (λ (w : Value). number_of_value w) (get_or-set_other x.slots i j v Unset (ne a)) ∙ ap (λ (n : ℕ). number_at heap n j) (sym a)))
          | inr nk ↦ ap (number_in j) (get_or-set_other heap o k (Some y) None nk)
        ])

-- a static
pub static_writes : (e : Moment) (i : ℕ) (v : Value) (d : Doing) → TellsSo e d → i < length d.state.guest.statics → IsReference v ⊎ (number_of_value (static_at d.state.guest i) ≡ 0) → TellsSo e (static_written e i v d)
static_writes e i v d h inside plain = updated_writes e 0 i (static_at d.state.guest i) s d h refl v (λ k j. at_or_not k 0 j i (number_of_value v) (reference_at d.state k j) (reference_at s k j) (here k j) (elsewhere k j)) plain
  where
    statics : List Value
    statics = d.state.guest.statics

    s : Kept
    s = (doing_with_guest (with_static d.state.guest i v) d).state

    here : (k j : ℕ) → k ≡ 0 → j ≡ i → reference_at s k j ≡ number_of_value v
    here k j a b =
        ap (λ (n : ℕ). reference_at s n j) a ∙ (ap (λ (n : ℕ). reference_at s 0 n) b ∙ ap (λ (w : Value). number_of_value w) (get_or-set_same statics i v Unset inside))

    elsewhere : (k j : ℕ) → (k ≡ 0 → j ≡ i → ⊥) → reference_at s k j ≡ reference_at d.state k j
    elsewhere k j ne =
        elim (cases_eq k 0) [
          | inl a ↦
              ap (λ (n : ℕ). reference_at s n j) a
              ∙ (ap (λ (w : Value). number_of_value w) (get_or-set_other statics i j v Unset (ne a)) ∙ ap (λ (n : ℕ). reference_at d.state n j) (sym a))
          | inr nk ↦
              ap (λ (b : Bool). if b then number_of_value (static_at s.guest j) else number_at d.state.heap k j) (no_zero k nk)
              ∙ sym (ap (λ (b : Bool). if b then number_of_value (static_at d.state.guest j) else number_at d.state.heap k j) (no_zero k nk))
        ]
