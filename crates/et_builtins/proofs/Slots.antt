-- The slots that the machine itself uses, and what stands in them.
use Rattle.std.proofs.Common.{◌≡◌, ℕ, suc, ◌+◌, ◌<◌, ◌≤◌, Bool, true, false, List, [], ◌∷◌, length, Option, Some, None, sym, ◌∙◌, ap, subst, arith, Contains}
use Rattle.std.specs.Prelude.{codes, if◌then◌else◌, IfSome}
use Rattle.std.specs.List.{position_from}
use Rattle.et_heap.proofs.References.{there_is}
use Rattle.et_builtins.proofs.Queueing.{queue_named}
use Rattle.et_base.specs.declared.value.Value.{Value}
use Rattle.et_base.specs.declared.value.Value.TheVariants.{Unset, Int, Long, LongHigh, Null, Ref}
use Rattle.et_heap.specs.Objects.{ObjectState, IsHeld, at, found, object_at, slot_of, referent_value}
use Rattle.et_heap.specs.Refs.{refs_of_value}
use Rattle.et_state.specs.Threads.{ThreadState, is_thread_object as is_thread_of, thread_with}
use Rattle.et_state.specs.State.{MachineState, kept_of}
use Rattle.et_state.specs.Sound.{IsSound}
use Rattle.et_state.proofs.Steps.{slot_held}
use Rattle.et_program.specs.Entries.{Linked, class_at}
use Rattle.et_program.specs.Members.{is_subclass}
use Rattle.et_program.specs.declared.info.Element.{Element}
use Rattle.et_program.specs.declared.info.Element.TheVariants.{NoArray}
use Rattle.et_event.specs.PoolOperands.Operand.TheVariants as operand
use Rattle.et_event.specs.BuiltIns.{is_fit_for, is_object_of_class, uses_thread, uses_throwable}
use Rattle.et_event.specs.Errors.{class_called}
use Rattle.et_event.specs.Kinds.{or_zero}
use Rattle.et_event.specs.Sound.{IsSoundFor, IsSoundObject, slots_by}
use Rattle.et_event.specs.Moments.{Moment, Doing}
use Rattle.et_program.specs.BootMethods.BuiltIn.{BuiltIn}
use Rattle.et_program.specs.BootMethods.BuiltIn.TheVariants.{Nothing, SetMessage, SetMessageAndCause, GetMessage, GetCause, SetTarget, Start, Join, SetReferent, SetReferentAndQueue, GetReferent, ClearReferent, Poll}
use Rattle.et_builtins.specs.Kinds.{slots_used}
use Rattle.et_event.specs.Programs.{HasMachineSlots, KeepsFree, KeepsTarget}

sound_object : (p : Linked) (m : MachineState) (o : ℕ) → IsSoundFor p (kept_of m) → IsHeld m.heap o → IsSoundObject p (object_at m.heap o)
sound_object p m o sound held = (sound.objects o (found (at m.heap o)) (there_is (at m.heap o) held)).0

slots_kept : (p : Linked) (x : ObjectState) (count : ℕ) → IsSoundObject p x → (class_at p x.class).info.element ≡ NoArray → count ≤ (class_at p x.class).info.slots → count ≤ length x.slots
slots_kept p x count sound bare room =
    let slots : length x.slots ≡ (class_at p x.class).info.slots = sound.slots ∙ ap (λ (k : Element). slots_by k (class_at p x.class).info.slots x.length) bare in omega arith

pub throwable_slots : (p : Linked) (m : MachineState) (o : ℕ) → IsSoundFor p (kept_of m) → HasMachineSlots p → IsHeld m.heap o → is_subclass p (object_at m.heap o).class (class_called p (codes "java/lang/Throwable")) ≡ true
    → 2 ≤ length (object_at m.heap o).slots
throwable_slots p m o sound slots held is =
    let x : IsSoundObject p (object_at m.heap o) = sound_object p m o sound held in
    let free : KeepsFree p (object_at m.heap o).class 2 = slots.throwables (object_at m.heap o).class x.class is in
    slots_kept p (object_at m.heap o) 2 x free.bare free.room

pub thread_slots : (p : Linked) (m : MachineState) (o : ℕ) → IsSoundFor p (kept_of m) → HasMachineSlots p → IsHeld m.heap o → is_subclass p (object_at m.heap o).class (class_called p (codes "java/lang/Thread")) ≡ true
    → 1 ≤ length (object_at m.heap o).slots
thread_slots p m o sound slots held is =
    let x : IsSoundObject p (object_at m.heap o) = sound_object p m o sound held in
    let target : KeepsTarget p (object_at m.heap o).class = slots.threads (object_at m.heap o).class x.class is in
    slots_kept p (object_at m.heap o) 1 x target.bare target.room

-- what a slot or a referent gives is held

or_null_refs : (v : Value) (o : ℕ) → Contains (refs_of_value (or_zero (Some operand.Reference) v)) o → Contains (refs_of_value v) o
or_null_refs Unset o c = c
or_null_refs (Int n) o c = c
or_null_refs (Long n) o c = c
or_null_refs LongHigh o c = c
or_null_refs Null o c = c
or_null_refs (Ref r) o c = c

pub slot_or_null_held : (m : MachineState) (u i : ℕ) (v w : Value) → IsSound (kept_of m) → i < length (object_at m.heap u).slots → w ≡ slot_of (object_at m.heap u) i → v ≡ or_zero (Some operand.Reference) w
    → (o : ℕ) → Contains (refs_of_value v) o → IsHeld m.heap o
slot_or_null_held m u i v w sound lt e h o c =
    slot_held (kept_of m) u i o sound lt
    (or_null_refs (slot_of (object_at m.heap u) i) o (subst (λ (x : Value). Contains (refs_of_value (or_zero (Some operand.Reference) x)) o) e (subst (λ (x : Value). Contains (refs_of_value x) o) h c)))

pub referent_held : (m : MachineState) (u : ℕ) (v : Value) → IsSound (kept_of m) → v ≡ referent_value (object_at m.heap u).referent → (o : ℕ) → Contains (refs_of_value v) o → IsHeld m.heap o
referent_held m u v sound e o c = sound.referents u o (queue_named (object_at m.heap u).referent o (subst (λ (x : Value). Contains (refs_of_value x) o) e c))

-- THE THREAD OF A THREAD OBJECT is one that was started

position_within : (o i : ℕ) (xs : List ThreadState) → IfSome (position_from (is_thread_of o) i xs) (λ k. k < i + length xs)
position_within o i [] = tt
position_within o i (x ∷ xs) = by_test (is_thread_of o x) (position_within o (i + 1) xs)
  where
    by_rest : (r : Option ℕ) → IfSome r (λ k. k < i + 1 + length xs) → IfSome r (λ k. k < i + suc (length xs))
    by_rest None h = tt
    by_rest (Some k) h = omega arith

    by_test : (b : Bool) → IfSome (position_from (is_thread_of o) (i + 1) xs) (λ k. k < i + 1 + length xs)
        → IfSome (if b then Some i else position_from (is_thread_of o) (i + 1) xs) (λ k. k < i + suc (length xs))
    by_test true h = omega arith
    by_test false h = by_rest (position_from (is_thread_of o) (i + 1) xs) h

pub thread_within : (o : ℕ) (xs : List ThreadState) (k : ℕ) → Some k ≡ thread_with xs o → k < length xs
thread_within o xs k e = let h : k < 0 + length xs = subst (λ (r : Option ℕ). IfSome r (λ j. j < 0 + length xs)) (sym e) (position_within o 0 xs) in omega arith

-- THE CLASS OF THE RECEIVER

abbrev by_thread : Moment → Doing → ℕ → Bool → Bool
by_thread e d o c = if c then is_object_of_class e d o (codes "java/lang/Thread") else true

pub throwable_fit : (e : Moment) (d : Doing) (o : ℕ) (b : BuiltIn) → uses_throwable b ≡ true → is_fit_for e d o b ≡ is_object_of_class e d o (codes "java/lang/Throwable")
throwable_fit e d o b h = ap (λ (c : Bool). if c then is_object_of_class e d o (codes "java/lang/Throwable") else by_thread e d o (uses_thread b)) h

not_throwable_fit : (e : Moment) (d : Doing) (o : ℕ) (b : BuiltIn) → uses_throwable b ≡ false → is_fit_for e d o b ≡ by_thread e d o (uses_thread b)
not_throwable_fit e d o b h = ap (λ (c : Bool). if c then is_object_of_class e d o (codes "java/lang/Throwable") else by_thread e d o (uses_thread b)) h

pub thread_fit : (e : Moment) (d : Doing) (o : ℕ) (b : BuiltIn) → uses_throwable b ≡ false → uses_thread b ≡ true → is_fit_for e d o b ≡ is_object_of_class e d o (codes "java/lang/Thread")
thread_fit e d o b h k = not_throwable_fit e d o b h ∙ ap (λ (c : Bool). by_thread e d o c) k

pub other_fit : (e : Moment) (d : Doing) (o : ℕ) (b : BuiltIn) → uses_throwable b ≡ false → uses_thread b ≡ false → is_fit_for e d o b ≡ true
other_fit e d o b h k = not_throwable_fit e d o b h ∙ ap (λ (c : Bool). by_thread e d o c) k

pub throwable_used : (b : BuiltIn) (n : ℕ) → uses_throwable b ≡ true → 2 ≤ n → slots_used b ≤ n
throwable_used SetMessage n h le = le
throwable_used SetMessageAndCause n h le = le
throwable_used GetMessage n h le = le
throwable_used GetCause n h le = le
throwable_used Nothing n h le = omega arith
throwable_used SetTarget n h le = cc
throwable_used Start n h le = cc
throwable_used Join n h le = omega arith
throwable_used SetReferent n h le = omega arith
throwable_used SetReferentAndQueue n h le = omega arith
throwable_used GetReferent n h le = omega arith
throwable_used ClearReferent n h le = omega arith
throwable_used Poll n h le = omega arith

pub thread_used : (b : BuiltIn) (n : ℕ) → uses_thread b ≡ true → 1 ≤ n → slots_used b ≤ n
thread_used SetTarget n h le = le
thread_used Start n h le = le
thread_used SetMessage n h le = cc
thread_used SetMessageAndCause n h le = cc
thread_used GetMessage n h le = cc
thread_used GetCause n h le = cc
thread_used Nothing n h le = omega arith
thread_used Join n h le = omega arith
thread_used SetReferent n h le = omega arith
thread_used SetReferentAndQueue n h le = omega arith
thread_used GetReferent n h le = omega arith
thread_used ClearReferent n h le = omega arith
thread_used Poll n h le = omega arith

pub other_used : (b : BuiltIn) (n : ℕ) → uses_throwable b ≡ false → uses_thread b ≡ false → slots_used b ≤ n
other_used SetTarget n h k = cc
other_used Start n h k = cc
other_used SetMessage n h k = cc
other_used SetMessageAndCause n h k = cc
other_used GetMessage n h k = cc
other_used GetCause n h k = cc
other_used Nothing n h k = omega arith
other_used Join n h k = omega arith
other_used SetReferent n h k = omega arith
other_used SetReferentAndQueue n h k = omega arith
other_used GetReferent n h k = omega arith
other_used ClearReferent n h k = omega arith
other_used Poll n h k = omega arith
