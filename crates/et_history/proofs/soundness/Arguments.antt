-- The arguments of a call: how many they are, and the receiver among them.
use Rattle.std.proofs.Common.{◌≡◌, ℕ, zero, suc, ◌-◌, ◌≤◌, Bool, true, false, List, [], ◌∷◌, length, take, drop, reverse, Option, Some, None, refl, ap, subst, arith, Contains}
use Rattle.std.specs.Prelude.{if◌then◌else◌, option_map}
use Rattle.std.proofs.lemmas.List.{length-reverse, length-drop}
use Rattle.std.proofs.lemmas.Option.{same_Some, none-some}
use Rattle.et_heap.proofs.References.{refs_taken}
use Rattle.et_base.specs.declared.value.Value.{Value}
use Rattle.et_base.specs.declared.value.Value.TheVariants.{Unset, Int, Long, LongHigh, Null, Ref}
use Rattle.et_class.specs.Names.{has}
use Rattle.et_class.specs.declared.flags.TheConstants.{STATIC, SYNCHRONIZED}
use Rattle.et_base.proofs.Lists.{Contains-here}
use Rattle.et_heap.specs.Refs.{refs_of}
use Rattle.et_program.specs.Entries.{Linked, method_at, is_static}
use Rattle.et_program.specs.declared.info.MethodInfo.{MethodInfo}
use Rattle.et_event.specs.Frames.{first_reference, receiver_of}
use Rattle.et_event.specs.Monitors.{Lock, OfObject, OfClass, lock_for}
use Rattle.et_state.proofs.Places.{refs_reversed}

-- HOW MANY

record IsTaken (n k m : ℕ) : Type 0 where
  few : m ≤ n
  left : k - m ≡ k - n

taken : (n : ℕ) (xs : List Value) → IsTaken n (length xs) (length (take n xs))
taken zero xs = record { few = omega arith; left = refl }
taken (suc n) [] = record { few = omega arith; left = omega arith }
taken (suc n) (x ∷ xs) = let h : IsTaken n (length xs) (length (take n xs)) = taken n xs in record { few = omega (arith, h.few); left = omega (arith, h.left) }

-- what stays below the arguments of so many entries
pub record AreArguments (ops : List Value) (count : ℕ) (arguments : List Value) : Type 0 where
  pub few : length arguments ≤ count
  pub left : length (drop (length arguments) ops) ≡ length (drop count ops)

pub arguments_are : (ops : List Value) (count : ℕ) → AreArguments ops count (reverse (take count ops))
arguments_are ops count =
    let t : IsTaken count (length ops) (length (take count ops)) = taken count ops in
    let n : length (reverse (take count ops)) ≡ length (take count ops) = length-reverse (take count ops) in
    let a : length (drop (length (reverse (take count ops))) ops) ≡ length ops - length (reverse (take count ops)) = length-drop (length (reverse (take count ops))) ops in
    let b : length (drop count ops) ≡ length ops - count = length-drop count ops in
    record { few = omega (arith, t.few); left = omega (arith, t.left) }

-- THE RECEIVER

first_contained : (vs : List Value) (o : ℕ) → first_reference vs ≡ Some o → Contains (refs_of vs) o
first_contained [] o e = absurd (none-some o e)
first_contained (Unset ∷ vs) o e = absurd (none-some o e)
first_contained (Int n ∷ vs) o e = absurd (none-some o e)
first_contained (Long n ∷ vs) o e = absurd (none-some o e)
first_contained (LongHigh ∷ vs) o e = absurd (none-some o e)
first_contained (Null ∷ vs) o e = absurd (none-some o e)
first_contained (Ref q ∷ vs) o e = subst (λ (k : ℕ). Contains (refs_of (Ref q ∷ vs)) k) (same_Some q o e) (Contains-here q (refs_of vs))

-- it is among the operands
pub receiver_contained : (ops : List Value) (count o : ℕ) → first_reference (reverse (take count ops)) ≡ Some o → Contains (refs_of ops) o
receiver_contained ops count o e = refs_taken ops count o (refs_reversed (take count ops) o (first_contained (reverse (take count ops)) o e))

-- THE MONITOR of a method

abbrev lock_by : Bool → Bool → MethodInfo → Option ℕ → Option Lock
lock_by sync static m receiver = if sync then (if static then Some (OfClass m.class) else option_map OfObject receiver) else None

no_lock : (o : ℕ) (lock : Option Lock) → lock ≡ None → lock ≡ Some (OfObject o) → ⊥
no_lock o lock a b = cc

class_lock : (c o : ℕ) (lock : Option Lock) → lock ≡ Some (OfClass c) → lock ≡ Some (OfObject o) → ⊥
class_lock c o lock a b = cc

object_lock : (q o : ℕ) (lock : Option Lock) → lock ≡ Some (OfObject q) → lock ≡ Some (OfObject o) → q ≡ o
object_lock q o lock a b = cc

locked : (sync static : Bool) (m : MethodInfo) (receiver : Option ℕ) (o : ℕ) → lock_by sync static m receiver ≡ Some (OfObject o) → (static ≡ false) × (receiver ≡ Some o)
locked true true m r o e = absurd (class_lock m.class o _ refl e)
locked true false m None o e = absurd (no_lock o None refl e)
locked true false m (Some q) o e = (refl, ap (λ (k : ℕ). Some k) (object_lock q o (Some (OfObject q)) refl e))
locked false static m r o e = absurd (no_lock o None refl e)

first_of : (static : Bool) (r : Option ℕ) (o : ℕ) → (if static then None else r) ≡ Some o → r ≡ Some o
first_of true r o e = absurd (none-some o e)
first_of false r o e = e

-- where it is that of an object, that one is the receiver, and the method isn't static
pub record IsLockOf (p : Linked) (m : ℕ) (arguments : List Value) (o : ℕ) : Type 0 where
  pub instance : is_static p m ≡ false
  pub receiver : first_reference arguments ≡ Some o

pub lock_of : (p : Linked) (m : ℕ) (arguments : List Value) (o : ℕ) → lock_for (method_at p m) (receiver_of p m arguments) ≡ Some (OfObject o) → IsLockOf p m arguments o
lock_of p m arguments o e =
    let h = locked (has (method_at p m).flags SYNCHRONIZED) (has (method_at p m).flags STATIC) (method_at p m) (receiver_of p m arguments) o e in
    record { instance = h.0; receiver = first_of (is_static p m) (first_reference arguments) o h.1 }
