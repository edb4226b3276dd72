-- Reference queues: a reference waits in a queue from the time at which it is put there until it is polled.
use Rattle.std.specs.Prelude.{◌≡◌, ℕ, Bool, true, false, List, [], ◌∷◌, ◌++◌, drop, Option, Some, None, Contains}
use Rattle.et_base.specs.declared.value.Value.{Value}
use Rattle.et_base.specs.declared.value.Value.TheVariants.{Null, Ref}
use Rattle.et_heap.specs.Objects.{ObjectState, Objects, IsHeld, object_at, with_object_at}

abbrev pub with_waits : Bool → ObjectState → ObjectState
with_waits b x = record x { waits = b }

-- one reference more at the end of the list
abbrev pub with_one_waiting : ℕ → ObjectState → ObjectState
with_one_waiting r x = record x { waiting = x.waiting ++ r ∷ [] }

-- without the first reference of the list
abbrev pub without_first_waiting : ObjectState → ObjectState
without_first_waiting x = record x { waiting = drop 1 x.waiting }

-- a heap in which one object is changed
abbrev pub changed_at : (ObjectState → ObjectState) → ℕ → Objects → Objects
changed_at f o heap = with_object_at heap o (f (object_at heap o))

-- A reference goes to the end of the list of its queue, where it has a queue and does not wait.
abbrev pub put_in : Option ℕ → Bool → ℕ → Objects → Objects
put_in (Some q) false r heap = changed_at (with_one_waiting r) q (changed_at (with_waits true) r heap)
put_in (Some q) true r heap = heap
put_in None b r heap = heap

abbrev pub enqueued : ℕ → Objects → Objects
enqueued r heap = put_in (object_at heap r).queue (object_at heap r).waits r heap

-- the first of a list, as a value
abbrev pub first_value : List ℕ → Value
first_value [] = Null
first_value (r ∷ rs) = Ref r

-- The first reference of the list of a queue is taken out of it.
abbrev pub take_first : List ℕ → ℕ → Objects → Objects
take_first [] q heap = heap
take_first (r ∷ rs) q heap = changed_at (with_waits false) r (changed_at without_first_waiting q heap)

abbrev pub polled : ℕ → Objects → Objects
polled q heap = take_first (object_at heap q).waiting q heap

-- each reference that waits in the queue is held
abbrev pub IsWhole : Objects → ℕ → Type 0
IsWhole heap q = (r : ℕ) → Contains (object_at heap q).waiting r → IsHeld heap r

-- the queue of the reference, if it has one, is held, and so is each reference that waits there
pub record HasQueue (heap : Objects) (r : ℕ) : Type 0 where
  pub held : (q : ℕ) → (object_at heap r).queue ≡ Some q → IsHeld heap q
  pub whole : (q : ℕ) → (object_at heap r).queue ≡ Some q → IsWhole heap q
