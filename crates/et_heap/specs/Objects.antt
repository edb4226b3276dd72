-- The objects of the guest (JVMS 2.4, 2.5.3).
use Rattle.std.specs.Prelude.{ℕ, ◌+◌, ◌-◌, ◌≤◌, ◌&&◌, Bool, false, nat_le, List, [], Option, Some, None, length, replicate, slice_index_or, slice_set}
use Rattle.std.specs.List.{sum_by}
use Rattle.std.specs.Option.{option_to_list}
use Rattle.et_base.specs.declared.value.Value.{Value}
use Rattle.et_base.specs.declared.value.Value.TheVariants.{Unset, Null, Ref}
use Rattle.et_heap.specs.declared.monitor.Monitor.{Monitor}

-- An object: its class, its length (0 for what is no array), its fields or elements, what it refers to weakly, and its
-- monitor. As a reference it may have a queue, and as a queue it has the references that wait in it.
pub record ObjectState : Type 0 where
  pub class : ℕ
  pub length : ℕ
  pub slots : List Value
  pub referent : Option ℕ
  pub queue : Option ℕ
  -- the references that wait in it, the first one first
  pub waiting : List ℕ
  -- whether it waits, in any queue
  pub waits : Bool
  pub monitor : Monitor

-- A heap has each object at its number, and None where the object was taken out. No object has the number 0.
abbrev pub Objects : Type 0
Objects = List (Option ObjectState)

-- a monitor that no thread has entered
abbrev pub free_monitor : Monitor
free_monitor = record { owner = None; count = 0 }

-- an object as it is made: nothing stands in its slots yet
abbrev pub new_object : ℕ → ℕ → ℕ → ObjectState
new_object class elements slots = record {
  class = class;
  length = elements;
  slots = replicate slots Unset;
  referent = None;
  queue = None;
  waiting = [];
  waits = false;
  monitor = free_monitor;
}

abbrev pub no_object : ObjectState
no_object = new_object 0 0 0

-- what stands in the heap at a number
abbrev pub at : Objects → ℕ → Option ObjectState
at heap o = slice_index_or heap o None

abbrev pub found : Option ObjectState → ObjectState
found None = no_object
found (Some x) = x

abbrev pub object_at : Objects → ℕ → ObjectState
object_at heap o = found (at heap o)

abbrev pub is_there : Option ObjectState → Type 0
is_there None = ⊥
is_there (Some x) = Unit {0}

-- the object was made and was not taken out
abbrev pub IsHeld : Objects → ℕ → Type 0
IsHeld heap o = is_there (at heap o)

-- o is the first object that is held from number k on
pub record IsNextHeld (heap : Objects) (k o : ℕ) : Type 0 where
  pub held : IsHeld heap o
  pub from : k ≤ o
  pub first : (u : ℕ) → k ≤ u → IsHeld heap u → o ≤ u

abbrev pub slot_of : ObjectState → ℕ → Value
slot_of x i = slice_index_or x.slots i Unset

abbrev pub with_slot : ℕ → Value → ObjectState → ObjectState
with_slot i v x = record x { slots = slice_set x.slots i v }

abbrev pub with_referent : Option ℕ → ObjectState → ObjectState
with_referent r x = record x { referent = r }

abbrev pub with_queue : Option ℕ → ObjectState → ObjectState
with_queue q x = record x { queue = q }

abbrev pub with_monitor : Monitor → ObjectState → ObjectState
with_monitor m x = record x { monitor = m }

abbrev pub with_object_at : Objects → ℕ → ObjectState → Objects
with_object_at heap o x = slice_set heap o (Some x)

abbrev pub without_object_at : Objects → ℕ → Objects
without_object_at heap o = slice_set heap o None

-- the number of objects made
abbrev pub made_count : Objects → ℕ
made_count heap = length heap - 1

abbrev pub slots_in : Option ObjectState → ℕ
slots_in None = 0
slots_in (Some x) = length x.slots

-- the slots of the objects that are held
abbrev pub slot_count : Objects → ℕ
slot_count heap = sum_by slots_in heap

abbrev pub ones_in : Option ObjectState → ℕ
ones_in None = 0
ones_in (Some x) = 1

-- the objects that are held
abbrev pub held_count : Objects → ℕ
held_count heap = sum_by ones_in heap

abbrev pub referents_in : Option ObjectState → ℕ
referents_in None = 0
referents_in (Some x) = length (option_to_list x.referent)

-- the objects that refer weakly to one
abbrev pub referent_count : Objects → ℕ
referent_count heap = sum_by referents_in heap

-- At most so many objects are ever made, and at most so many slots are held at a time.
abbrev pub most_objects : ℕ
most_objects = 16777215

abbrev pub most_slots : ℕ
most_slots = 67108864

-- so many objects more, with so many slots in all, may be made
abbrev pub has_room : Objects → ℕ → ℕ → Bool
has_room heap objects slots = nat_le (made_count heap + objects) most_objects && nat_le (slot_count heap + slots) most_slots

-- A referent or a queue as a value. What is no reference counts as null.
abbrev pub referent_value : Option ℕ → Value
referent_value None = Null
referent_value (Some o) = Ref o

abbrev pub referent_of : Value → Option ℕ
referent_of (Ref o) = Some o
referent_of v = None
