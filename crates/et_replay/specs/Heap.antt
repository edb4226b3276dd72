-- What the items so far say of the heap. In each list of items here the newest stands first.
use Rattle.std.specs.Prelude.{ℕ, Bool, false, not, ◌&&◌, ◌==◌, if◌then◌else◌, List, [], ◌∷◌, Option, Some, None, is_some, unwrap_or}
use Rattle.std.specs.List.{list_any, sum_by, filter_map}
use Rattle.et_replay.specs.declared.item.Item.{Item}
use Rattle.et_replay.specs.declared.item.Item.TheVariants.{Alloc, Write, Death}

-- the bytes of an object, where an Alloc item made it
abbrev pub size_in : List Item → ℕ → Option ℕ
size_in [] object = None
size_in (Alloc event other size ∷ past) object = if other == object then Some size else size_in past object
size_in (_ ∷ past) object = size_in past object

abbrev pub is_made : List Item → ℕ → Bool
is_made past object = is_some (size_in past object)

abbrev pub ends_life : ℕ → Item → Bool
ends_life object (Death other time) = other == object
ends_life object _ = false

-- an Alloc item made the object, and no Death item ended it
abbrev pub is_live : List Item → ℕ → Bool
is_live past object = is_made past object && not (list_any (ends_life object) past)

-- the bytes of a set of objects
abbrev pub bytes : List Item → List ℕ → ℕ
bytes past objects = sum_by (λ object. unwrap_or (size_in past object) 0) objects

-- What stands in a slot: what the newest Write item put there. What is written to an object that isn't made yet is
-- ignored. An object that left its space never comes back, so what is written to it then counts for nothing.
abbrev pub content : List Item → ℕ → ℕ → ℕ
content [] object slot = 0
content (Write event other at new ∷ past) object slot = if other == object && at == slot && is_made past object then new else content past object slot
content (_ ∷ past) object slot = content past object slot

-- the slot of a Write item, as its object and what stands in it
abbrev pub slot_written_by : List Item → Item → Option (ℕ × ℕ)
slot_written_by past (Write event object slot new) = Some (object, content past object slot)
slot_written_by past _ = None

-- all slots that were written
abbrev pub slots : List Item → List (ℕ × ℕ)
slots past = filter_map (slot_written_by past) past
