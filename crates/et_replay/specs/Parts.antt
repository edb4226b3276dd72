-- How the timeline is put together. The contracts of private functions alone speak of it.
use Rattle.std.specs.Prelude.{ℕ, ◌+◌, ◌*◌, ◌==◌, if◌then◌else◌, List, [], ◌∷◌, ◌++◌, Option, Some, None}
use Rattle.et_base.specs.declared.line.TraceLine.{TraceLine}
use Rattle.et_base.specs.declared.line.TraceLine.TheVariants.{Alloc, Update}
use Rattle.et_replay.specs.declared.item.Item.{Item}
use Rattle.et_replay.specs.declared.item.Item.TheVariants as items
use Rattle.et_replay.specs.Lives.{never, Sizes}

-- the item of an A or U line
abbrev pub item_of : TraceLine → Option Item
item_of (Alloc event thread object class size length) = Some (items.Alloc event object size)
item_of (Update event thread object slot old new) = if object == 0 then None else Some (items.Write event object slot new)
item_of _ = None

-- where the item stands: an even number for what happens at an event, and the next one for the deaths of its time
abbrev pub item_event : Item → ℕ
item_event (items.Alloc event object size) = 2 * event
item_event (items.Write event object slot new) = 2 * event
item_event (items.Death object time) = 2 * time + 1

-- the death of this object, where a D line tells of one
abbrev pub death_of : ℕ → ℕ × ℕ → List Item
death_of object p = if p.0 == never then [] else items.Death object p.0 ∷ []

-- the deaths of the objects behind this one, in order of number
abbrev pub deaths_from : ℕ → Sizes → List Item
deaths_from object [] = []
deaths_from object (p ∷ died) = death_of (object + 1) p ++ deaths_from (object + 1) died
