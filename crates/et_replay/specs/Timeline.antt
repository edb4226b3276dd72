-- The timeline of a trace.
use Rattle.std.specs.Prelude.{ℕ, zero, suc, Bool, false, not, ◌&&◌, ◌==◌, if◌then◌else◌, List, ◌++◌, reverse, Option, Some, None}
use Rattle.std.specs.List.{list_any, filter_map}
use Rattle.et_base.specs.declared.line.TraceLine.{TraceLine}
use Rattle.et_base.specs.declared.line.TraceLine.TheVariants.{Alloc, Update, Death}
use Rattle.et_text.specs.Rules.{latest}
use Rattle.et_replay.specs.declared.item.Item.{Item}
use Rattle.et_replay.specs.declared.item.Item.TheVariants as items

-- the item of an A line, or of a U line of an object, with the event; a U line of a static (object 0) has none
abbrev pub item_at : ℕ → TraceLine → Option Item
item_at e (Alloc event thread object class size length) = if event == e then Some (items.Alloc event object size) else None
item_at e (Update event thread object slot old new) = if event == e && not (object == 0) then Some (items.Write event object slot new) else None
item_at e _ = None

-- the line tells that the object was last reached at the event
abbrev pub tells_at : ℕ → ℕ → TraceLine → Bool
tells_at e object (Death dead time) = dead == object && time == e
tells_at e object _ = false

abbrev pub dies_at : List TraceLine → ℕ → ℕ → Bool
dies_at lines e object = list_any (tells_at e object) lines

-- the death of the object that the line makes, where that was last reached at the event
abbrev pub death_at : List TraceLine → ℕ → TraceLine → Option Item
death_at lines e (Alloc event thread object class size length) = if dies_at lines e object then Some (items.Death object e) else None
death_at lines e _ = None

-- what happens at the event, in the order of the lines, and then the deaths of its time, in order of number
abbrev pub items_at : List TraceLine → ℕ → List Item
items_at lines e = filter_map (item_at e) lines ++ filter_map (death_at lines e) lines

-- .. at the events up to this one
abbrev pub items_to : List TraceLine → ℕ → List Item
items_to lines zero = items_at lines 0
items_to lines (suc e) = items_to lines e ++ items_at lines (suc e)

-- THE ITEMS: those of each event up to the last
abbrev pub timeline_items : List TraceLine → List Item
timeline_items lines = items_to lines (latest (reverse lines))
