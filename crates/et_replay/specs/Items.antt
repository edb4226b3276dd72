-- Lists of items.
use Rattle.std.specs.Prelude.{◌≡◌, ℕ, ◌+◌, ◌<◌, ◌≤◌, ◌^◌, List, length, All, slice_index, Option, Some, None}
use Rattle.std.specs.List.{filter_map}
use Rattle.et_replay.specs.declared.item.Item.{Item}
use Rattle.et_replay.specs.declared.item.Item.TheVariants.{Alloc}

-- the object that the item makes
abbrev pub object_made : Item → Option ℕ
object_made (Alloc event object size) = Some object
object_made _ = None

-- the size in bytes of the object that it makes
abbrev pub size_made : Item → Option ℕ
size_made (Alloc event object size) = Some size
size_made _ = None

-- the objects made, in order
abbrev pub made_objects : List Item → List ℕ
made_objects items = filter_map object_made items

abbrev pub sizes : List Item → List ℕ
sizes items = filter_map size_made items

-- at most 16,777,215 objects are made, in the order of their numbers, each of at most 2^30 bytes
pub record MakesInOrder (items : List Item) : Type 0 where
  pub few : length (made_objects items) < 2 ^ 24
  pub numbered : (k : ℕ) → k < length (made_objects items) → slice_index (made_objects items) k ≡ k + 1
  pub small : All (λ size. size ≤ 2 ^ 30) (sizes items)
