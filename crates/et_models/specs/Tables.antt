-- What is kept of all objects, by number. The contracts of private functions alone speak of it.
use Rattle.std.specs.Prelude.{◌≡◌, ℕ, ◌+◌, ◌≤◌, Bool, true, false, List, length, slice_index_or, slice_set, Option, Some, None, unwrap_or}
use Rattle.std.specs.List.{list_any}
use Rattle.et_replay.specs.declared.item.Item.{Item}
use Rattle.et_replay.specs.Heap.{ends_life, size_in}

abbrev pub size_at : List (Option ℕ) → ℕ → ℕ
size_at sizes object = unwrap_or (slice_index_or sizes object None) 0

abbrev pub flag_at : List Bool → ℕ → Bool
flag_at flags object = slice_index_or flags object false

abbrev pub with_size : List (Option ℕ) → ℕ → ℕ → List (Option ℕ)
with_size sizes object size = slice_set sizes object (Some size)

abbrev pub with_flag : List Bool → ℕ → List Bool
with_flag flags object = slice_set flags object true

-- the tables have a place for each of so many objects, and tell what the items so far say
pub record Knows (sizes : List (Option ℕ)) (dead : List Bool) (objects : ℕ) (past : List Item) : Type 0 where
  pub sizes_long : length sizes ≡ objects + 1
  pub dead_long : length dead ≡ objects + 1
  pub size_is : (object : ℕ) → object ≤ objects → slice_index_or sizes object None ≡ size_in past object
  pub dead_is : (object : ℕ) → object ≤ objects → flag_at dead object ≡ list_any (ends_life object) past
