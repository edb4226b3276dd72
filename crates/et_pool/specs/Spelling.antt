-- A pool as bytes: the count, and each entry in order.
use Rattle.std.specs.Prelude.{◌≡◌, ℕ, ◌+◌, ◌<◌, ◌^◌, List, ◌++◌, length, All, Option, Some, true}
use Rattle.std.specs.List.{flat_map}
use Rattle.std.specs.Int.{w16, to_be_bytes}
use Rattle.et_base.specs.Numbers.{Stands}
use Rattle.et_pool.specs.declared.entry.Layout.TheVariants as layout
use Rattle.et_pool.specs.Text.{is_modified}
use Rattle.et_pool.specs.Entries.{Item, Text, Word, Wide, Name, Pair, Handle, tag_layout, slots_of, item_bytes}

-- an entry that can be spelled: its tag is that of its layout, its numbers fit, and a text is modified UTF-8
abbrev pub IsEntry : Item → Type 0
IsEntry (Text bytes) = (is_modified bytes ≡ true) × (length bytes < 2 ^ 16)
IsEntry (Word tag bits) = (tag_layout tag ≡ Some layout.Word) × (bits < 2 ^ 32)
IsEntry (Wide tag bits) = (tag_layout tag ≡ Some layout.Wide) × (bits < 2 ^ 64)
IsEntry (Name tag index) = (tag_layout tag ≡ Some layout.Name) × (index < 2 ^ 16)
IsEntry (Pair tag first second) = (tag_layout tag ≡ Some layout.Pair) × (first < 2 ^ 16) × (second < 2 ^ 16)
IsEntry (Handle kind index) = (kind < 2 ^ 8) × (index < 2 ^ 16)

abbrev pub pool_bytes : List Item → List ℕ
pool_bytes entries = to_be_bytes w16 (length (slots_of entries)) ++ flat_map item_bytes entries

-- the pool at a place is spelled there, whole
pub record IsPoolSpelled (bytes : List ℕ) (at : ℕ) (slots : List (Option Item)) (after : ℕ) : Type 0 where
  pub entries : List Item
  pub are_entries : All IsEntry entries
  pub few : length (slots_of entries) < 2 ^ 16
  pub slots_are : slots ≡ slots_of entries
  pub stands : Stands bytes at (pool_bytes entries)
  pub after_is : after ≡ at + length (pool_bytes entries)
