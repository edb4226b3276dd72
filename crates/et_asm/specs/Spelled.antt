-- The pool of a listing as the class file format has it: what stands at each index.
use Rattle.std.specs.Prelude.{◌≡◌, ℕ, ℤ, List, ◌++◌, true, length, map, Option, Some}
use Rattle.std.specs.List.{flat_map, list_any}
use Rattle.std.specs.Int.{w32, w64, cast_unsigned, cast_signed}
use Rattle.et_pool.specs.declared.tags.TheConstants.{INTEGER, LONG, CLASS, STRING, FIELDREF, METHODREF, INTERFACE_METHODREF, NAME_AND_TYPE}
use Rattle.et_pool.specs.Entries.{Item, Text, Word, Wide, Name, Pair, slots_of}
use Rattle.et_pool.specs.Looks.{slot_bytes, slot_at, utf8_at, class_name_at, string_at}
use Rattle.et_listing.specs.declared.entry.Entry.{Entry}
use Rattle.et_listing.specs.declared.entry.Entry.TheVariants as entry
use Rattle.et_listing.specs.declared.line.Parsed.{Parsed}
use Rattle.et_listing.specs.Words.{unescaped}
use Rattle.et_asm.specs.Pool.{same_entry, entry_index, pool, entry_pool_bytes}
use Rattle.et_class.specs.Layout.{u2}

abbrev pub pool_item_of : List Entry → Entry → Item
pool_item_of entries (entry.Utf8 text) = Text (unescaped text)
pool_item_of entries (entry.Integer value) = Word INTEGER (cast_unsigned w32 value)
pool_item_of entries (entry.Long value) = Wide LONG (cast_unsigned w64 value)
pool_item_of entries (entry.Class name) = Name CLASS (entry_index entries (entry.Utf8 name))
pool_item_of entries (entry.Text text) = Name STRING (entry_index entries (entry.Utf8 text))
pool_item_of entries (entry.NameAndType name descriptor) = Pair NAME_AND_TYPE (entry_index entries (entry.Utf8 name)) (entry_index entries (entry.Utf8 descriptor))
pool_item_of entries (entry.Field class name descriptor) = Pair FIELDREF (entry_index entries (entry.Class class)) (entry_index entries (entry.NameAndType name descriptor))
pool_item_of entries (entry.Method class name descriptor) = Pair METHODREF (entry_index entries (entry.Class class)) (entry_index entries (entry.NameAndType name descriptor))
pool_item_of entries (entry.InterfaceMethod class name descriptor) = Pair INTERFACE_METHODREF (entry_index entries (entry.Class class)) (entry_index entries (entry.NameAndType name descriptor))

-- what stands at each index
unfoldable pub entry_slots : List Entry → List (Option Item)
entry_slots entries = slots_of (map (pool_item_of entries) entries)

-- the bytes of a pool are those of its slots, behind their number
abbrev pub PoolsAreSpelled : Type 0
PoolsAreSpelled = (lines : List Parsed) → entry_pool_bytes (pool lines) ≡ u2 (length (entry_slots (pool lines))) ++ flat_map slot_bytes (entry_slots (pool lines))

-- at the index of an entry that a pool has stands that entry, and the names behind it are found
pub record FindsEntries (entries : List Entry) : Type 0 where
  pub items : (e : Entry) → list_any (same_entry e) entries ≡ true → slot_at (entry_slots entries) (entry_index entries e) ≡ Some (pool_item_of entries e)
  pub texts : (text : List ℕ) → list_any (same_entry (entry.Utf8 text)) entries ≡ true → utf8_at (entry_slots entries) (entry_index entries (entry.Utf8 text)) ≡ Some (unescaped text)
  pub classes : (name : List ℕ) → list_any (same_entry (entry.Class name)) entries ≡ true → class_name_at (entry_slots entries) (entry_index entries (entry.Class name)) ≡ Some (unescaped name)
  pub strings : (text : List ℕ) → list_any (same_entry (entry.Text text)) entries ≡ true → string_at (entry_slots entries) (entry_index entries (entry.Text text)) ≡ Some (unescaped text)

abbrev pub PoolsFind : Type 0
PoolsFind = (lines : List Parsed) → FindsEntries (pool lines)
