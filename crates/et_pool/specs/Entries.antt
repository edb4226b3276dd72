-- The entries of a pool, and how each is spelled (JVMS 4.4).
use Rattle.std.specs.Prelude.{ℕ, ◌==◌, ◌||◌, List, [], ◌∷◌, ◌++◌, map, Option, Some, None, option_map, if◌then◌else◌, length}
use Rattle.std.specs.List.{flat_map}
use Rattle.std.specs.Int.{w16, w32, w64, to_be_bytes}
use Rattle.et_pool.specs.declared.tags.TheConstants.{UTF8, INTEGER, FLOAT, LONG, DOUBLE, CLASS, STRING, FIELDREF, METHODREF, INTERFACE_METHODREF, NAME_AND_TYPE, METHOD_HANDLE, METHOD_TYPE, INVOKE_DYNAMIC}
use Rattle.et_pool.specs.declared.entry.Entry.{Entry}
use Rattle.et_pool.specs.declared.entry.Entry.TheVariants as code
use Rattle.et_pool.specs.declared.entry.Layout.{Layout}
use Rattle.et_pool.specs.declared.entry.Layout.TheVariants as layout

-- an entry, by the layout of its body: its tag and its parts
pub data Item : Type 0 where
  Text : (bytes : List ℕ) → Item
  Word : (tag : ℕ) → (bits : ℕ) → Item
  Wide : (tag : ℕ) → (bits : ℕ) → Item
  Name : (tag : ℕ) → (index : ℕ) → Item
  Pair : (tag : ℕ) → (first : ℕ) → (second : ℕ) → Item
  Handle : (kind : ℕ) → (index : ℕ) → Item

-- the layout behind a tag: 4.4.7 Utf8; 4.4.4 Integer and Float; 4.4.5 Long and Double; 4.4.1 Class, 4.4.3 String and
-- 4.4.9 MethodType; 4.4.2 the members, 4.4.6 NameAndType and 4.4.10 InvokeDynamic; 4.4.8 MethodHandle
abbrev pub tag_layout : ℕ → Option Layout
tag_layout tag =
    if tag == UTF8 then Some layout.Text
    else (if (tag == INTEGER) || (tag == FLOAT) then Some layout.Word
    else (if (tag == LONG) || (tag == DOUBLE) then Some layout.Wide
    else (if (tag == CLASS) || (tag == STRING) || (tag == METHOD_TYPE) then Some layout.Name
    else (if (tag == FIELDREF) || (tag == METHODREF) || (tag == INTERFACE_METHODREF) || (tag == NAME_AND_TYPE) || (tag == INVOKE_DYNAMIC) then Some layout.Pair
    else (if tag == METHOD_HANDLE then Some layout.Handle else None)))))

-- how many indices an entry takes: a Long or Double takes two (4.4.5)
abbrev pub indices : Layout → ℕ
indices layout.Text = 1
indices layout.Word = 1
indices layout.Wide = 2
indices layout.Name = 1
indices layout.Pair = 1
indices layout.Handle = 1

abbrev pub view : Entry → Item
view (code.Text bytes) = Text bytes.items
view (code.Word tag bits) = Word tag bits
view (code.Wide tag bits) = Wide tag bits
view (code.Name tag index) = Name tag index
view (code.Pair tag first second) = Pair tag first second
view (code.Handle kind index) = Handle kind index

abbrev pub layout_of : Item → Layout
layout_of (Text bytes) = layout.Text
layout_of (Word tag bits) = layout.Word
layout_of (Wide tag bits) = layout.Wide
layout_of (Name tag index) = layout.Name
layout_of (Pair tag first second) = layout.Pair
layout_of (Handle kind index) = layout.Handle

-- what an entry puts at its indices: the index behind a Long or Double holds nothing
abbrev pub slots_of_item : Item → List (Option Item)
slots_of_item (Text bytes) = Some (Text bytes) ∷ []
slots_of_item (Word tag bits) = Some (Word tag bits) ∷ []
slots_of_item (Wide tag bits) = Some (Wide tag bits) ∷ None ∷ []
slots_of_item (Name tag index) = Some (Name tag index) ∷ []
slots_of_item (Pair tag first second) = Some (Pair tag first second) ∷ []
slots_of_item (Handle kind index) = Some (Handle kind index) ∷ []

abbrev pub slots_taken : Item → ℕ
slots_taken e = indices (layout_of e)

-- the bytes of an entry
abbrev pub item_bytes : Item → List ℕ
item_bytes (Text bytes) = UTF8 ∷ (to_be_bytes w16 (length bytes) ++ bytes)
item_bytes (Word tag bits) = tag ∷ to_be_bytes w32 bits
item_bytes (Wide tag bits) = tag ∷ to_be_bytes w64 bits
item_bytes (Name tag index) = tag ∷ to_be_bytes w16 index
item_bytes (Pair tag first second) = tag ∷ (to_be_bytes w16 first ++ to_be_bytes w16 second)
item_bytes (Handle kind index) = METHOD_HANDLE ∷ kind ∷ to_be_bytes w16 index

-- what stands at each index of a pool: nothing at index 0, then what each entry puts at its indices
abbrev pub slots_of : List Item → List (Option Item)
slots_of items = None ∷ flat_map slots_of_item items

abbrev pub view_slots : List (Option Entry) → List (Option Item)
view_slots slots = map (λ s. option_map view s) slots

-- a pool: the place of its count in the bytes that it was read from, and what stands at each index
pub record Constants : Type 0 where
  pub at : ℕ
  pub slots : List (Option Item)
