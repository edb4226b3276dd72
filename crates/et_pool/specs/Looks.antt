-- What stands at an index of a pool, and the rules between its entries.
use Rattle.std.specs.Prelude.{◌≡◌, ℕ, ℤ, ◌+◌, ◌<◌, ◌^◌, List, [], length, take, Bool, true, false, ◌==◌, ◌&&◌, ◌||◌, Option, Some, None, IfSome, Result, Ok, Err, slice_index_or, if◌then◌else◌}
use Rattle.std.specs.List.{flat_map}
use Rattle.std.specs.Int.{w32, w64, cast_signed}
use Rattle.et_pool.specs.declared.tags.TheConstants.{UTF8, INTEGER, LONG, CLASS, STRING, FIELDREF, METHODREF, INTERFACE_METHODREF, NAME_AND_TYPE, METHOD_HANDLE, INVOKE_DYNAMIC}
use Rattle.et_pool.specs.declared.fault.PoolFault.{PoolFault}
use Rattle.et_pool.specs.declared.fault.PoolFault.TheVariants as fault
use Rattle.et_pool.specs.Entries.{Item, Text, Word, Wide, Name, Pair, Handle, item_bytes}
use Rattle.et_pool.specs.Descriptors.{is_class_name}

-- the entry at an index, if there is one
abbrev pub slot_at : List (Option Item) → ℕ → Option Item
slot_at slots i = slice_index_or slots i None

abbrev pub tag_of : Item → ℕ
tag_of (Text bytes) = UTF8
tag_of (Word tag bits) = tag
tag_of (Wide tag bits) = tag
tag_of (Name tag index) = tag
tag_of (Pair tag first second) = tag
tag_of (Handle kind index) = METHOD_HANDLE

abbrev pub tag_of_slot : Option Item → ℕ
tag_of_slot None = 0
tag_of_slot (Some e) = tag_of e

-- the tag at an index, or 0 where there is no entry
abbrev pub tag_at : List (Option Item) → ℕ → ℕ
tag_at slots i = tag_of_slot (slot_at slots i)

-- WHAT AN ENTRY HOLDS, where it is of the form that is asked for

abbrev pub text_of_slot : Option Item → Option (List ℕ)
text_of_slot None = None
text_of_slot (Some (Text bytes)) = Some bytes
text_of_slot (Some (Word tag bits)) = None
text_of_slot (Some (Wide tag bits)) = None
text_of_slot (Some (Name tag index)) = None
text_of_slot (Some (Pair tag first second)) = None
text_of_slot (Some (Handle kind index)) = None

-- the bytes of a Utf8 entry
abbrev pub utf8_at : List (Option Item) → ℕ → Option (List ℕ)
utf8_at slots i = text_of_slot (slot_at slots i)

-- a text has fewer bytes than two bytes of length can say (4.4.7)
abbrev pub HasShortText : Option Item → Type 0
HasShortText slot = IfSome (text_of_slot slot) (λ bytes. length bytes < 2 ^ 16)

-- the bytes that an entry of this tag names
abbrev pub named_by : List (Option Item) → ℕ → Option Item → Option (List ℕ)
named_by slots wanted None = None
named_by slots wanted (Some (Text bytes)) = None
named_by slots wanted (Some (Word tag bits)) = None
named_by slots wanted (Some (Wide tag bits)) = None
named_by slots wanted (Some (Name tag index)) = if tag == wanted then utf8_at slots index else None
named_by slots wanted (Some (Pair tag first second)) = None
named_by slots wanted (Some (Handle kind index)) = None

-- the name that a Class entry gives (4.4.1)
abbrev pub class_name_at : List (Option Item) → ℕ → Option (List ℕ)
class_name_at slots i = named_by slots CLASS (slot_at slots i)

-- the bytes that a String entry gives (4.4.3)
abbrev pub string_at : List (Option Item) → ℕ → Option (List ℕ)
string_at slots i = named_by slots STRING (slot_at slots i)

abbrev pub integer_of_slot : Option Item → Option ℤ
integer_of_slot None = None
integer_of_slot (Some (Text bytes)) = None
integer_of_slot (Some (Word tag bits)) = if tag == INTEGER then Some (cast_signed w32 bits) else None
integer_of_slot (Some (Wide tag bits)) = None
integer_of_slot (Some (Name tag index)) = None
integer_of_slot (Some (Pair tag first second)) = None
integer_of_slot (Some (Handle kind index)) = None

-- the number of an Integer entry (4.4.4)
abbrev pub integer_at : List (Option Item) → ℕ → Option ℤ
integer_at slots i = integer_of_slot (slot_at slots i)

abbrev pub long_of_slot : Option Item → Option ℤ
long_of_slot None = None
long_of_slot (Some (Text bytes)) = None
long_of_slot (Some (Word tag bits)) = None
long_of_slot (Some (Wide tag bits)) = if tag == LONG then Some (cast_signed w64 bits) else None
long_of_slot (Some (Name tag index)) = None
long_of_slot (Some (Pair tag first second)) = None
long_of_slot (Some (Handle kind index)) = None

-- the number of a Long entry (4.4.5)
abbrev pub long_at : List (Option Item) → ℕ → Option ℤ
long_at slots i = long_of_slot (slot_at slots i)

abbrev pub is_member_tag : ℕ → Bool
is_member_tag tag = (tag == FIELDREF) || (tag == METHODREF) || (tag == INTERFACE_METHODREF)

-- the two indices of a pair whose tag passes the test
abbrev pub pair_of_slot : (ℕ → Bool) → Option Item → Option (ℕ × ℕ)
pair_of_slot wanted None = None
pair_of_slot wanted (Some (Text bytes)) = None
pair_of_slot wanted (Some (Word tag bits)) = None
pair_of_slot wanted (Some (Wide tag bits)) = None
pair_of_slot wanted (Some (Name tag index)) = None
pair_of_slot wanted (Some (Pair tag first second)) = if wanted tag then Some (first, second) else None
pair_of_slot wanted (Some (Handle kind index)) = None

-- the indices of the name and of the descriptor of a NameAndType entry (4.4.6)
abbrev pub name_and_type_at : List (Option Item) → ℕ → Option (ℕ × ℕ)
name_and_type_at slots i = pair_of_slot (λ tag. tag == NAME_AND_TYPE) (slot_at slots i)

-- the indices of the class and of the NameAndType of a Fieldref, Methodref or InterfaceMethodref entry (4.4.2)
abbrev pub member_at : List (Option Item) → ℕ → Option (ℕ × ℕ)
member_at slots i = pair_of_slot is_member_tag (slot_at slots i)

-- THE RULES BETWEEN ENTRIES

abbrev pub is_name : Option (List ℕ) → Bool
is_name None = false
is_name (Some bytes) = is_class_name bytes

-- The entries that this one names are of the needed tags: a Class names a Utf8 that is a class's name, a String and a
-- MethodType a Utf8; a NameAndType two of them; an InvokeDynamic and a member a NameAndType, and a member a Class. What
-- a MethodHandle names, and the first number of an InvokeDynamic, isn't looked at.
abbrev pub is_fit : List (Option Item) → Item → Bool
is_fit slots (Text bytes) = true
is_fit slots (Word tag bits) = true
is_fit slots (Wide tag bits) = true
is_fit slots (Name tag index) = if tag == CLASS then is_name (utf8_at slots index) else (tag_at slots index == UTF8)
is_fit slots (Pair tag first second) =
    if tag == NAME_AND_TYPE then (tag_at slots first == UTF8) && (tag_at slots second == UTF8)
    else (if tag == INVOKE_DYNAMIC then (tag_at slots second == NAME_AND_TYPE) else ((tag_at slots first == CLASS) && (tag_at slots second == NAME_AND_TYPE)))
is_fit slots (Handle kind index) = true

abbrev pub is_fit_slot : List (Option Item) → Option Item → Bool
is_fit_slot slots None = true
is_fit_slot slots (Some e) = is_fit slots e

-- no index below n has a broken entry
abbrev pub AllFit : List (Option Item) → ℕ → Type 0
AllFit slots n = (i : ℕ) → i < n → is_fit_slot slots (slot_at slots i) ≡ true

abbrev pub slot_bytes : Option Item → List ℕ
slot_bytes None = []
slot_bytes (Some e) = item_bytes e

-- the place of the entry at an index of a pool whose count stands at `at`
abbrev pub item_place : ℕ → List (Option Item) → ℕ → ℕ
item_place at slots i = at + 2 + length (flat_map slot_bytes (take i slots))

-- the place after a pool
abbrev pub end_of : ℕ → List (Option Item) → ℕ
end_of at slots = at + 2 + length (flat_map slot_bytes slots)

-- the first entry that breaks a rule stands at this place
pub record BreaksIndex (at : ℕ) (slots : List (Option Item)) (place : ℕ) : Type 0 where
  pub index : ℕ
  pub within : index < length slots
  pub broken : is_fit_slot slots (slot_at slots index) ≡ false
  pub first : AllFit slots index
  pub place_is : place ≡ item_place at slots index

-- no entry breaks a rule, or the answer is the first that does
abbrev pub ChecksPool : {A : Type 0} → ℕ → List (Option Item) → Result A PoolFault → Type 0
ChecksPool at slots (Ok x) = AllFit slots (length slots)
ChecksPool at slots (Err (fault.Tag p)) = ⊥
ChecksPool at slots (Err (fault.Utf8 p)) = ⊥
ChecksPool at slots (Err (fault.Index p)) = BreaksIndex at slots p
ChecksPool at slots (Err (fault.Short p)) = ⊥
ChecksPool at slots (Err fault.NoMemory) = ⊥
