-- The rules on fields (JVMS 4.5) and on their ConstantValue attribute (4.7.2), and those on any attribute (4.7).
use Rattle.std.specs.Prelude.{ℕ, ◌+◌, List, [], ◌∷◌, length, Bool, false, not, ◌==◌, ◌&&◌, ◌||◌, if◌then◌else◌, bit_and, Option, Some, None, is_some}
use Rattle.std.specs.List.{list_any, find}
use Rattle.std.specs.Int.{w16, from_be_bytes}
use Rattle.std.specs.Str.{bytes_eq}
use Rattle.et_base.specs.Marks.{Mark, mark}
use Rattle.et_pool.specs.declared.tags.TheConstants.{INTEGER, LONG, STRING}
use Rattle.et_pool.specs.Entries.{Item}
use Rattle.et_pool.specs.Looks.{utf8_at, tag_at}
use Rattle.et_pool.specs.Descriptors.{is_field_descriptor, is_floating}
use Rattle.et_code.specs.declared.body.TheConstants.{UNSUPPORTED}
use Rattle.et_class.specs.declared.fault.TheConstants.{FLAGS, DESCRIPTOR, MEMBER, ATTRIBUTE}
use Rattle.et_class.specs.declared.flags.TheConstants.{STATIC, FINAL, VOLATILE}
use Rattle.et_class.specs.declared.names.TheConstants.{CONSTANT_VALUE, STRING_TYPE}
use Rattle.et_class.specs.Layout.{AttributeOf, MemberOf, attribute_bytes}
use Rattle.et_class.specs.Along.{along}
use Rattle.et_class.specs.Names.{has, is_attribute_named, has_member_name, is_member_new}

-- ANY ATTRIBUTE: its name is a Utf8 entry
abbrev pub attribute_marks : List (Option Item) → List AttributeOf → ℕ → AttributeOf → List Mark
attribute_marks slots before place a = mark place ATTRIBUTE (is_some (utf8_at slots a.name)) ∷ []

-- at most one of public, private and protected
abbrev pub is_one_access : ℕ → Bool
is_one_access flags = (bit_and flags 7 == 0) || (bit_and flags 7 == 1) || (bit_and flags 7 == 2) || (bit_and flags 7 == 4)

-- a field isn't final and volatile, and in an interface it is static
abbrev pub is_field_flags : Bool → ℕ → Bool
is_field_flags interface flags = is_one_access flags && not (has flags FINAL && has flags VOLATILE) && (not interface || has flags STATIC)

abbrev pub is_type : Option (List ℕ) → Bool
is_type None = false
is_type (Some descriptor) = is_field_descriptor descriptor

abbrev pub is_floating_type : Option (List ℕ) → Bool
is_floating_type None = false
is_floating_type (Some descriptor) = is_floating descriptor

-- I, S, C, B and Z
abbrev pub is_int_type : List ℕ → Bool
is_int_type [] = false
is_int_type (a ∷ rest) = ((a == 73) || (a == 83) || (a == 67) || (a == 66) || (a == 90)) && (length rest == 0)

abbrev pub is_long_type : List ℕ → Bool
is_long_type [] = false
is_long_type (a ∷ rest) = (a == 74) && (length rest == 0)

-- a constant of this tag is one for a field of this type
abbrev pub is_constant_for : Option (List ℕ) → ℕ → Bool
is_constant_for None tag = false
is_constant_for (Some type) tag =
    if tag == INTEGER then is_int_type type else (if tag == LONG then is_long_type type else ((tag == STRING) && bytes_eq type STRING_TYPE.now))

-- the body of a ConstantValue is the index of such a constant
abbrev pub is_constant : List (Option Item) → MemberOf → List ℕ → Bool
is_constant slots m body = (length body == 2) && is_constant_for (utf8_at slots m.descriptor) (tag_at slots (from_be_bytes w16 body))

abbrev pub is_constant_value : List (Option Item) → AttributeOf → Bool
is_constant_value slots a = is_attribute_named slots CONSTANT_VALUE.now a

-- a field has at most one ConstantValue, and that of a static field fits its type
abbrev pub is_value_well : List (Option Item) → MemberOf → Bool → AttributeOf → Bool
is_value_well slots m seen a = not (is_constant_value slots a) || (not seen && (not (has m.flags STATIC) || is_constant slots m a.body))

-- an attribute of a field, where one of the earlier ones is a ConstantValue or none
abbrev pub is_field_attribute : List (Option Item) → MemberOf → Bool → AttributeOf → Bool
is_field_attribute slots m seen a = is_some (utf8_at slots a.name) && is_value_well slots m seen a

abbrev pub field_attribute_marks : List (Option Item) → MemberOf → List AttributeOf → ℕ → AttributeOf → List Mark
field_attribute_marks slots m before place a = mark place ATTRIBUTE (is_field_attribute slots m (list_any (is_constant_value slots) before) a) ∷ []

-- a field at a place, which shares name and descriptor with an earlier one or is new: its access_flags begin it, its descriptor_index stands 4 bytes on, its attributes 8
abbrev pub field_marks_if : List (Option Item) → Bool → Bool → ℕ → MemberOf → List Mark
field_marks_if slots interface new place m =
    mark place FLAGS (is_field_flags interface m.flags) ∷
    mark place MEMBER (has_member_name slots m && new) ∷
    mark (place + 4) DESCRIPTOR (is_type (utf8_at slots m.descriptor)) ∷
    mark (place + 4) UNSUPPORTED (not (is_floating_type (utf8_at slots m.descriptor))) ∷
    along attribute_bytes (field_attribute_marks slots m) [] (place + 8) m.attributes

abbrev pub field_marks : List (Option Item) → Bool → List MemberOf → ℕ → MemberOf → List Mark
field_marks slots interface before place m = field_marks_if slots interface (is_member_new slots before m) place m

-- the index that an attribute's body of two bytes is
abbrev pub index_in : Option AttributeOf → ℕ
index_in None = 0
index_in (Some a) = if length a.body == 2 then from_be_bytes w16 a.body else 0

-- the index of the ConstantValue of a static field, and 0 of any other
abbrev pub constant_of : List (Option Item) → MemberOf → ℕ
constant_of slots m = if has m.flags STATIC then index_in (find (is_constant_value slots) m.attributes) else 0
