-- What the indices of a class file name in its pool.
use Rattle.std.specs.Prelude.{ℕ, List, Bool, false, not, ◌==◌, ◌&&◌, bit_and, Option, Some, None, option_and_then, option_map, length}
use Rattle.std.specs.List.{list_any}
use Rattle.std.specs.Str.{bytes_eq}
use Rattle.et_pool.specs.Entries.{Item}
use Rattle.et_pool.specs.Looks.{utf8_at, class_name_at}
use Rattle.et_pool.specs.Descriptors.{is_array}
use Rattle.et_class.specs.Layout.{AttributeOf, MemberOf}

-- the flag of this bit is set
abbrev pub has : ℕ → ℕ → Bool
has flags bit = not (bit_and flags bit == 0)

-- these bytes are that text
abbrev pub is_text : Option (List ℕ) → List ℕ → Bool
is_text None text = false
is_text (Some bytes) text = bytes_eq bytes text

-- the index is that of a Class entry, and the class is no array
abbrev pub is_plain_name : Option (List ℕ) → Bool
is_plain_name None = false
is_plain_name (Some name) = not (is_array name)

abbrev pub is_plain_class : List (Option Item) → ℕ → Bool
is_plain_class slots index = is_plain_name (class_name_at slots index)

-- the attribute has this name
abbrev pub is_attribute_named : List (Option Item) → List ℕ → AttributeOf → Bool
is_attribute_named slots name a = is_text (utf8_at slots a.name) name

-- the member has this name
abbrev pub is_member_named : List (Option Item) → List ℕ → MemberOf → Bool
is_member_named slots name m = is_text (utf8_at slots m.name) name

abbrev pub is_nonempty : Option (List ℕ) → Bool
is_nonempty None = false
is_nonempty (Some bytes) = not (length bytes == 0)

-- the name is a Utf8 entry and not empty
abbrev pub has_member_name : List (Option Item) → MemberOf → Bool
has_member_name slots m = is_nonempty (utf8_at slots m.name)

-- two members share name and descriptor, where these are Utf8 entries

abbrev pub same_key : List ℕ × List ℕ → List ℕ × List ℕ → Bool
same_key p q = bytes_eq p.0 q.0 && bytes_eq p.1 q.1

abbrev pub key_of : List (Option Item) → MemberOf → Option (List ℕ × List ℕ)
key_of slots m = option_and_then (λ name. option_map (λ descriptor. (name, descriptor)) (utf8_at slots m.descriptor)) (utf8_at slots m.name)

abbrev pub share : Option (List ℕ × List ℕ) → Option (List ℕ × List ℕ) → Bool
share None q = false
share (Some p) None = false
share (Some p) (Some q) = same_key p q

-- no earlier member shares name and descriptor with this one
abbrev pub is_member_new : List (Option Item) → List MemberOf → MemberOf → Bool
is_member_new slots before m = not (list_any (λ e. share (key_of slots m) (key_of slots e)) before)
