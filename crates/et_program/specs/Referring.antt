-- WHAT THE ENTRIES OF A POOL REFER TO in a program (JVMS 4.4.1, 4.4.2, 5.4.3): a class, or a field or method of a class.
use Rattle.std.specs.Prelude.{ℕ, ◌==◌, Bool, false, List, [], Option, Result, Ok, Err, slice_index_or, option_map, option_and_then}
use Rattle.std.specs.Option.{option_map_or}
use Rattle.et_class.specs.Descriptors.{is_field_descriptor}
use Rattle.et_class.specs.Entries.{Item, Constants}
use Rattle.et_class.specs.Looks.{tag_at, utf8_at, class_name_at, name_and_type_at, member_at}
use Rattle.et_class.specs.PoolTags.TheConstants.{INTERFACE_METHODREF}
use Rattle.et_program.specs.declared.errors.LinkError.{LinkError}
use Rattle.et_program.specs.declared.lookup.referring.NamedMethod.{NamedMethod}
use Rattle.et_program.specs.Entries.{Linked}
use Rattle.et_program.specs.Resolution.{resolve_class, resolve_field, resolve_method}

abbrev pub no_constants : Constants
no_constants = record { at = 0; slots = [] }

-- the pool of a class
abbrev pub pool_of_class : Linked → ℕ → List (Option Item)
pool_of_class p class = (slice_index_or p.pools class no_constants).slots

-- MEMBERS (JVMS 4.4.2): the class that is named, the name, and the descriptor
pub record Member : Type 0 where
  pub owner : List ℕ
  pub name : List ℕ
  pub descriptor : List ℕ

abbrev named : List (Option Item) → List ℕ → ℕ × ℕ → Option Member
named pool owner indices =
    option_and_then (λ name. option_map (λ descriptor. record { owner = owner; name = name; descriptor = descriptor }) (utf8_at pool indices.1)) (utf8_at pool indices.0)

abbrev pub described : List (Option Item) → ℕ × ℕ → Option Member
described pool indices =
    option_and_then (λ owner. option_and_then (named pool owner) (name_and_type_at pool indices.1)) (class_name_at pool indices.0)

-- the member that the entry at an index gives
abbrev pub member_described : List (Option Item) → ℕ → Option Member
member_described pool index = option_and_then (described pool) (member_at pool index)

-- WHAT A MEMBER MEANS: its class is resolved, and then the member in it

abbrev pub field_in_owner : Linked → Member → Result ℕ LinkError → Result ℕ LinkError
field_in_owner p m (Err e) = Err e
field_in_owner p m (Ok owner) = resolve_field p owner m.name m.descriptor

abbrev pub field_of_member : Linked → Member → Result ℕ LinkError
field_of_member p m = field_in_owner p m (resolve_class p m.owner)

abbrev pub named_in : ℕ → Result ℕ LinkError → Result NamedMethod LinkError
named_in owner (Err e) = Err e
named_in owner (Ok method) = Ok (record { class = owner; method = method })

abbrev pub method_in_owner : Linked → Bool → Member → Result ℕ LinkError → Result NamedMethod LinkError
method_in_owner p by_interface m (Err e) = Err e
method_in_owner p by_interface m (Ok owner) = named_in owner (resolve_method p owner by_interface m.name m.descriptor)

abbrev pub method_of_member : Linked → Bool → Member → Result NamedMethod LinkError
method_of_member p by_interface m = method_in_owner p by_interface m (resolve_class p m.owner)

-- WHAT THE ENTRY AT AN INDEX of the pool of a class refers to, where it is of the form that is asked for

abbrev pub class_referred : Linked → ℕ → ℕ → Option (Result ℕ LinkError)
class_referred p class index = option_map (resolve_class p) (class_name_at (pool_of_class p class) index)

-- whether it gives a member with the descriptor of a field (4.3.2)
abbrev pub is_field_referred : Linked → ℕ → ℕ → Bool
is_field_referred p class index = option_map_or (λ (m : Member). is_field_descriptor m.descriptor) (member_described (pool_of_class p class) index) false

abbrev pub field_referred : Linked → ℕ → ℕ → Option (Result ℕ LinkError)
field_referred p class index = option_map (field_of_member p) (member_described (pool_of_class p class) index)

-- an InterfaceMethodref entry asks for a method of an interface, and any other for one of a class
abbrev pub method_referred : Linked → ℕ → ℕ → Option (Result NamedMethod LinkError)
method_referred p class index =
    option_map (method_of_member p (tag_at (pool_of_class p class) index == INTERFACE_METHODREF)) (member_described (pool_of_class p class) index)
