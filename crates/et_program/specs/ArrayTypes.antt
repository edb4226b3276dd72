-- THE ARRAY CLASSES of a program: `[Ljava/lang/String;`, and the array types over the classes of the set and over base
-- types that Class entries of the pools name or instructions make, with the types of their elements. Each has its
-- descriptor as its name (JVMS 4.4.1).
use Rattle.std.specs.Prelude.{ℕ, ◌-◌, ◌==◌, Bool, if◌then◌else◌, List, [], ◌∷◌, ◌++◌, length, take, drop, filter, Option, None, Some, option_map, is_some, codes, Result, Ok, Err}
use Rattle.std.specs.List.{flat_map, filter_map, list_any, position_from, slice_index_or}
use Rattle.std.specs.Option.{option_to_list}
use Rattle.std.specs.Str.{bytes_eq}
use Rattle.et_class.specs.Entries.{Item}
use Rattle.et_class.specs.Looks.{named_by, class_name_at}
use Rattle.et_class.specs.Descriptors.{is_array, dimensions}
use Rattle.et_class.specs.PoolTags.TheConstants.{CLASS}
use Rattle.et_class.specs.Instructions.Instr.{Instr}
use Rattle.et_class.specs.Instructions.CodeFault.{CodeFault}
use Rattle.et_class.specs.Opcodes.TheConstants.{NEWARRAY, ANEWARRAY}
use Rattle.et_class.specs.Decoding.{instruction_at}
use Rattle.et_class.specs.Starts.{is_start}
use Rattle.et_class.specs.Bodies.{Body}
use Rattle.et_class.specs.Codes.{index_of}
use Rattle.et_program.specs.declared.info.Element.{Element}
use Rattle.et_program.specs.declared.info.Element.TheVariants as element
use Rattle.et_program.specs.declared.kind.Leaf.{Leaf}
use Rattle.et_program.specs.declared.kind.Leaf.TheVariants.{Base, Class}
use Rattle.et_program.specs.declared.kind.Kind.{Kind}
use Rattle.et_program.specs.Loaded.{LoadedMember, LoadedClass}
use Rattle.et_program.specs.MembersOf.{numbered}

-- NAMES

-- the base types in the order of their codes in newarray, from 4 on: Z C F D B S I J (6.5, table newarray)
abbrev pub base_letters : List ℕ
base_letters = codes "ZCFDBSIJ"

abbrev pub base_letter : ℕ → ℕ
base_letter kind = slice_index_or base_letters (kind - 4) 0

-- the code of a base type
abbrev pub base_kind : ℕ → Option ℕ
base_kind letter = position_from (λ b. b == letter) 4 base_letters

-- the name of the class of the arrays over the class of this name
abbrev pub array_over : List ℕ → List ℕ
array_over name = if is_array name then 91 ∷ name else 91 ∷ 76 ∷ (name ++ 59 ∷ [])

-- WHERE ARRAY TYPES ARE MET

abbrev pub if_array : Option (List ℕ) → Option (List ℕ)
if_array None = None
if_array (Some name) = if is_array name then Some name else None

-- by a Class entry
abbrev pub named_arrays : List (Option Item) → List (List ℕ)
named_arrays slots = filter_map (λ s. if_array (named_by slots CLASS s)) slots

-- by newarray and anewarray; what multianewarray makes is named by a Class entry
abbrev pub made_by : List (Option Item) → Instr → List (List ℕ)
made_by slots i =
    if i.opcode == NEWARRAY then (91 ∷ base_letter (index_of i.first) ∷ []) ∷ []
    else (if i.opcode == ANEWARRAY then option_to_list (option_map array_over (class_name_at slots (index_of i.first))) else [])

abbrev pub made_if : List (Option Item) → Result (Instr × ℕ) CodeFault → List (List ℕ)
made_if slots (Ok x) = made_by slots x.0
made_if slots (Err f) = []

-- at each place of the code at which an instruction begins
abbrev pub made_in : List (Option Item) → List ℕ → List (List ℕ)
made_in slots code = numbered (λ pc b. if is_start code pc then made_if slots (instruction_at code pc) else []) 0 code

abbrev pub made_in_method : List (Option Item) → Option Body → List (List ℕ)
made_in_method slots None = []
made_in_method slots (Some b) = made_in slots b.code

abbrev pub file_arrays : LoadedClass → List (List ℕ)
file_arrays c = named_arrays c.pool.slots ++ flat_map (λ (m : LoadedMember). made_in_method c.pool.slots m.code) c.methods

abbrev pub arrays_met : List LoadedClass → List (List ℕ)
arrays_met files = codes "[Ljava/lang/String;" ∷ flat_map file_arrays files

-- WHICH OF THEM A PROGRAM HAS, where `place` gives the number of a class of the set by its name

-- the type under the dimensions: L and a class with `;` behind it, or a base type
abbrev pub leaf_at : (List ℕ → Option ℕ) → List ℕ → Option Leaf
leaf_at place [] = None
leaf_at place (a ∷ rest) = if a == 76 then option_map (λ (k : ℕ). Class k) (place (take (length rest - 1) rest)) else option_map (λ (b : ℕ). Base b) (base_kind a)

abbrev pub leaf_of : (List ℕ → Option ℕ) → List ℕ → Option Leaf
leaf_of place name = leaf_at place (drop (dimensions name) name)

abbrev pub is_type_known : (List ℕ → Option ℕ) → List ℕ → Bool
is_type_known place name = is_some (leaf_of place name)

-- an array type, and the types of its elements that are array types
abbrev pub with_element_types : List ℕ → List (List ℕ)
with_element_types [] = []
with_element_types (a ∷ rest) = if a == 91 then (a ∷ rest) ∷ with_element_types rest else []

-- a name is put behind a list that doesn't have it
abbrev pub name_added : List (List ℕ) → List ℕ → List (List ℕ)
name_added seen x = if list_any (λ y. bytes_eq x y) seen then seen else seen ++ x ∷ []

abbrev pub names_added : List (List ℕ) → List (List ℕ) → List (List ℕ)
names_added seen [] = seen
names_added seen (x ∷ xs) = names_added (name_added seen x) xs

-- the names of the array classes, each once
abbrev pub array_names : (List ℕ → Option ℕ) → List (List ℕ) → List (List ℕ)
array_names place met = names_added [] (flat_map with_element_types (filter (is_type_known place) met))

-- WHAT EACH IS, where the array classes have the numbers from `first` on in the order of these names

-- the number of the array class of a name
abbrev pub array_at : ℕ → List (List ℕ) → List ℕ → Option ℕ
array_at first names name = position_from (λ x. bytes_eq name x) first names

abbrev pub leaf_element : Option Leaf → Element
leaf_element None = element.NoArray
leaf_element (Some (Base b)) = element.Base b
leaf_element (Some (Class k)) = element.Class k

abbrev pub class_element : Option ℕ → Element
class_element None = element.NoArray
class_element (Some k) = element.Class k

-- what it has as its elements: an array class again, or what stands under the one dimension
abbrev pub element_of : (List ℕ → Option ℕ) → (List ℕ → Option ℕ) → List ℕ → Element
element_of place array name = if is_array (drop 1 name) then class_element (array (drop 1 name)) else leaf_element (leaf_of place name)

abbrev pub leaf_or : Option Leaf → Leaf
leaf_or None = Base 0
leaf_or (Some l) = l

abbrev pub kind_of : (List ℕ → Option ℕ) → List ℕ → Kind
kind_of place name = record { dimensions = dimensions name; leaf = leaf_or (leaf_of place name) }
