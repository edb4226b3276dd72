-- The table of events at small programs: the records of their runs, computed by the definitions.
use Rattle.std.proofs.Common.{◌≡◌, [], ◌∷◌, ◌++◌, None, Some, refl}
use Rattle.std.specs.Prelude.{codes}
use Rattle.std.specs.Int.{int_wrap}
use Rattle.et_class.specs.Entries.{Text, Word, Wide, Name, Pair}
use Rattle.et_class.specs.PoolTags.TheConstants.{CLASS, STRING, INTEGER, LONG, FIELDREF, METHODREF, NAME_AND_TYPE}
use Rattle.et_program.specs.Entries.{Linked}
use Rattle.et_program.specs.declared.info.Element.TheVariants as element
use Rattle.et_program.specs.declared.kind.Leaf.TheVariants as leaf
use Rattle.et_state.specs.declared.class_state.ClassState.TheVariants.{Untouched, Done}
use Rattle.et_state.specs.State.{Kept}
use Rattle.et_state.specs.declared.records.Record.TheVariants.{Alloc, Update, Enter, Exit}
use Rattle.et_state.specs.Outcome.{IllTyped}
use Rattle.et_code.specs.Forms.{form_of}
use Rattle.et_code.specs.Decoding.{instruction_at}
use Rattle.et_class.specs.Descriptors.{after_name, after_dimensions, types_of}
use Rattle.et_event.specs.Table.{row_of}
use Rattle.et_event.specs.Event.{event}
use Rattle.et_event.proofs.ExamplePrograms.{array_class, base_classes, class_below, code_of, field_of, main_of, method_of, no_pools, object_methods, pool_of, program_of, runtime_classes, strings_class, thrown_class, thrown_methods, after_picks, begun_with, records_by, turn_by}

-- `new Box; pop; return`
abbrev box : Linked
box =
    program_of
    (base_classes 5 ++ class_below [] (codes "Box") 33 4 0 None [] None ∷ strings_class 5 ∷ [])
    (object_methods ++ main_of 4 (code_of 1 1 (187 ∷ 0 ∷ 2 ∷ 87 ∷ 177 ∷ []) ([])) ∷ [])
    [] [] (1 ∷ []) 1
    (no_pools 4 ++ pool_of (Text (codes "Box") ∷ Name CLASS 1 ∷ Text (codes "java/lang/Object") ∷ Name CLASS 3 ∷ []) ∷ [])

abbrev box_start : Kept
box_start = begun_with 5 (Done ∷ Done ∷ Done ∷ Done ∷ Untouched ∷ Done ∷ []) 0

box_records : records_by box (0 ∷ 0 ∷ 0 ∷ 0 ∷ 0 ∷ []) box_start ≡ Enter 1 0 1 0 ∷ Alloc 2 0 2 4 16 0 ∷ Exit 4 0 1 ∷ []
unfolding int_wrap event row_of form_of instruction_at after_name after_dimensions types_of turn_by after_picks records_by
box_records = refl

-- two objects that refer to each other
abbrev node : Linked
node =
    program_of
    (base_classes 5 ++ class_below [] (codes "Node") 33 4 1 None [] None ∷ strings_class 5 ∷ [])
    (object_methods ++ main_of 4 (code_of 4 1 (187 ∷ 0 ∷ 2 ∷ 187 ∷ 0 ∷ 2 ∷ 92 ∷ 181 ∷ 0 ∷ 8 ∷ 95 ∷ 181 ∷ 0 ∷ 8 ∷ 177 ∷ []) ([])) ∷ [])
    (field_of 4 (codes "next") (codes "LNode;") 0 0 0 ∷ []) [] (1 ∷ []) 1
    (no_pools 4 ++ pool_of (Text (codes "Node") ∷ Name CLASS 1 ∷ Text (codes "java/lang/Object") ∷ Name CLASS 3 ∷ Text (codes "next") ∷ Text (codes "LNode;") ∷ Pair NAME_AND_TYPE 5 6 ∷ Pair FIELDREF 2 7 ∷ []) ∷ [])

abbrev node_start : Kept
node_start = begun_with 5 (Done ∷ Done ∷ Done ∷ Done ∷ Untouched ∷ Done ∷ []) 0

node_records : records_by node (0 ∷ 0 ∷ 0 ∷ 0 ∷ 0 ∷ 0 ∷ 0 ∷ 0 ∷ 0 ∷ []) node_start ≡ Enter 1 0 1 0 ∷ Alloc 2 0 2 4 24 0 ∷ Alloc 3 0 3 4 24 0 ∷ Update 5 0 2 0 0 3 ∷ Update 7 0 3 0 0 2 ∷ Exit 8 0 1 ∷ []
unfolding int_wrap event row_of form_of instruction_at after_name after_dimensions types_of turn_by after_picks records_by
node_records = refl

-- a division by zero, and its handler
abbrev div : Linked
div =
    program_of
    (runtime_classes 9
    ++ thrown_class (codes "java/lang/ArithmeticException") 7 (6 ∷ 5 ∷ 4 ∷ [])
    ∷ class_below [] (codes "Div") 33 8 0 None [] None
    ∷ strings_class 9
    ∷ [])
    (thrown_methods (5 ∷ 6 ∷ 7 ∷ [])
    ++ main_of 8 (code_of 4 1 (187 ∷ 0 ∷ 2 ∷ 187 ∷ 0 ∷ 2 ∷ 4 ∷ 3 ∷ 108 ∷ 87 ∷ 177 ∷ []) (record { start = 0; end = 9; handler = 9; catch = 6 } ∷ []))
    ∷ [])
    [] [] (16 ∷ []) 16
    (no_pools 8 ++ pool_of (Text (codes "Div") ∷ Name CLASS 1 ∷ Text (codes "java/lang/Object") ∷ Name CLASS 3 ∷ Text (codes "java/lang/ArithmeticException") ∷ Name CLASS 5 ∷ []) ∷ [])

abbrev div_start : Kept
div_start = begun_with 9 (Done ∷ Done ∷ Done ∷ Done ∷ Done ∷ Done ∷ Done ∷ Done ∷ Untouched ∷ Done ∷ []) 0

div_records : records_by div (0 ∷ 0 ∷ 0 ∷ 0 ∷ 0 ∷ 0 ∷ 0 ∷ 0 ∷ 0 ∷ 0 ∷ []) div_start ≡ Enter 1 0 16 0 ∷ Alloc 2 0 2 8 16 0 ∷ Alloc 3 0 3 8 16 0 ∷ Alloc 6 0 4 7 32 0 ∷ Exit 9 0 16 ∷ []
unfolding int_wrap event row_of form_of instruction_at after_name after_dimensions types_of turn_by after_picks records_by
div_records = refl

-- `iadd` on no operands: its event has no meaning
abbrev ill : Linked
ill =
    program_of
    (base_classes 5 ++ class_below [] (codes "Ill") 33 4 0 None [] None ∷ strings_class 5 ∷ [])
    (object_methods ++ main_of 4 (code_of 2 1 (96 ∷ 177 ∷ []) ([])) ∷ [])
    [] [] (1 ∷ []) 1
    (no_pools 4 ++ pool_of (Text (codes "Ill") ∷ Name CLASS 1 ∷ Text (codes "java/lang/Object") ∷ Name CLASS 3 ∷ []) ∷ [])

abbrev ill_start : Kept
ill_start = begun_with 5 (Done ∷ Done ∷ Done ∷ Done ∷ Untouched ∷ Done ∷ []) 0

ill_ends : event ill (after_picks ill (0 ∷ []) ill_start) 0 ≡ IllTyped 1 0
unfolding int_wrap event row_of form_of instruction_at after_name after_dimensions types_of turn_by after_picks records_by
ill_ends = refl

-- two equal strings of constants are one object
abbrev strings : Linked
strings =
    program_of
    (base_classes 5 ++ class_below [] (codes "Str") 33 4 0 None [] None ∷ strings_class 5 ∷ [])
    (object_methods ++ main_of 4 (code_of 2 1 (18 ∷ 6 ∷ 18 ∷ 6 ∷ 165 ∷ 0 ∷ 4 ∷ 0 ∷ 177 ∷ []) ([])) ∷ [])
    [] [] (1 ∷ []) 1
    (no_pools 4 ++ pool_of (Text (codes "Str") ∷ Name CLASS 1 ∷ Text (codes "java/lang/Object") ∷ Name CLASS 3 ∷ Text (codes "a") ∷ Name STRING 5 ∷ []) ∷ [])

abbrev strings_start : Kept
strings_start = begun_with 5 (Done ∷ Done ∷ Done ∷ Done ∷ Untouched ∷ Done ∷ []) 0

strings_records : records_by strings (0 ∷ 0 ∷ 0 ∷ 0 ∷ 0 ∷ 0 ∷ []) strings_start ≡ Enter 1 0 1 0 ∷ Alloc 2 0 2 3 16 0 ∷ Exit 5 0 1 ∷ []
unfolding int_wrap event row_of form_of instruction_at after_name after_dimensions types_of turn_by after_picks records_by
strings_records = refl

-- an array of arrays
abbrev arrays : Linked
arrays =
    program_of
    (base_classes 7
    ++ class_below [] (codes "Mul") 33 4 0 None [] None
    ∷ array_class (codes "[I") 5 (element.Base 10) 1 (leaf.Base 10) (Some 6)
    ∷ array_class (codes "[[I") 6 (element.Class 5) 2 (leaf.Base 10) None
    ∷ strings_class 7
    ∷ [])
    (object_methods ++ main_of 4 (code_of 2 1 (5 ∷ 4 ∷ 197 ∷ 0 ∷ 6 ∷ 2 ∷ 87 ∷ 177 ∷ []) ([])) ∷ [])
    [] [] (1 ∷ []) 1
    (no_pools 4 ++ pool_of (Text (codes "Mul") ∷ Name CLASS 1 ∷ Text (codes "java/lang/Object") ∷ Name CLASS 3 ∷ Text (codes "[[I") ∷ Name CLASS 5 ∷ []) ∷ [])

abbrev arrays_start : Kept
arrays_start = begun_with 7 (Done ∷ Done ∷ Done ∷ Done ∷ Untouched ∷ Done ∷ Done ∷ Done ∷ []) 0

arrays_records : records_by arrays (0 ∷ 0 ∷ 0 ∷ 0 ∷ 0 ∷ 0 ∷ 0 ∷ []) arrays_start ≡ Enter 1 0 1 0 ∷ Alloc 4 0 2 6 40 2 ∷ Alloc 4 0 3 5 32 1 ∷ Update 4 0 2 0 0 3 ∷ Alloc 4 0 4 5 32 1 ∷ Update 4 0 2 1 0 4 ∷ Exit 6 0 1 ∷ []
unfolding int_wrap event row_of form_of instruction_at after_name after_dimensions types_of turn_by after_picks records_by
arrays_records = refl

-- a call with a long and an int that returns a long, and a field that keeps one
abbrev longs : Linked
longs =
    program_of
    (base_classes 5 ++ class_below [] (codes "G") 33 4 1 None [] None ∷ strings_class 5 ∷ [])
    (object_methods
    ++ main_of 4 (code_of 6 4 (187 ∷ 0 ∷ 2 ∷ 58 ∷ 1 ∷ 25 ∷ 1 ∷ 10 ∷ 5 ∷ 182 ∷ 0 ∷ 8 ∷ 55 ∷ 2 ∷ 25 ∷ 1 ∷ 22 ∷ 2 ∷ 181 ∷ 0 ∷ 12 ∷ 25 ∷ 1 ∷ 180 ∷ 0 ∷ 12 ∷ 136 ∷ 6 ∷ 159 ∷ 0 ∷ 7 ∷ 187 ∷ 0 ∷ 2 ∷ 87 ∷ 177 ∷ []) ([]))
    ∷ method_of 4 (codes "m") (codes "(JI)J") 1 (code_of 4 4 (22 ∷ 1 ∷ 21 ∷ 3 ∷ 133 ∷ 97 ∷ 173 ∷ []) ([]))
    ∷ [])
    (field_of 4 (codes "a") (codes "J") 0 0 0 ∷ []) [] (1 ∷ 2 ∷ []) 1
    (no_pools 4 ++ pool_of (Text (codes "G") ∷ Name CLASS 1 ∷ Text (codes "java/lang/Object") ∷ Name CLASS 3 ∷ Text (codes "m") ∷ Text (codes "(JI)J") ∷ Pair NAME_AND_TYPE 5 6 ∷ Pair METHODREF 2 7 ∷ Text (codes "a") ∷ Text (codes "J") ∷ Pair NAME_AND_TYPE 9 10 ∷ Pair FIELDREF 2 11 ∷ []) ∷ [])

abbrev longs_start : Kept
longs_start = begun_with 5 (Done ∷ Done ∷ Done ∷ Done ∷ Untouched ∷ Done ∷ []) 0

longs_records : records_by longs (0 ∷ 0 ∷ 0 ∷ 0 ∷ 0 ∷ 0 ∷ 0 ∷ 0 ∷ 0 ∷ 0 ∷ 0 ∷ 0 ∷ 0 ∷ 0 ∷ 0 ∷ 0 ∷ 0 ∷ 0 ∷ 0 ∷ 0 ∷ 0 ∷ 0 ∷ 0 ∷ []) longs_start ≡ Enter 1 0 1 0 ∷ Alloc 2 0 2 4 24 0 ∷ Enter 7 0 2 2 ∷ Exit 12 0 2 ∷ Exit 22 0 1 ∷ []
unfolding int_wrap event row_of form_of instruction_at after_name after_dimensions types_of turn_by after_picks records_by
longs_records = refl

-- a class without <clinit> and one above it get their constants, a string each and a byte of 8 bits, at their first use
abbrev quiet : Linked
quiet =
    program_of
    (base_classes 7
    ++ class_below [] (codes "Q") 33 4 0 None [] None
    ∷ class_below (6 ∷ []) (codes "K") 33 5 0 None (0 ∷ 1 ∷ 2 ∷ []) None
    ∷ class_below [] (codes "P") 33 6 0 None (3 ∷ []) None
    ∷ strings_class 7
    ∷ [])
    (object_methods ++ main_of 4 (code_of 4 1 (178 ∷ 0 ∷ 10 ∷ 87 ∷ 18 ∷ 12 ∷ 87 ∷ 178 ∷ 0 ∷ 16 ∷ 87 ∷ 177 ∷ []) ([])) ∷ [])
    (field_of 5 (codes "s") (codes "Ljava/lang/String;") 9 0 6 ∷ field_of 5 (codes "b") (codes "B") 9 1 7 ∷ field_of 5 (codes "j") (codes "J") 9 2 8 ∷ field_of 6 (codes "t") (codes "Ljava/lang/String;") 9 3 6 ∷ []) (0 ∷ 1 ∷ 2 ∷ 3 ∷ []) (1 ∷ []) 1
    (no_pools 4 ++ pool_of (Text (codes "Q") ∷ Name CLASS 1 ∷ Text (codes "java/lang/Object") ∷ Name CLASS 3 ∷ Text (codes "K") ∷ Name CLASS 5 ∷ Text (codes "s") ∷ Text (codes "Ljava/lang/String;") ∷ Pair NAME_AND_TYPE 7 8 ∷ Pair FIELDREF 6 9 ∷ Text (codes "hi") ∷ Name STRING 11 ∷ Text (codes "b") ∷ Text (codes "B") ∷ Pair NAME_AND_TYPE 13 14 ∷ Pair FIELDREF 6 15 ∷ []) ∷ pool_of (Text (codes "K") ∷ Name CLASS 1 ∷ Text (codes "P") ∷ Name CLASS 3 ∷ Text (codes "hi") ∷ Name STRING 5 ∷ Word INTEGER 200 ∷ Wide LONG 7 ∷ []) ∷ pool_of (Text (codes "P") ∷ Name CLASS 1 ∷ Text (codes "java/lang/Object") ∷ Name CLASS 3 ∷ Text (codes "lo") ∷ Name STRING 5 ∷ []) ∷ [])

abbrev quiet_start : Kept
quiet_start = begun_with 7 (Done ∷ Done ∷ Done ∷ Done ∷ Untouched ∷ Untouched ∷ Untouched ∷ Done ∷ []) 4

quiet_records : records_by quiet (0 ∷ 0 ∷ 0 ∷ 0 ∷ 0 ∷ 0 ∷ 0 ∷ 0 ∷ 0 ∷ []) quiet_start ≡ Enter 1 0 1 0 ∷ Alloc 2 0 2 3 16 0 ∷ Update 2 0 0 3 0 2 ∷ Alloc 2 0 3 3 16 0 ∷ Update 2 0 0 0 0 3 ∷ Exit 8 0 1 ∷ []
unfolding int_wrap event row_of form_of instruction_at after_name after_dimensions types_of turn_by after_picks records_by
quiet_records = refl
