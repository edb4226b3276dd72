-- The table of events at small programs that throw: the records of their runs, computed by the definitions.
use Rattle.std.proofs.Common.{◌≡◌, [], ◌∷◌, ◌++◌, None, Some, refl}
use Rattle.std.specs.Prelude.{codes}
use Rattle.std.specs.Int.{int_wrap}
use Rattle.et_class.specs.Entries.{Text, Word, Name, Pair}
use Rattle.et_class.specs.PoolTags.TheConstants.{CLASS, INTEGER, FIELDREF, INTERFACE_METHODREF, NAME_AND_TYPE}
use Rattle.et_program.specs.Entries.{Linked}
use Rattle.et_program.specs.declared.info.Element.TheVariants as element
use Rattle.et_program.specs.declared.kind.Leaf.TheVariants as leaf
use Rattle.et_state.specs.declared.class_state.ClassState.TheVariants.{Untouched, Done}
use Rattle.et_state.specs.State.{Kept}
use Rattle.et_state.specs.Threads.{unended_of}
use Rattle.et_state.specs.declared.records.Record.TheVariants.{Alloc, Update, Enter, Exit, Unwind}
use Rattle.et_code.specs.Forms.{form_of}
use Rattle.et_code.specs.Decoding.{instruction_at}
use Rattle.et_class.specs.Descriptors.{after_name, after_dimensions, types_of}
use Rattle.et_event.specs.Table.{row_of}
use Rattle.et_event.specs.Event.{event}
use Rattle.et_event.proofs.ExamplePrograms.{array_class, base_classes, class_below, class_of, code_of, failing_classes, field_of, interface_class, main_of, method_of, no_pools, object_methods, pool_of, program_of, runtime_classes, strings_class, thrown_class, thrown_methods, after_picks, begun_with, records_by, turn_by}

-- an element of another class, an index out of bounds, a negative length and a failing cast, each thrown and caught
abbrev checks : Linked
checks =
    program_of
    (runtime_classes 15
    ++ thrown_class (codes "java/lang/IndexOutOfBoundsException") 7 (6 ∷ 5 ∷ 4 ∷ [])
    ∷ thrown_class (codes "java/lang/ArrayIndexOutOfBoundsException") 8 (7 ∷ 6 ∷ 5 ∷ 4 ∷ [])
    ∷ thrown_class (codes "java/lang/NegativeArraySizeException") 9 (6 ∷ 5 ∷ 4 ∷ [])
    ∷ thrown_class (codes "java/lang/ArrayStoreException") 10 (6 ∷ 5 ∷ 4 ∷ [])
    ∷ thrown_class (codes "java/lang/ClassCastException") 11 (6 ∷ 5 ∷ 4 ∷ [])
    ∷ class_below [] (codes "K") 33 12 0 None [] (Some 14)
    ∷ array_class (codes "[I") 13 (element.Base 10) 1 (leaf.Base 10) None
    ∷ array_class (codes "[LK;") 14 (element.Class 12) 1 (leaf.Class 12) None
    ∷ strings_class 15
    ∷ [])
    (thrown_methods (5 ∷ 6 ∷ 7 ∷ 8 ∷ 9 ∷ 10 ∷ 11 ∷ [])
    ++ main_of 12 (code_of 4 2 (4 ∷ 189 ∷ 0 ∷ 2 ∷ 58 ∷ 1 ∷ 25 ∷ 1 ∷ 3 ∷ 187 ∷ 0 ∷ 4 ∷ 83 ∷ 25 ∷ 1 ∷ 4 ∷ 50 ∷ 87 ∷ 2 ∷ 188 ∷ 10 ∷ 87 ∷ 187 ∷ 0 ∷ 4 ∷ 192 ∷ 0 ∷ 2 ∷ 177 ∷ 87 ∷ 167 ∷ 255 ∷ 239 ∷ 87 ∷ 167 ∷ 255 ∷ 240 ∷ 87 ∷ 167 ∷ 255 ∷ 240 ∷ 87 ∷ 177 ∷ []) (record { start = 6; end = 13; handler = 29; catch = 6 } ∷ record { start = 13; end = 17; handler = 33; catch = 8 } ∷ record { start = 18; end = 21; handler = 37; catch = 10 } ∷ record { start = 22; end = 28; handler = 41; catch = 12 } ∷ []))
    ∷ [])
    [] [] (28 ∷ []) 28
    (no_pools 12 ++ pool_of (Text (codes "K") ∷ Name CLASS 1 ∷ Text (codes "java/lang/Object") ∷ Name CLASS 3 ∷ Text (codes "java/lang/ArrayStoreException") ∷ Name CLASS 5 ∷ Text (codes "java/lang/ArrayIndexOutOfBoundsException") ∷ Name CLASS 7 ∷ Text (codes "java/lang/NegativeArraySizeException") ∷ Name CLASS 9 ∷ Text (codes "java/lang/ClassCastException") ∷ Name CLASS 11 ∷ []) ∷ [])

abbrev checks_start : Kept
checks_start = begun_with 15 (Done ∷ Done ∷ Done ∷ Done ∷ Done ∷ Done ∷ Done ∷ Done ∷ Done ∷ Done ∷ Done ∷ Done ∷ Untouched ∷ Done ∷ Done ∷ Done ∷ []) 0

checks_records : records_by checks (0 ∷ 0 ∷ 0 ∷ 0 ∷ 0 ∷ 0 ∷ 0 ∷ 0 ∷ 0 ∷ 0 ∷ 0 ∷ 0 ∷ 0 ∷ 0 ∷ 0 ∷ 0 ∷ 0 ∷ 0 ∷ 0 ∷ 0 ∷ 0 ∷ 0 ∷ 0 ∷ 0 ∷ 0 ∷ 0 ∷ 0 ∷ 0 ∷ []) checks_start ≡ Enter 1 0 28 0 ∷ Alloc 3 0 2 14 32 1 ∷ Alloc 7 0 3 0 16 0 ∷ Alloc 8 0 4 10 32 0 ∷ Alloc 14 0 5 8 32 0 ∷ Alloc 19 0 6 9 32 0 ∷ Alloc 23 0 7 0 16 0 ∷ Alloc 24 0 8 11 32 0 ∷ Exit 27 0 28 ∷ []
unfolding int_wrap event row_of form_of instruction_at after_name after_dimensions types_of turn_by after_picks records_by
checks_records = refl

-- a default method and an abstract one, called by an interface
abbrev faces : Linked
faces =
    program_of
    (base_classes 11
    ++ thrown_class (codes "java/lang/Throwable") 4 []
    ∷ thrown_class (codes "java/lang/Error") 5 (4 ∷ [])
    ∷ thrown_class (codes "java/lang/LinkageError") 6 (5 ∷ 4 ∷ [])
    ∷ thrown_class (codes "java/lang/IncompatibleClassChangeError") 7 (6 ∷ 5 ∷ 4 ∷ [])
    ∷ thrown_class (codes "java/lang/AbstractMethodError") 8 (7 ∷ 6 ∷ 5 ∷ 4 ∷ [])
    ∷ class_of (codes "M") 33 (element.NoArray) 0 None (0 ∷ 10 ∷ []) ([]) (0 ∷ []) (10 ∷ []) (9 ∷ 10 ∷ 0 ∷ []) (0 ∷ 10 ∷ 9 ∷ []) 0 (leaf.Class 9) None
    ∷ interface_class (codes "I") 10
    ∷ strings_class 11
    ∷ [])
    (thrown_methods (5 ∷ 6 ∷ 7 ∷ 8 ∷ [])
    ++ main_of 9 (code_of 4 2 (187 ∷ 0 ∷ 2 ∷ 58 ∷ 1 ∷ 25 ∷ 1 ∷ 185 ∷ 0 ∷ 10 ∷ 1 ∷ 0 ∷ 87 ∷ 25 ∷ 1 ∷ 185 ∷ 0 ∷ 14 ∷ 1 ∷ 0 ∷ 177 ∷ 87 ∷ 177 ∷ []) (record { start = 13; end = 20; handler = 21; catch = 0 } ∷ []))
    ∷ method_of 10 (codes "d") (codes "()I") 1 (code_of 1 1 (6 ∷ 172 ∷ []) ([]))
    ∷ method_of 10 (codes "n") (codes "()V") 1025 None
    ∷ [])
    [] [] (19 ∷ 20 ∷ 21 ∷ []) 19
    (no_pools 9 ++ pool_of (Text (codes "M") ∷ Name CLASS 1 ∷ Text (codes "java/lang/Object") ∷ Name CLASS 3 ∷ Text (codes "I") ∷ Name CLASS 5 ∷ Text (codes "d") ∷ Text (codes "()I") ∷ Pair NAME_AND_TYPE 7 8 ∷ Pair INTERFACE_METHODREF 6 9 ∷ Text (codes "n") ∷ Text (codes "()V") ∷ Pair NAME_AND_TYPE 11 12 ∷ Pair INTERFACE_METHODREF 6 13 ∷ []) ∷ pool_of (Text (codes "I") ∷ Name CLASS 1 ∷ Text (codes "java/lang/Object") ∷ Name CLASS 3 ∷ []) ∷ [])

abbrev faces_start : Kept
faces_start = begun_with 11 (Done ∷ Done ∷ Done ∷ Done ∷ Done ∷ Done ∷ Done ∷ Done ∷ Done ∷ Untouched ∷ Untouched ∷ Done ∷ []) 0

faces_records : records_by faces (0 ∷ 0 ∷ 0 ∷ 0 ∷ 0 ∷ 0 ∷ 0 ∷ 0 ∷ 0 ∷ 0 ∷ 0 ∷ 0 ∷ 0 ∷ 0 ∷ []) faces_start ≡ Enter 1 0 19 0 ∷ Alloc 2 0 2 9 16 0 ∷ Enter 5 0 20 2 ∷ Exit 7 0 20 ∷ Alloc 10 0 3 8 32 0 ∷ Exit 13 0 19 ∷ []
unfolding int_wrap event row_of form_of instruction_at after_name after_dimensions types_of turn_by after_picks records_by
faces_records = refl

-- the initializer of the first class throws: `main` is never entered, and the thread ends
abbrev never : Linked
never =
    program_of
    (failing_classes 12
    ++ thrown_class (codes "java/lang/ExceptionInInitializerError") 10 (9 ∷ 6 ∷ 4 ∷ [])
    ∷ class_below [] (codes "N") 33 11 0 (Some 26) [] None
    ∷ strings_class 12
    ∷ [])
    (thrown_methods (5 ∷ 6 ∷ 7 ∷ 8 ∷ 9 ∷ 10 ∷ [])
    ++ main_of 11 (code_of 1 1 (177 ∷ []) ([]))
    ∷ method_of 11 (codes "<clinit>") (codes "()V") 8 (code_of 2 0 (4 ∷ 3 ∷ 108 ∷ 87 ∷ 177 ∷ []) ([]))
    ∷ [])
    [] [] (25 ∷ 26 ∷ []) 25
    (no_pools 11 ++ pool_of (Text (codes "N") ∷ Name CLASS 1 ∷ Text (codes "java/lang/Object") ∷ Name CLASS 3 ∷ []) ∷ [])

abbrev never_start : Kept
never_start = begun_with 12 (Done ∷ Done ∷ Done ∷ Done ∷ Done ∷ Done ∷ Done ∷ Done ∷ Done ∷ Done ∷ Done ∷ Untouched ∷ Done ∷ []) 0

never_records : records_by never (0 ∷ 0 ∷ 0 ∷ 0 ∷ 0 ∷ 0 ∷ 0 ∷ []) never_start ≡ Enter 2 0 26 0 ∷ Alloc 5 0 2 8 32 0 ∷ Unwind 6 0 26 2 ∷ Alloc 6 0 3 10 32 0 ∷ Update 6 0 3 1 0 2 ∷ []
unfolding int_wrap event row_of form_of instruction_at after_name after_dimensions types_of turn_by after_picks records_by
never_records = refl

never_ended : unended_of (after_picks never (0 ∷ 0 ∷ 0 ∷ 0 ∷ 0 ∷ 0 ∷ 0 ∷ []) never_start).guest.threads ≡ []
unfolding int_wrap event row_of form_of instruction_at after_name after_dimensions types_of turn_by after_picks records_by
never_ended = refl

-- the initializer of a superclass runs before that of its subclass
abbrev above : Linked
above =
    program_of
    (base_classes 7
    ++ class_below [] (codes "B") 33 4 0 None [] None
    ∷ class_below (6 ∷ []) (codes "D") 33 5 0 (Some 2) (0 ∷ []) None
    ∷ class_below [] (codes "P") 33 6 0 (Some 3) [] None
    ∷ strings_class 7
    ∷ [])
    (object_methods
    ++ main_of 4 (code_of 1 1 (178 ∷ 0 ∷ 10 ∷ 87 ∷ 177 ∷ []) ([]))
    ∷ method_of 5 (codes "<clinit>") (codes "()V") 8 (code_of 1 0 (177 ∷ []) ([]))
    ∷ method_of 6 (codes "<clinit>") (codes "()V") 8 (code_of 1 0 (177 ∷ []) ([]))
    ∷ [])
    (field_of 5 (codes "x") (codes "I") 8 0 5 ∷ []) (0 ∷ []) (1 ∷ 2 ∷ 3 ∷ []) 1
    (no_pools 4 ++ pool_of (Text (codes "B") ∷ Name CLASS 1 ∷ Text (codes "java/lang/Object") ∷ Name CLASS 3 ∷ Text (codes "D") ∷ Name CLASS 5 ∷ Text (codes "x") ∷ Text (codes "I") ∷ Pair NAME_AND_TYPE 7 8 ∷ Pair FIELDREF 6 9 ∷ []) ∷ pool_of (Text (codes "D") ∷ Name CLASS 1 ∷ Text (codes "P") ∷ Name CLASS 3 ∷ Word INTEGER 5 ∷ []) ∷ pool_of (Text (codes "P") ∷ Name CLASS 1 ∷ Text (codes "java/lang/Object") ∷ Name CLASS 3 ∷ []) ∷ [])

abbrev above_start : Kept
above_start = begun_with 7 (Done ∷ Done ∷ Done ∷ Done ∷ Untouched ∷ Untouched ∷ Untouched ∷ Done ∷ []) 1

above_records : records_by above (0 ∷ 0 ∷ 0 ∷ 0 ∷ 0 ∷ 0 ∷ 0 ∷ 0 ∷ 0 ∷ 0 ∷ 0 ∷ []) above_start ≡ Enter 1 0 1 0 ∷ Enter 4 0 3 0 ∷ Exit 5 0 3 ∷ Enter 6 0 2 0 ∷ Exit 7 0 2 ∷ Exit 10 0 1 ∷ []
unfolding int_wrap event row_of form_of instruction_at after_name after_dimensions types_of turn_by after_picks records_by
above_records = refl
