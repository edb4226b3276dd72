-- The table of events at small programs with calls: the records of their runs, computed by the definitions.
use Rattle.std.proofs.Common.{◌≡◌, ℕ, ◌==◌, not, List, [], ◌∷◌, ◌++◌, None, Some, refl}
use Rattle.std.specs.Prelude.{codes}
use Rattle.std.specs.Int.{int_wrap}
use Rattle.et_class.specs.Entries.{Text, Name, Pair}
use Rattle.et_class.specs.PoolTags.TheConstants.{CLASS, FIELDREF, METHODREF, INTERFACE_METHODREF, NAME_AND_TYPE}
use Rattle.et_program.specs.BuiltIns.{text_method_in}
use Rattle.et_program.specs.Entries.{Linked}
use Rattle.et_program.specs.declared.info.Element.TheVariants as element
use Rattle.et_program.specs.declared.kind.Leaf.TheVariants as leaf
use Rattle.et_state.specs.declared.class_state.ClassState.TheVariants.{Untouched, Done}
use Rattle.et_state.specs.State.{Kept}
use Rattle.et_state.specs.Past.{flushed_heap}
use Rattle.et_state.specs.declared.records.Record.TheVariants.{Alloc, Update, Enter, Exit, Unwind}
use Rattle.et_state.specs.Outcome.{IllTyped}
use Rattle.et_code.specs.Forms.{form_of}
use Rattle.et_code.specs.Decoding.{instruction_at}
use Rattle.et_class.specs.Descriptors.{after_name, after_dimensions, types_of}
use Rattle.et_event.specs.Table.{row_of}
use Rattle.et_event.specs.Event.{event}
use Rattle.et_event.proofs.ExamplePrograms.{base_classes, class_below, class_of, code_of, failing_classes, field_of, interface_class, main_of, method_of, no_pools, object_class, object_methods, pool_of, program_of, runtime_classes, strings_class, thrown_class, thrown_methods, after_picks, begun_with, records_by, turn_by}

-- an initializer that throws: the class fails, and the next use of it throws too
abbrev failing : Linked
failing =
    program_of
    (failing_classes 14
    ++ thrown_class (codes "java/lang/NoClassDefFoundError") 10 (9 ∷ 6 ∷ 4 ∷ [])
    ∷ thrown_class (codes "java/lang/ExceptionInInitializerError") 11 (9 ∷ 6 ∷ 4 ∷ [])
    ∷ class_below [] (codes "Use") 33 12 0 None [] None
    ∷ class_below [] (codes "Bad") 33 13 0 (Some 29) [] None
    ∷ strings_class 14
    ∷ [])
    (thrown_methods (5 ∷ 6 ∷ 7 ∷ 8 ∷ 9 ∷ 10 ∷ 11 ∷ [])
    ++ main_of 12 (code_of 1 1 (178 ∷ 0 ∷ 10 ∷ 87 ∷ 177 ∷ 87 ∷ 178 ∷ 0 ∷ 10 ∷ 87 ∷ 177 ∷ 87 ∷ 177 ∷ []) (record { start = 0; end = 3; handler = 5; catch = 0 } ∷ record { start = 6; end = 9; handler = 11; catch = 0 } ∷ []))
    ∷ method_of 13 (codes "<clinit>") (codes "()V") 8 (code_of 2 0 (4 ∷ 3 ∷ 108 ∷ 87 ∷ 177 ∷ []) ([]))
    ∷ [])
    (field_of 13 (codes "x") (codes "I") 8 0 0 ∷ []) (0 ∷ []) (28 ∷ 29 ∷ []) 28
    (no_pools 12 ++ pool_of (Text (codes "Use") ∷ Name CLASS 1 ∷ Text (codes "java/lang/Object") ∷ Name CLASS 3 ∷ Text (codes "Bad") ∷ Name CLASS 5 ∷ Text (codes "x") ∷ Text (codes "I") ∷ Pair NAME_AND_TYPE 7 8 ∷ Pair FIELDREF 6 9 ∷ []) ∷ pool_of (Text (codes "Bad") ∷ Name CLASS 1 ∷ Text (codes "java/lang/Object") ∷ Name CLASS 3 ∷ []) ∷ [])

abbrev failing_start : Kept
failing_start = begun_with 14 (Done ∷ Done ∷ Done ∷ Done ∷ Done ∷ Done ∷ Done ∷ Done ∷ Done ∷ Done ∷ Done ∷ Done ∷ Untouched ∷ Untouched ∷ Done ∷ []) 1

failing_records : records_by failing (0 ∷ 0 ∷ 0 ∷ 0 ∷ 0 ∷ 0 ∷ 0 ∷ 0 ∷ 0 ∷ 0 ∷ 0 ∷ 0 ∷ 0 ∷ 0 ∷ []) failing_start ≡ Enter 1 0 28 0 ∷ Enter 3 0 29 0 ∷ Alloc 6 0 2 8 32 0 ∷ Unwind 7 0 29 2 ∷ Alloc 7 0 3 11 32 0 ∷ Update 7 0 3 1 0 2 ∷ Alloc 10 0 4 10 32 0 ∷ Exit 13 0 28 ∷ []
unfolding int_wrap event row_of form_of instruction_at after_name after_dimensions types_of turn_by after_picks records_by
failing_records = refl

-- synchronized methods that an exception leaves
abbrev syn : Linked
syn =
    program_of
    (runtime_classes 9
    ++ thrown_class (codes "java/lang/NullPointerException") 7 (6 ∷ 5 ∷ 4 ∷ [])
    ∷ class_below [] (codes "Syn") 33 8 0 None [] None
    ∷ strings_class 9
    ∷ [])
    (thrown_methods (5 ∷ 6 ∷ 7 ∷ [])
    ++ main_of 8 (code_of 1 1 (184 ∷ 0 ∷ 8 ∷ 177 ∷ 87 ∷ 177 ∷ []) (record { start = 0; end = 3; handler = 4; catch = 0 } ∷ []))
    ∷ method_of 8 (codes "f") (codes "()V") 41 (code_of 1 0 (184 ∷ 0 ∷ 11 ∷ 177 ∷ []) ([]))
    ∷ method_of 8 (codes "g") (codes "()V") 41 (code_of 1 0 (184 ∷ 0 ∷ 14 ∷ 177 ∷ []) ([]))
    ∷ method_of 8 (codes "k") (codes "()V") 41 (code_of 1 0 (1 ∷ 191 ∷ []) ([]))
    ∷ [])
    [] [] (16 ∷ 17 ∷ 18 ∷ 19 ∷ []) 16
    (no_pools 8 ++ pool_of (Text (codes "Syn") ∷ Name CLASS 1 ∷ Text (codes "java/lang/Object") ∷ Name CLASS 3 ∷ Text (codes "f") ∷ Text (codes "()V") ∷ Pair NAME_AND_TYPE 5 6 ∷ Pair METHODREF 2 7 ∷ Text (codes "g") ∷ Pair NAME_AND_TYPE 9 6 ∷ Pair METHODREF 2 10 ∷ Text (codes "k") ∷ Pair NAME_AND_TYPE 12 6 ∷ Pair METHODREF 2 13 ∷ []) ∷ [])

abbrev syn_start : Kept
syn_start = begun_with 9 (Done ∷ Done ∷ Done ∷ Done ∷ Done ∷ Done ∷ Done ∷ Done ∷ Untouched ∷ Done ∷ []) 0

syn_records : records_by syn (0 ∷ 0 ∷ 0 ∷ 0 ∷ 0 ∷ 0 ∷ 0 ∷ 0 ∷ 0 ∷ 0 ∷ 0 ∷ 0 ∷ 0 ∷ []) syn_start ≡ Enter 1 0 16 0 ∷ Enter 2 0 17 0 ∷ Enter 3 0 18 0 ∷ Enter 4 0 19 0 ∷ Alloc 6 0 2 7 32 0 ∷ Unwind 7 0 19 2 ∷ Unwind 8 0 18 2 ∷ Unwind 9 0 17 2 ∷ Exit 12 0 16 ∷ []
unfolding int_wrap event row_of form_of instruction_at after_name after_dimensions types_of turn_by after_picks records_by
syn_records = refl

-- two threads that take turns, and the monitor of a class for which one of them waits
abbrev wrk : Linked
wrk =
    program_of
    (object_class
    ∷ interface_class (codes "java/lang/Runnable") 1
    ∷ interface_class (codes "java/lang/Cloneable") 2
    ∷ interface_class (codes "java/io/Serializable") 3
    ∷ class_below [] (codes "java/lang/String") 17 4 0 None [] (Some 7)
    ∷ class_of (codes "java/lang/Thread") 1 (element.NoArray) 1 None (0 ∷ []) ([]) (0 ∷ []) (1 ∷ []) (5 ∷ 1 ∷ 0 ∷ []) (0 ∷ 5 ∷ []) 0 (leaf.Class 5) None
    ∷ class_of (codes "Wrk") 33 (element.NoArray) 1 None (5 ∷ []) ([]) (5 ∷ 0 ∷ []) (1 ∷ []) (6 ∷ 5 ∷ 1 ∷ 0 ∷ []) (0 ∷ 5 ∷ 6 ∷ []) 0 (leaf.Class 6) None
    ∷ class_of (codes "[Ljava/lang/String;") 1041 (element.Class 4) 0 None ([]) ([]) (0 ∷ []) (2 ∷ 3 ∷ []) (7 ∷ 2 ∷ 3 ∷ 0 ∷ []) (7 ∷ []) 1 (leaf.Class 4) None
    ∷ [])
    (object_methods
    ++ method_of 1 (codes "run") (codes "()V") 1025 None
    ∷ method_of 5 (codes "<init>") (codes "()V") 1 None
    ∷ method_of 5 (codes "<init>") (codes "(Ljava/lang/Runnable;)V") 1 None
    ∷ method_of 5 (codes "start") (codes "()V") 1 None
    ∷ method_of 5 (codes "join") (codes "()V") 1 None
    ∷ method_of 5 (codes "run") (codes "()V") 1 (code_of 1 1 (25 ∷ 0 ∷ 180 ∷ 0 ∷ 6 ∷ 198 ∷ 0 ∷ 13 ∷ 25 ∷ 0 ∷ 180 ∷ 0 ∷ 6 ∷ 185 ∷ 0 ∷ 12 ∷ 1 ∷ 0 ∷ 177 ∷ []) ([]))
    ∷ method_of 6 (codes "<init>") (codes "()V") 1 (code_of 1 1 (25 ∷ 0 ∷ 183 ∷ 0 ∷ 8 ∷ 177 ∷ []) ([]))
    ∷ method_of 6 (codes "run") (codes "()V") 1 (code_of 1 1 (184 ∷ 0 ∷ 11 ∷ 177 ∷ []) ([]))
    ∷ method_of 6 (codes "add") (codes "()V") 41 (code_of 1 0 (187 ∷ 0 ∷ 13 ∷ 179 ∷ 0 ∷ 17 ∷ 177 ∷ []) ([]))
    ∷ main_of 6 (code_of 2 1 (187 ∷ 0 ∷ 2 ∷ 89 ∷ 183 ∷ 0 ∷ 18 ∷ 182 ∷ 0 ∷ 21 ∷ 184 ∷ 0 ∷ 11 ∷ 177 ∷ []) ([]))
    ∷ [])
    (field_of 5 (codes "target") (codes "Ljava/lang/Runnable;") 1 0 0 ∷ field_of 6 (codes "top") (codes "Ljava/lang/Object;") 8 0 0 ∷ []) (1 ∷ []) (7 ∷ 8 ∷ 9 ∷ 10 ∷ []) 10
    (no_pools 5 ++ pool_of (Text (codes "java/lang/Thread") ∷ Name CLASS 1 ∷ Text (codes "target") ∷ Text (codes "Ljava/lang/Runnable;") ∷ Pair NAME_AND_TYPE 3 4 ∷ Pair FIELDREF 2 5 ∷ Text (codes "java/lang/Runnable") ∷ Name CLASS 7 ∷ Text (codes "run") ∷ Text (codes "()V") ∷ Pair NAME_AND_TYPE 9 10 ∷ Pair INTERFACE_METHODREF 8 11 ∷ []) ∷ pool_of (Text (codes "Wrk") ∷ Name CLASS 1 ∷ Text (codes "java/lang/Thread") ∷ Name CLASS 3 ∷ Text (codes "<init>") ∷ Text (codes "()V") ∷ Pair NAME_AND_TYPE 5 6 ∷ Pair METHODREF 4 7 ∷ Text (codes "add") ∷ Pair NAME_AND_TYPE 9 6 ∷ Pair METHODREF 2 10 ∷ Text (codes "java/lang/Object") ∷ Name CLASS 12 ∷ Text (codes "top") ∷ Text (codes "Ljava/lang/Object;") ∷ Pair NAME_AND_TYPE 14 15 ∷ Pair FIELDREF 2 16 ∷ Pair METHODREF 2 7 ∷ Text (codes "start") ∷ Pair NAME_AND_TYPE 19 6 ∷ Pair METHODREF 2 20 ∷ []) ∷ [])

abbrev wrk_start : Kept
wrk_start = begun_with 7 (Done ∷ Done ∷ Done ∷ Done ∷ Done ∷ Done ∷ Untouched ∷ Done ∷ []) 1

wrk_records : records_by wrk (1 ∷ 2 ∷ 3 ∷ 4 ∷ 5 ∷ 6 ∷ 7 ∷ 8 ∷ 9 ∷ 10 ∷ 11 ∷ 12 ∷ 13 ∷ 14 ∷ 15 ∷ 16 ∷ 17 ∷ 18 ∷ 19 ∷ 20 ∷ 21 ∷ 22 ∷ 23 ∷ 24 ∷ []) wrk_start ≡ Enter 1 0 10 0 ∷ Alloc 2 0 2 6 24 0 ∷ Enter 4 0 7 2 ∷ Exit 7 0 7 ∷ Enter 9 1 8 2 ∷ Enter 10 0 9 0 ∷ Alloc 12 0 3 0 16 0 ∷ Update 14 0 0 0 0 3 ∷ Exit 16 0 9 ∷ Enter 17 1 9 0 ∷ Exit 18 0 10 ∷ Alloc 19 1 4 0 16 0 ∷ Update 21 1 0 0 3 4 ∷ Exit 22 1 9 ∷ Exit 23 1 8 ∷ []
unfolding int_wrap event row_of form_of instruction_at after_name after_dimensions types_of turn_by after_picks records_by text_method_in
wrk_records = refl

-- a weak reference whose object is got again
abbrev reviving : Linked
reviving =
    program_of
    (base_classes 7
    ++ class_below [] (codes "java/lang/ref/Reference") 1025 4 0 None [] None
    ∷ class_below (4 ∷ []) (codes "java/lang/ref/WeakReference") 1 5 0 None [] None
    ∷ class_below [] (codes "Rev") 33 6 1 None [] None
    ∷ strings_class 7
    ∷ [])
    (object_methods
    ++ method_of 4 (codes "get") (codes "()Ljava/lang/Object;") 1 None
    ∷ method_of 4 (codes "clear") (codes "()V") 1 None
    ∷ method_of 5 (codes "<init>") (codes "(Ljava/lang/Object;)V") 1 None
    ∷ main_of 6 (code_of 5 1 (187 ∷ 0 ∷ 6 ∷ 89 ∷ 187 ∷ 0 ∷ 2 ∷ 89 ∷ 187 ∷ 0 ∷ 2 ∷ 181 ∷ 0 ∷ 10 ∷ 183 ∷ 0 ∷ 14 ∷ 0 ∷ 0 ∷ 89 ∷ 182 ∷ 0 ∷ 18 ∷ 198 ∷ 0 ∷ 4 ∷ 0 ∷ 87 ∷ 177 ∷ []) ([]))
    ∷ [])
    (field_of 6 (codes "next") (codes "LRev;") 0 0 0 ∷ []) [] (4 ∷ []) 4
    (no_pools 6 ++ pool_of (Text (codes "Rev") ∷ Name CLASS 1 ∷ Text (codes "java/lang/Object") ∷ Name CLASS 3 ∷ Text (codes "java/lang/ref/WeakReference") ∷ Name CLASS 5 ∷ Text (codes "next") ∷ Text (codes "LRev;") ∷ Pair NAME_AND_TYPE 7 8 ∷ Pair FIELDREF 2 9 ∷ Text (codes "<init>") ∷ Text (codes "(Ljava/lang/Object;)V") ∷ Pair NAME_AND_TYPE 11 12 ∷ Pair METHODREF 6 13 ∷ Text (codes "get") ∷ Text (codes "()Ljava/lang/Object;") ∷ Pair NAME_AND_TYPE 15 16 ∷ Pair METHODREF 6 17 ∷ []) ∷ [])

abbrev reviving_start : Kept
reviving_start = begun_with 7 (Done ∷ Done ∷ Done ∷ Done ∷ Done ∷ Done ∷ Untouched ∷ Done ∷ []) 0

reviving_records : records_by reviving (0 ∷ 0 ∷ 0 ∷ 0 ∷ 0 ∷ 0 ∷ 0 ∷ 0 ∷ 0 ∷ 0 ∷ 0 ∷ 0 ∷ 0 ∷ 0 ∷ 0 ∷ 0 ∷ 0 ∷ []) reviving_start ≡ Enter 1 0 4 0 ∷ Alloc 2 0 2 5 16 0 ∷ Alloc 4 0 3 6 24 0 ∷ Alloc 6 0 4 6 24 0 ∷ Update 7 0 3 0 0 4 ∷ Exit 16 0 4 ∷ []
unfolding int_wrap event row_of form_of instruction_at after_name after_dimensions types_of turn_by after_picks records_by text_method_in
reviving_records = refl

-- a monitor is left that the thread does not own
abbrev owner : Linked
owner =
    program_of
    (runtime_classes 9
    ++ thrown_class (codes "java/lang/IllegalMonitorStateException") 7 (6 ∷ 5 ∷ 4 ∷ [])
    ∷ class_below [] (codes "Mon") 33 8 0 None [] None
    ∷ strings_class 9
    ∷ [])
    (thrown_methods (5 ∷ 6 ∷ 7 ∷ []) ++ main_of 8 (code_of 2 1 (187 ∷ 0 ∷ 2 ∷ 195 ∷ 177 ∷ []) ([])) ∷ [])
    [] [] (16 ∷ []) 16
    (no_pools 8 ++ pool_of (Text (codes "Mon") ∷ Name CLASS 1 ∷ Text (codes "java/lang/Object") ∷ Name CLASS 3 ∷ []) ∷ [])

abbrev owner_start : Kept
owner_start = begun_with 9 (Done ∷ Done ∷ Done ∷ Done ∷ Done ∷ Done ∷ Done ∷ Done ∷ Untouched ∷ Done ∷ []) 0

owner_records : records_by owner (0 ∷ 0 ∷ 0 ∷ 0 ∷ 0 ∷ []) owner_start ≡ Enter 1 0 16 0 ∷ Alloc 2 0 2 8 16 0 ∷ Alloc 3 0 3 7 32 0 ∷ Unwind 4 0 16 3 ∷ []
unfolding int_wrap event row_of form_of instruction_at after_name after_dimensions types_of turn_by after_picks records_by
owner_records = refl

-- a program with a reference queue, and a class below WeakReference that declares nothing, whose `main` has this code
abbrev with_queues : List ℕ → Linked
with_queues code =
    program_of
    (base_classes 8
    ++ class_below [] (codes "java/lang/ref/Reference") 1025 4 0 None [] None
    ∷ class_below (4 ∷ []) (codes "java/lang/ref/WeakReference") 1 5 0 None [] None
    ∷ class_below [] (codes "java/lang/ref/ReferenceQueue") 1 6 0 None [] None
    ∷ class_below [] (codes "Que") 33 7 0 None [] None
    ∷ strings_class 8
    ∷ class_below (5 ∷ 4 ∷ []) (codes "Weak") 33 9 0 None [] None
    ∷ [])
    (object_methods
    ++ method_of 4 (codes "get") (codes "()Ljava/lang/Object;") 1 None
    ∷ method_of 4 (codes "clear") (codes "()V") 1 None
    ∷ method_of 5 (codes "<init>") (codes "(Ljava/lang/Object;)V") 1 None
    ∷ method_of 5 (codes "<init>") (codes "(Ljava/lang/Object;Ljava/lang/ref/ReferenceQueue;)V") 1 None
    ∷ method_of 6 (codes "<init>") (codes "()V") 1 None
    ∷ method_of 6 (codes "poll") (codes "()Ljava/lang/ref/Reference;") 1 None
    ∷ main_of 7 (code_of 6 2 code ([]))
    ∷ [])
    (field_of 7 (codes "top") (codes "Ljava/lang/Object;") 8 0 0 ∷ []) (0 ∷ []) (7 ∷ []) 7
    (no_pools 7 ++ pool_of (Text (codes "Que") ∷ Name CLASS 1 ∷ Text (codes "java/lang/Object") ∷ Name CLASS 3 ∷ Text (codes "java/lang/ref/ReferenceQueue") ∷ Name CLASS 5 ∷ Text (codes "<init>") ∷ Text (codes "()V") ∷ Pair NAME_AND_TYPE 7 8 ∷ Pair METHODREF 6 9 ∷ Text (codes "java/lang/ref/WeakReference") ∷ Name CLASS 11 ∷ Text (codes "(Ljava/lang/Object;Ljava/lang/ref/ReferenceQueue;)V") ∷ Pair NAME_AND_TYPE 7 13 ∷ Pair METHODREF 12 14 ∷ Text (codes "poll") ∷ Text (codes "()Ljava/lang/ref/Reference;") ∷ Pair NAME_AND_TYPE 16 17 ∷ Pair METHODREF 6 18 ∷ Text (codes "top") ∷ Text (codes "Ljava/lang/Object;") ∷ Pair NAME_AND_TYPE 20 21 ∷ Pair FIELDREF 2 22 ∷ Text (codes "Weak") ∷ Name CLASS 24 ∷ Pair METHODREF 25 14 ∷ []) ∷ [])

abbrev queues_start : Kept
queues_start = begun_with 8 (Done ∷ Done ∷ Done ∷ Done ∷ Done ∷ Done ∷ Done ∷ Untouched ∷ Done ∷ Done ∷ []) 1

-- the state after a flush at which all but this object is reached
abbrev after_flush_of : ℕ → Kept → Kept
after_flush_of o s = record { heap = flushed_heap (λ k. not (k == o)) s.heap; guest = s.guest }

-- a queue is polled before its reference waits in it, while it waits, and once more
abbrev polling : Linked
polling = with_queues (187 ∷ 0 ∷ 6 ∷ 89 ∷ 183 ∷ 0 ∷ 10 ∷ 76 ∷ 187 ∷ 0 ∷ 12 ∷ 89 ∷ 187 ∷ 0 ∷ 2 ∷ 43 ∷ 183 ∷ 0 ∷ 15 ∷ 43 ∷ 182 ∷ 0 ∷ 19 ∷ 179 ∷ 0 ∷ 23 ∷ 43 ∷ 182 ∷ 0 ∷ 19 ∷ 179 ∷ 0 ∷ 23 ∷ 43 ∷ 182 ∷ 0 ∷ 19 ∷ 179 ∷ 0 ∷ 23 ∷ 177 ∷ [])

abbrev polling_picks : List ℕ
polling_picks = 0 ∷ 0 ∷ 0 ∷ 0 ∷ 0 ∷ 0 ∷ 0 ∷ 0 ∷ 0 ∷ 0 ∷ 0 ∷ 0 ∷ 0 ∷ []

polling_records : records_by polling polling_picks queues_start ≡ Enter 1 0 7 0 ∷ Alloc 2 0 2 6 16 0 ∷ Alloc 6 0 3 5 16 0 ∷ Alloc 8 0 4 7 16 0 ∷ Update 13 0 0 0 0 0 ∷ []
unfolding int_wrap event row_of form_of instruction_at after_name after_dimensions types_of turn_by after_picks records_by text_method_in
polling_records = refl

polled_records : records_by polling (0 ∷ 0 ∷ 0 ∷ 0 ∷ 0 ∷ 0 ∷ 0 ∷ []) (after_flush_of 4 (after_picks polling polling_picks queues_start)) ≡ Update 16 0 0 0 0 3 ∷ Update 19 0 0 0 3 0 ∷ Exit 20 0 7 ∷ []
unfolding int_wrap event row_of form_of instruction_at after_name after_dimensions types_of turn_by after_picks records_by text_method_in
polled_records = refl

-- a constructor whose queue is no queue: its event has no meaning
abbrev no_queue : Linked
no_queue = with_queues (187 ∷ 0 ∷ 12 ∷ 89 ∷ 187 ∷ 0 ∷ 2 ∷ 187 ∷ 0 ∷ 2 ∷ 183 ∷ 0 ∷ 15 ∷ 87 ∷ 177 ∷ [])

no_queue_ends : event no_queue (after_picks no_queue (0 ∷ 0 ∷ 0 ∷ 0 ∷ 0 ∷ []) queues_start) 0 ≡ IllTyped 7 10
unfolding int_wrap event row_of form_of instruction_at after_name after_dimensions types_of turn_by after_picks records_by text_method_in
no_queue_ends = refl

-- .. also where the constructor is that of WeakReference, and the class that is named lacks it: nothing is selected before
abbrev no_queue_below : Linked
no_queue_below = with_queues (187 ∷ 0 ∷ 25 ∷ 1 ∷ 187 ∷ 0 ∷ 2 ∷ 183 ∷ 0 ∷ 26 ∷ 177 ∷ [])

no_queue_below_ends : event no_queue_below (after_picks no_queue_below (0 ∷ 0 ∷ 0 ∷ 0 ∷ []) queues_start) 0 ≡ IllTyped 7 7
unfolding int_wrap event row_of form_of instruction_at after_name after_dimensions types_of turn_by after_picks records_by text_method_in
no_queue_below_ends = refl
