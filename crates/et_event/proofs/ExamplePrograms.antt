-- WHAT THE EXAMPLES SHARE: the classes and methods with which a program begins, and the runs of its events.
use Rattle.std.proofs.Common.{ℕ, false, List, [], ◌∷◌, ◌++◌, Option, None, Some, get_or, length, replicate, reverse, ◌%◌}
use Rattle.std.specs.Prelude.{codes}
use Rattle.std.specs.List.{flat_map}
use Rattle.et_class.specs.Entries.{Item, Constants, slots_of}
use Rattle.et_code.specs.Bodies.{Body}
use Rattle.et_code.specs.declared.body.TableRow.{TableRow}
use Rattle.et_program.specs.Entries.{Linked, ClassEntry}
use Rattle.et_program.specs.declared.info.MethodInfo.{MethodInfo}
use Rattle.et_program.specs.declared.info.FieldInfo.{FieldInfo}
use Rattle.et_program.specs.declared.info.Element.{Element}
use Rattle.et_program.specs.declared.kind.Leaf.{Leaf}
use Rattle.et_program.specs.declared.info.Element.TheVariants as element
use Rattle.et_program.specs.declared.kind.Leaf.TheVariants as leaf
use Rattle.et_base.specs.declared.value.Value.TheVariants.{Unset}
use Rattle.et_state.specs.declared.class_state.ClassState.{ClassState}
use Rattle.et_state.specs.State.{Kept, kept_of}
use Rattle.et_state.specs.Words.{first_state}
use Rattle.et_state.specs.Threads.{unended_of}
use Rattle.et_state.specs.declared.records.Record.{Record}
use Rattle.et_state.specs.Outcome.{state_after, records_of}
use Rattle.et_event.specs.Event.{event}

-- CLASSES

abbrev pub class_of : List ℕ → ℕ → Element → ℕ → Option ℕ → List ℕ → List ℕ → List ℕ → List ℕ → List ℕ → List ℕ → ℕ → Leaf → Option ℕ → ClassEntry
class_of name flags element slots clinit prerequisites constants supers superinterfaces field_order init_order dimensions leaf array = record {
  info = record { name = name; flags = flags; element = element; slots = slots; clinit = clinit; prerequisites = prerequisites; constants = constants };
  supers = supers;
  superinterfaces = superinterfaces;
  field_order = field_order;
  init_order = init_order;
  kind = record { dimensions = dimensions; leaf = leaf };
  array = array;
}

-- the class of number k, without interfaces, below these ones and Object
abbrev pub class_below : List ℕ → List ℕ → ℕ → ℕ → ℕ → Option ℕ → List ℕ → Option ℕ → ClassEntry
class_below above name flags k slots clinit constants array =
    class_of name flags (element.NoArray) slots clinit (get_or above 0 0 ∷ []) constants (above ++ 0 ∷ []) [] (k ∷ above ++ 0 ∷ []) (0 ∷ reverse above ++ k ∷ []) 0 (leaf.Class k) array

-- .. of exceptions, where Serializable is class 2
abbrev pub thrown_class : List ℕ → ℕ → List ℕ → ClassEntry
thrown_class name k above =
    class_of name 1 (element.NoArray) 2 None (get_or above 0 0 ∷ []) [] (above ++ 0 ∷ []) (2 ∷ []) (k ∷ above ++ 2 ∷ 0 ∷ []) (0 ∷ reverse above ++ k ∷ []) 0 (leaf.Class k) None

abbrev pub interface_class : List ℕ → ℕ → ClassEntry
interface_class name k = class_of name 1537 (element.NoArray) 0 None [] [] (0 ∷ []) [] (k ∷ 0 ∷ []) (k ∷ []) 0 (leaf.Class k) None

abbrev pub array_class : List ℕ → ℕ → Element → ℕ → Leaf → Option ℕ → ClassEntry
array_class name k element dimensions leaf array = class_of name 1041 element 0 None [] [] (0 ∷ []) (1 ∷ 2 ∷ []) (k ∷ 1 ∷ 2 ∷ 0 ∷ []) (k ∷ []) dimensions leaf array

abbrev pub object_class : ClassEntry
object_class = class_of (codes "java/lang/Object") 1 (element.NoArray) 0 None [] [] [] [] (0 ∷ []) (0 ∷ []) 0 (leaf.Class 0) None

-- the first four, with the number of the class of arrays of String
abbrev pub base_classes : ℕ → List ClassEntry
base_classes strings =
    object_class ∷ interface_class (codes "java/lang/Cloneable") 1 ∷ interface_class (codes "java/io/Serializable") 2
    ∷ class_below [] (codes "java/lang/String") 17 3 0 None [] (Some strings)
    ∷ []

-- .. and those of what is thrown
abbrev thrown_classes : ℕ → List ClassEntry
thrown_classes strings =
    base_classes strings ++ thrown_class (codes "java/lang/Throwable") 4 [] ∷ thrown_class (codes "java/lang/Exception") 5 (4 ∷ []) ∷ []

-- .. and that of exceptions that need not be declared
abbrev pub runtime_classes : ℕ → List ClassEntry
runtime_classes strings = thrown_classes strings ++ thrown_class (codes "java/lang/RuntimeException") 6 (5 ∷ 4 ∷ []) ∷ []

-- .. or those of an initializer that fails
abbrev pub failing_classes : ℕ → List ClassEntry
failing_classes strings =
    thrown_classes strings
    ++ thrown_class (codes "java/lang/Error") 6 (4 ∷ [])
    ∷ thrown_class (codes "java/lang/RuntimeException") 7 (5 ∷ 4 ∷ [])
    ∷ thrown_class (codes "java/lang/ArithmeticException") 8 (7 ∷ 5 ∷ 4 ∷ [])
    ∷ thrown_class (codes "java/lang/LinkageError") 9 (6 ∷ 4 ∷ [])
    ∷ []

-- the class of arrays of String
abbrev pub strings_class : ℕ → ClassEntry
strings_class k = array_class (codes "[Ljava/lang/String;") k (element.Class 3) 1 (leaf.Class 3) None

-- METHODS, FIELDS AND POOLS

abbrev pub method_of : ℕ → List ℕ → List ℕ → ℕ → Option Body → MethodInfo
method_of class name descriptor flags code = record { class = class; name = name; descriptor = descriptor; flags = flags; code = code; deferred = false }

abbrev pub object_methods : List MethodInfo
object_methods = method_of 0 (codes "<init>") (codes "()V") 1 None ∷ []

abbrev pub main_of : ℕ → Option Body → MethodInfo
main_of class code = method_of class (codes "main") (codes "([Ljava/lang/String;)V") 9 code

-- the constructors of a class of exceptions
abbrev constructors : ℕ → List MethodInfo
constructors k =
    method_of k (codes "<init>") (codes "()V") 1 None
    ∷ method_of k (codes "<init>") (codes "(Ljava/lang/String;)V") 1 None
    ∷ method_of k (codes "<init>") (codes "(Ljava/lang/String;Ljava/lang/Throwable;)V") 1 None
    ∷ []

-- those of Object, of Throwable, which is class 4, and of these classes of exceptions
abbrev pub thrown_methods : List ℕ → List MethodInfo
thrown_methods classes =
    object_methods ++ constructors 4
    ++ method_of 4 (codes "getMessage") (codes "()Ljava/lang/String;") 1 None
    ∷ method_of 4 (codes "getCause") (codes "()Ljava/lang/Throwable;") 1 None
    ∷ method_of 4 (codes "addSuppressed") (codes "(Ljava/lang/Throwable;)V") 1 None
    ∷ flat_map constructors classes

abbrev pub code_of : ℕ → ℕ → List ℕ → List TableRow → Option Body
code_of stack locals code table = Some (record { max_stack = stack; max_locals = locals; code = code; table = table })

abbrev pub field_of : ℕ → List ℕ → List ℕ → ℕ → ℕ → ℕ → FieldInfo
field_of class name descriptor flags slot constant = record { class = class; name = name; descriptor = descriptor; flags = flags; slot = slot; constant = constant }

abbrev pub pool_of : List Item → Constants
pool_of items = record { at = 0; slots = slots_of items }

abbrev pub no_pools : ℕ → List Constants
no_pools n = replicate n (pool_of [])

-- classes, methods, fields, static fields, methods of files, `main`, and pools
abbrev pub program_of : List ClassEntry → List MethodInfo → List FieldInfo → List ℕ → List ℕ → ℕ → List Constants → Linked
program_of classes methods fields statics file_methods main pools =
    record { classes = classes; methods = methods; fields = fields; statics = statics; file_methods = file_methods; main = main; pools = pools }

-- RUNS

-- the state in which a program begins whose classes stand so, with so many static slots
abbrev pub begun_with : ℕ → List ClassState → ℕ → Kept
begun_with strings states statics = kept_of (first_state strings states (replicate statics Unset))

-- of the threads that have not ended, the one that a pick chooses
unfoldable pub turn_by : ℕ → Kept → ℕ
turn_by pick s = let u = unended_of s.guest.threads in get_or u (pick % length u) 0

-- the state after the events of these picks, and their records
unfoldable pub after_picks : Linked → List ℕ → Kept → Kept
after_picks p [] s = s
after_picks p (k ∷ ks) s = after_picks p ks (state_after s (event p s (turn_by k s)))

unfoldable pub records_by : Linked → List ℕ → Kept → List Record
records_by p [] s = []
records_by p (k ∷ ks) s = let o = event p s (turn_by k s) in records_of o ++ records_by p ks (state_after s o)
