-- THE BUILT-IN CLASSES: what each declares. No class file gives them; the machine runs their methods itself, but for
-- those with code here. A class is added by a line of `first_classes` or of `throwables`.
use Rattle.std.specs.Prelude.{ℕ, Bool, true, false, List, [], ◌∷◌, ◌++◌, Option, None, Some, codes}
use Rattle.et_pool.specs.Entries.{Item, Text, Name, Pair}
use Rattle.et_pool.specs.Spelling.{pool_bytes}
use Rattle.et_pool.specs.declared.tags.TheConstants.{CLASS, FIELDREF, INTERFACE_METHODREF, NAME_AND_TYPE}

-- a field: its flags are those of a class file (JVMS table 4.5-A)
pub record BootFieldOf : Type 0 where
  pub name : List ℕ
  pub descriptor : List ℕ
  pub flags : ℕ

-- the code of a method (JVMS 4.7.3), without handlers
pub record BootCodeOf : Type 0 where
  pub max_stack : ℕ
  pub max_locals : ℕ
  pub code : List ℕ

-- a method: its flags are those of a class file (JVMS table 4.6-A); a deferred one has no code and is a part of the
-- machine that is made for threads, weak references and their queues, or for texts
pub record BootMethodOf : Type 0 where
  pub name : List ℕ
  pub descriptor : List ℕ
  pub flags : ℕ
  pub code : Option BootCodeOf
  pub deferred : Bool

-- a class: its flags (JVMS table 4.1-A), the bytes of a pool (4.4) with the entries that its code names, how many
-- instance slots it declares itself, and its members; its instance fields have the first of those slots, in order
pub record BootClassOf : Type 0 where
  pub name : List ℕ
  pub super_name : Option (List ℕ)
  pub flags : ℕ
  pub interfaces : List (List ℕ)
  pub pool : List ℕ
  pub slots : ℕ
  pub fields : List BootFieldOf
  pub methods : List BootMethodOf

-- FLAGS

abbrev pub public : ℕ
public = 0x0001

abbrev pub public_static : ℕ
public_static = 0x0009

abbrev pub public_final : ℕ
public_final = 0x0011

abbrev pub public_abstract : ℕ
public_abstract = 0x0401

abbrev pub public_interface : ℕ
public_interface = 0x0601

-- MEMBERS

-- a public method that the machine runs itself
abbrev pub built_in : List ℕ → List ℕ → BootMethodOf
built_in name descriptor = record { name = name; descriptor = descriptor; flags = public; code = None; deferred = false }

-- a public method of threads, of weak references or of their queues, or of texts, that the machine runs itself
abbrev pub deferred : List ℕ → List ℕ → BootMethodOf
deferred name descriptor = record { name = name; descriptor = descriptor; flags = public; code = None; deferred = true }

-- a public method that a class below has to declare
abbrev pub without_body : List ℕ → List ℕ → BootMethodOf
without_body name descriptor = record { name = name; descriptor = descriptor; flags = public_abstract; code = None; deferred = false }

-- a public method with code
abbrev pub coded : List ℕ → List ℕ → BootCodeOf → BootMethodOf
coded name descriptor code = record { name = name; descriptor = descriptor; flags = public; code = Some code; deferred = false }

-- KINDS OF CLASSES

-- a class with no interfaces, no entries in its pool, no slots and no fields
abbrev pub simple_class : List ℕ → Option (List ℕ) → ℕ → List BootMethodOf → BootClassOf
simple_class name super_name flags methods = record { name = name; super_name = super_name; flags = flags; interfaces = []; pool = pool_bytes []; slots = 0; fields = []; methods = methods }

-- one right below Object
abbrev pub plain_class : List ℕ → ℕ → List BootMethodOf → BootClassOf
plain_class name flags methods = simple_class name (Some (codes "java/lang/Object")) flags methods

-- an interface with these methods
abbrev pub interface : List ℕ → List BootMethodOf → BootClassOf
interface name methods = plain_class name public_interface methods

-- the constructors that Throwable and each built-in class below it declare
abbrev pub throwable_constructors : List BootMethodOf
throwable_constructors =
    built_in (codes "<init>") (codes "()V")
    ∷ built_in (codes "<init>") (codes "(Ljava/lang/String;)V")
    ∷ built_in (codes "<init>") (codes "(Ljava/lang/String;Ljava/lang/Throwable;)V")
    ∷ []

-- a class below Throwable
abbrev pub throwable : List ℕ → List ℕ → BootClassOf
throwable name above = simple_class name (Some above) public throwable_constructors

-- THE OTHERS, EACH BY ITSELF

abbrev pub object_class_file : BootClassOf
object_class_file = simple_class (codes "java/lang/Object") None public (built_in (codes "<init>") (codes "()V") ∷ [])

-- slot 0 is the message and slot 1 the cause; neither is a field that a name resolves to
abbrev pub throwable_class : BootClassOf
throwable_class = record {
  name = codes "java/lang/Throwable";
  super_name = Some (codes "java/lang/Object");
  flags = public;
  interfaces = codes "java/io/Serializable" ∷ [];
  pool = pool_bytes [];
  slots = 2;
  fields = [];
  methods = throwable_constructors ++
      (built_in (codes "getMessage") (codes "()Ljava/lang/String;")
      ∷ built_in (codes "getCause") (codes "()Ljava/lang/Throwable;")
      ∷ built_in (codes "addSuppressed") (codes "(Ljava/lang/Throwable;)V")
      ∷ []);
}

-- entry 6 is the field target, 12 the method run of Runnable
abbrev pub thread_pool : List Item
thread_pool =
    Text (codes "java/lang/Thread")
    ∷ Name CLASS 1
    ∷ Text (codes "target")
    ∷ Text (codes "Ljava/lang/Runnable;")
    ∷ Pair NAME_AND_TYPE 3 4
    ∷ Pair FIELDREF 2 5
    ∷ Text (codes "java/lang/Runnable")
    ∷ Name CLASS 7
    ∷ Text (codes "run")
    ∷ Text (codes "()V")
    ∷ Pair NAME_AND_TYPE 9 10
    ∷ Pair INTERFACE_METHODREF 8 11
    ∷ []

-- where the target isn't null, its run
abbrev pub thread_run : BootCodeOf
thread_run = record {
  max_stack = 1;
  max_locals = 1;
  code =
      0x2A  -- 0 aload_0
      ∷ 0xB4 ∷ 0x00 ∷ 0x06  -- 1 getfield target
      ∷ 0xC6 ∷ 0x00 ∷ 0x0C  -- 4 ifnull 16
      ∷ 0x2A  -- 7 aload_0
      ∷ 0xB4 ∷ 0x00 ∷ 0x06  -- 8 getfield target
      ∷ 0xB9 ∷ 0x00 ∷ 0x0C ∷ 0x01 ∷ 0x00  -- 11 invokeinterface run
      ∷ 0xB1  -- 16 return
      ∷ [];
}

abbrev pub thread : BootClassOf
thread = record {
  name = codes "java/lang/Thread";
  super_name = Some (codes "java/lang/Object");
  flags = public;
  interfaces = codes "java/lang/Runnable" ∷ [];
  pool = pool_bytes thread_pool;
  slots = 1;
  fields = record { name = codes "target"; descriptor = codes "Ljava/lang/Runnable;"; flags = public } ∷ [];
  methods =
      deferred (codes "<init>") (codes "()V")
      ∷ deferred (codes "<init>") (codes "(Ljava/lang/Runnable;)V")
      ∷ deferred (codes "start") (codes "()V")
      ∷ deferred (codes "join") (codes "()V")
      ∷ coded (codes "run") (codes "()V") thread_run
      ∷ [];
}

-- its one referent is no slot
abbrev pub reference : BootClassOf
reference = plain_class (codes "java/lang/ref/Reference") public_abstract (deferred (codes "get") (codes "()Ljava/lang/Object;") ∷ deferred (codes "clear") (codes "()V") ∷ [])

-- the second constructor gives a reference its queue, or none
abbrev pub weak_reference : BootClassOf
weak_reference =
    simple_class (codes "java/lang/ref/WeakReference") (Some (codes "java/lang/ref/Reference")) public
    (deferred (codes "<init>") (codes "(Ljava/lang/Object;)V")
    ∷ deferred (codes "<init>") (codes "(Ljava/lang/Object;Ljava/lang/ref/ReferenceQueue;)V")
    ∷ [])

-- its one waiting list is no slot
abbrev pub reference_queue : BootClassOf
reference_queue =
    plain_class (codes "java/lang/ref/ReferenceQueue") public
    (deferred (codes "<init>") (codes "()V") ∷ deferred (codes "poll") (codes "()Ljava/lang/ref/Reference;") ∷ [])

abbrev pub string : BootClassOf
string =
    plain_class (codes "java/lang/String") public_final
    (deferred (codes "length") (codes "()I")
    ∷ deferred (codes "charAt") (codes "(I)C")
    ∷ deferred (codes "equals") (codes "(Ljava/lang/Object;)Z")
    ∷ [])

abbrev pub string_builder : BootClassOf
string_builder =
    plain_class (codes "java/lang/StringBuilder") public
    (deferred (codes "<init>") (codes "()V")
    ∷ deferred (codes "<init>") (codes "(Ljava/lang/String;)V")
    ∷ deferred (codes "length") (codes "()I")
    ∷ deferred (codes "toString") (codes "()Ljava/lang/String;")
    ∷ deferred (codes "append") (codes "(Ljava/lang/String;)Ljava/lang/StringBuilder;")
    ∷ deferred (codes "append") (codes "(I)Ljava/lang/StringBuilder;")
    ∷ deferred (codes "append") (codes "(J)Ljava/lang/StringBuilder;")
    ∷ deferred (codes "append") (codes "(C)Ljava/lang/StringBuilder;")
    ∷ deferred (codes "append") (codes "(Z)Ljava/lang/StringBuilder;")
    ∷ [])

abbrev pub print_stream : BootClassOf
print_stream =
    plain_class (codes "java/io/PrintStream") public
    (deferred (codes "print") (codes "(Ljava/lang/String;)V")
    ∷ deferred (codes "print") (codes "(I)V")
    ∷ deferred (codes "print") (codes "(J)V")
    ∷ deferred (codes "print") (codes "(C)V")
    ∷ deferred (codes "print") (codes "(Z)V")
    ∷ deferred (codes "println") (codes "(Ljava/lang/String;)V")
    ∷ deferred (codes "println") (codes "(I)V")
    ∷ deferred (codes "println") (codes "(J)V")
    ∷ deferred (codes "println") (codes "(C)V")
    ∷ deferred (codes "println") (codes "(Z)V")
    ∷ deferred (codes "println") (codes "()V")
    ∷ [])

-- its field is the one static field of a built-in class
abbrev pub system : BootClassOf
system = record {
  name = codes "java/lang/System";
  super_name = Some (codes "java/lang/Object");
  flags = public;
  interfaces = [];
  pool = pool_bytes [];
  slots = 0;
  fields = record { name = codes "out"; descriptor = codes "Ljava/io/PrintStream;"; flags = public_static } ∷ [];
  methods = [];
}

-- THE TABLE

-- the classes that aren't below Throwable, and Throwable
abbrev pub first_classes : List BootClassOf
first_classes =
    object_class_file
    ∷ interface (codes "java/lang/Runnable") (without_body (codes "run") (codes "()V") ∷ [])
    ∷ interface (codes "java/lang/Cloneable") []
    ∷ interface (codes "java/lang/AutoCloseable") (without_body (codes "close") (codes "()V") ∷ [])
    ∷ interface (codes "java/io/Serializable") []
    ∷ string
    ∷ thread
    ∷ reference
    ∷ weak_reference
    ∷ reference_queue
    ∷ throwable_class
    ∷ string_builder
    ∷ print_stream
    ∷ system
    ∷ []

-- the classes below Throwable
abbrev pub throwables : List BootClassOf
throwables =
    throwable (codes "java/lang/Exception") (codes "java/lang/Throwable")
    ∷ throwable (codes "java/lang/Error") (codes "java/lang/Throwable")
    ∷ throwable (codes "java/lang/RuntimeException") (codes "java/lang/Exception")
    ∷ throwable (codes "java/lang/InterruptedException") (codes "java/lang/Exception")
    ∷ throwable (codes "java/lang/CloneNotSupportedException") (codes "java/lang/Exception")
    ∷ throwable (codes "java/lang/ArithmeticException") (codes "java/lang/RuntimeException")
    ∷ throwable (codes "java/lang/ArrayStoreException") (codes "java/lang/RuntimeException")
    ∷ throwable (codes "java/lang/ClassCastException") (codes "java/lang/RuntimeException")
    ∷ throwable (codes "java/lang/IllegalArgumentException") (codes "java/lang/RuntimeException")
    ∷ throwable (codes "java/lang/IllegalMonitorStateException") (codes "java/lang/RuntimeException")
    ∷ throwable (codes "java/lang/IllegalStateException") (codes "java/lang/RuntimeException")
    ∷ throwable (codes "java/lang/IndexOutOfBoundsException") (codes "java/lang/RuntimeException")
    ∷ throwable (codes "java/lang/NegativeArraySizeException") (codes "java/lang/RuntimeException")
    ∷ throwable (codes "java/lang/NullPointerException") (codes "java/lang/RuntimeException")
    ∷ throwable (codes "java/lang/UnsupportedOperationException") (codes "java/lang/RuntimeException")
    ∷ throwable (codes "java/lang/ArrayIndexOutOfBoundsException") (codes "java/lang/IndexOutOfBoundsException")
    ∷ throwable (codes "java/lang/IllegalThreadStateException") (codes "java/lang/IllegalArgumentException")
    ∷ throwable (codes "java/lang/LinkageError") (codes "java/lang/Error")
    ∷ throwable (codes "java/lang/VirtualMachineError") (codes "java/lang/Error")
    ∷ throwable (codes "java/lang/AssertionError") (codes "java/lang/Error")
    ∷ throwable (codes "java/lang/NoClassDefFoundError") (codes "java/lang/LinkageError")
    ∷ throwable (codes "java/lang/ExceptionInInitializerError") (codes "java/lang/LinkageError")
    ∷ throwable (codes "java/lang/UnsatisfiedLinkError") (codes "java/lang/LinkageError")
    ∷ throwable (codes "java/lang/IncompatibleClassChangeError") (codes "java/lang/LinkageError")
    ∷ throwable (codes "java/lang/AbstractMethodError") (codes "java/lang/IncompatibleClassChangeError")
    ∷ throwable (codes "java/lang/InstantiationError") (codes "java/lang/IncompatibleClassChangeError")
    ∷ throwable (codes "java/lang/NoSuchFieldError") (codes "java/lang/IncompatibleClassChangeError")
    ∷ throwable (codes "java/lang/NoSuchMethodError") (codes "java/lang/IncompatibleClassChangeError")
    ∷ throwable (codes "java/lang/StackOverflowError") (codes "java/lang/VirtualMachineError")
    ∷ throwable (codes "java/lang/OutOfMemoryError") (codes "java/lang/VirtualMachineError")
    ∷ throwable (codes "java/lang/StringIndexOutOfBoundsException") (codes "java/lang/IndexOutOfBoundsException")
    ∷ []

abbrev pub boot_classes : List BootClassOf
boot_classes = first_classes ++ throwables

-- what stands at the places behind the last class
abbrev pub no_boot_class : BootClassOf
no_boot_class = record { name = []; super_name = None; flags = 0; interfaces = []; pool = pool_bytes []; slots = 0; fields = []; methods = [] }
