-- What holds of the classes of a program, so that its objects are sound as they are made and written, and its methods as they
-- are entered.
use Rattle.std.specs.Prelude.{◌≡◌, ℕ, zero, suc, ◌<◌, ◌≤◌, ◌^◌, ◌||◌, ◌⊎◌, Bool, true, false, List, length, slice_index_or, codes, All, Contains, Some, None, IsSome, Ok, unwrap_or}
use Rattle.std.specs.Str.{bytes_eq}
use Rattle.et_base.specs.declared.value.Value.{Value}
use Rattle.et_base.specs.declared.value.Value.TheVariants.{Int, Long, Null}
use Rattle.et_class.specs.Descriptors.{MethodType, method_type, is_void}
use Rattle.et_class.specs.Looks.{class_name_at}
use Rattle.et_code.specs.declared.instr.Instr.{Instr}
use Rattle.et_code.specs.Bodies.{Body}
use Rattle.et_code.specs.Decoding.{instruction_at}
use Rattle.et_code.specs.Starts.{IsStart}
use Rattle.et_class.specs.Names.{has}
use Rattle.et_class.specs.declared.flags.TheConstants.{STATIC, NATIVE}
use Rattle.et_program.specs.Entries.{Linked, class_at, method_at, field_at, is_static}
use Rattle.et_program.specs.Members.{is_subclass, base_array}
use Rattle.et_program.specs.Resolution.{resolve_class}
use Rattle.et_program.specs.declared.info.Element.{Element}
use Rattle.et_program.specs.declared.info.Element.TheVariants.{NoArray, Base, Class}
use Rattle.et_heap.specs.Objects.{ObjectState, new_object}
use Rattle.et_event.specs.declared.errors.GuestError.{GuestError}
use Rattle.et_event.specs.declared.rows.HeapRow.TheVariants.{NewArray, NewReferenceArray, NewMultiArray}
use Rattle.et_event.specs.declared.rows.CallKind.{CallKind}
use Rattle.et_event.specs.declared.rows.CallRow.TheVariants.{Invoke}
use Rattle.et_event.specs.declared.rows.Row.TheVariants.{Heap, Call}
use Rattle.et_event.specs.Table.{row_of}
use Rattle.et_event.specs.Calls.{entry_count}
use Rattle.et_event.specs.Errors.{error_name, class_called}
use Rattle.et_event.specs.Heap.{is_out, may_be_made}
use Rattle.et_event.specs.Kinds.{is_array_element}
use Rattle.et_class.specs.Operands.{operand_kind}
use Rattle.et_event.specs.Sites.{Site, Member, LoadedConstant, AnInt, ALong, AString, constant_at, site_member, pool_of_class, natural_of}
use Rattle.et_event.specs.Sound.{is_of_kind, kind_of_element, returned_of, IsSoundObject}

-- an object of the built-in class of this name, as it is made
abbrev pub new_of : Linked → List ℕ → ObjectState
new_of p name = new_object (class_called p name) 0 (class_at p (class_called p name)).info.slots

-- a string and each exception of the machine are sound as they are made: they have a slot for each of their fields
pub record MakesSound (p : Linked) : Type 0 where
  pub string : IsSoundObject p (new_of p (codes "java/lang/String"))
  pub error : (error : GuestError) → IsSoundObject p (new_of p (error_name error))

-- an object of class c has the field f
pub record HasInstanceField (p : Linked) (c f : ℕ) : Type 0 where
  pub within : f < length p.fields
  pub instance : has (field_at p f).flags STATIC ≡ false
  pub below : is_subclass p c (field_at p f).class ≡ true

-- a class of arrays
pub record IsArrayClass (p : Linked) (c : ℕ) : Type 0 where
  pub within : c < length p.classes
  pub array : is_array_element (class_at p c).info.element ≡ true

-- the slots of fields (JVMS 2.4, 2.5.3)
pub record HasSlots (p : Linked) : Type 0 where
  -- an instance and an array of each class are sound as they are made
  pub instances : (c : ℕ) → c < length p.classes → (class_at p c).info.element ≡ NoArray → IsSoundObject p (new_object c 0 (class_at p c).info.slots)
  pub arrays : (c elements : ℕ) → c < length p.classes → is_array_element (class_at p c).info.element ≡ true → IsSoundObject p (new_object c elements elements)
  -- no two fields of an object have one slot, and no array has a field
  pub own : (c f g : ℕ) → HasInstanceField p c f → HasInstanceField p c g → (field_at p f).slot ≡ (field_at p g).slot → f ≡ g
  pub bare : (c f : ℕ) → HasInstanceField p c f → (class_at p c).info.element ≡ NoArray
  -- fields are of classes, and what may be made by new is no array
  pub owners : (f : ℕ) → f < length p.fields → (field_at p f).class < length p.classes
  pub made : (c : ℕ) → c < length p.classes → may_be_made p c ≡ true → (class_at p c).info.element ≡ NoArray
  -- a static field stands at its number among the static fields
  pub statics : (f : ℕ) → f < length p.fields → has (field_at p f).flags STATIC ≡ true → ((field_at p f).slot < length p.statics) × (slice_index_or p.statics (field_at p f).slot 0 ≡ f)

-- a value of the kind of a constant; which object a string is doesn't matter
abbrev pub value_like : LoadedConstant → Value
value_like (AnInt n) = Int n
value_like (ALong n) = Long n
value_like (AString bytes) = Null

-- f is a static field of class c whose constant, if any, is of its type (JVMS 4.7.2). It isn't System.out, which has none
pub record HasConstant (p : Linked) (c f : ℕ) : Type 0 where
  pub class : (field_at p f).class ≡ c
  pub other : is_out p f ≡ false
  pub slot : (field_at p f).slot < length p.statics
  pub place : slice_index_or p.statics (field_at p f).slot 0 ≡ f
  pub typed : (k : LoadedConstant) → constant_at (pool_of_class p (field_at p f).class) (field_at p f).constant ≡ Some k → is_of_kind (operand_kind (field_at p f).descriptor) (value_like k) ≡ true

-- a method that initializes a class has code and returns nothing (JVMS 2.9)
pub record IsInitializer (p : Linked) (m : ℕ) : Type 0 where
  pub method : m < length p.methods
  pub body : Body
  pub code : (method_at p m).code ≡ Some body
  pub void : is_void (returned_of (method_at p m)) ≡ true

-- the initialization of classes (JVMS 5.5): what is initialized with a class, itself too, are classes
pub record HasInitializers (p : Linked) : Type 0 where
  pub orders : (c : ℕ) → All (λ k. k < length p.classes) (class_at p c).init_order
  pub own : (c : ℕ) → c < length p.classes → Contains (class_at p c).init_order c
  pub constants : (c : ℕ) → c < length p.classes → All (HasConstant p c) (class_at p c).info.constants
  pub prerequisites : (c : ℕ) → c < length p.classes → All (λ k. k < length p.classes) (class_at p c).info.prerequisites
  pub clinits : (c m : ℕ) → c < length p.classes → (class_at p c).info.clinit ≡ Some m → IsInitializer p m

-- THE SLOTS THAT THE MACHINE ITSELF USES: the message and the cause of a Throwable, which are no field's, and the target of a
-- Thread, which is its field `target`

-- the first slots of an object of class c are there, and no field's
pub record KeepsFree (p : Linked) (c count : ℕ) : Type 0 where
  pub bare : (class_at p c).info.element ≡ NoArray
  pub room : count ≤ (class_at p c).info.slots
  pub free : (f : ℕ) → HasInstanceField p c f → count ≤ (field_at p f).slot

-- .. of a class and of those below it
abbrev pub KeepFree : Linked → List ℕ → ℕ → Type 0
KeepFree p name count = (c : ℕ) → c < length p.classes → is_subclass p c (class_called p name) ≡ true → KeepsFree p c count

-- f is the field `target` of Thread, which holds a Runnable
pub record IsTarget (p : Linked) (f : ℕ) : Type 0 where
  pub class : (field_at p f).class ≡ class_called p (codes "java/lang/Thread")
  pub name : (field_at p f).name ≡ codes "target"
  pub descriptor : (field_at p f).descriptor ≡ codes "Ljava/lang/Runnable;"

-- an object of class c has a first slot, and no other field than `target` stands there
pub record KeepsTarget (p : Linked) (c : ℕ) : Type 0 where
  pub bare : (class_at p c).info.element ≡ NoArray
  pub room : 1 ≤ (class_at p c).info.slots
  pub target : (f : ℕ) → HasInstanceField p c f → (field_at p f).slot < 1 → IsTarget p f

pub record HasMachineSlots (p : Linked) : Type 0 where
  pub throwables : KeepFree p (codes "java/lang/Throwable") 2
  pub threads : (c : ℕ) → c < length p.classes → is_subclass p c (class_called p (codes "java/lang/Thread")) ≡ true → KeepsTarget p c

-- THE CLASSES OF TEXTS: strings and print streams are no arrays, and System.out is a print stream
pub record HasTextClasses (p : Linked) : Type 0 where
  pub string : (class_at p (class_called p (codes "java/lang/String"))).info.element ≡ NoArray
  pub stream : (class_at p (class_called p (codes "java/io/PrintStream"))).info.element ≡ NoArray
  pub stream_within : class_called p (codes "java/io/PrintStream") < length p.classes
  pub out : (f : ℕ) → f < length p.fields → is_out p f ≡ true → (field_at p f).descriptor ≡ codes "Ljava/io/PrintStream;"

-- an instruction of the code of a method
pub record IsInstruction (p : Linked) (m : ℕ) (x : Instr × ℕ) : Type 0 where
  pub method : m < length p.methods
  pub body : Body
  pub code : (method_at p m).code ≡ Some body
  pub pc : ℕ
  pub start : IsStart body.code pc
  pub at : instruction_at body.code pc ≡ Ok x

-- METHODS: those with code have locals for their arguments (JVMS 4.7.3), a static one without code is native (4.6), and
-- `main` is static and takes the argument array (JLS 12.1.4). A method named <clinit> is told apart: no rule looks at its
-- flags nor at whether it has code, it counts as having no receiver, and no instruction calls it (2.9).
abbrev pub is_initializing : Linked → ℕ → Bool
is_initializing p m = bytes_eq (method_at p m).name (codes "<clinit>")

pub record HasBuiltInMethods (p : Linked) : Type 0 where
  pub arguments : (m : ℕ) (body : Body) (type : MethodType) → m < length p.methods → (method_at p m).code ≡ Some body → method_type (method_at p m).descriptor ≡ Some type → entry_count (is_static p m || is_initializing p m) type ≤ body.max_locals
  pub static : (m : ℕ) → m < length p.methods → is_static p m ≡ true → is_initializing p m ≡ false → (method_at p m).code ≡ None → has (method_at p m).flags NATIVE ≡ true
  -- no instruction calls a method of that name
  pub calls : (m : ℕ) (at : Site) (kind : CallKind) (named : Member) → IsInstruction p m (at.instr, at.next) → at.pool ≡ pool_of_class p (method_at p m).class → row_of at.instr.opcode ≡ Some (Call (Invoke kind)) → site_member at ≡ Some named → bytes_eq named.name (codes "<clinit>") ≡ false
  pub main : p.main < length p.methods
  pub main_static : is_static p p.main ≡ true
  pub main_name : (method_at p p.main).name ≡ codes "main"
  pub main_type : (method_at p p.main).descriptor ≡ codes "([Ljava/lang/String;)V"
  pub main_code : IsSome (method_at p p.main).code

-- THE ARRAY CLASSES that instructions make (JVMS 6.5 newarray, anewarray, multianewarray)

-- it names this class in the pool of its own
pub record NamesClass (p : Linked) (m : ℕ) (x : Instr × ℕ) (class : ℕ) : Type 0 where
  pub name : List ℕ
  pub operand : class_name_at (pool_of_class p (method_at p m).class) (natural_of x.0.first) ≡ Some name
  pub resolves : resolve_class p name ≡ Ok class

-- a class of arrays whose elements are arrays, and so on, so many times
abbrev pub HasDimensions : Linked → ℕ → ℕ → Type 0
HasDimensions p zero c = Unit {0}
HasDimensions p (suc zero) c = IsArrayClass p c
HasDimensions p (suc (suc n)) c = IsArrayClass p c × ((k : ℕ) × ((class_at p c).info.element ≡ Class k) × HasDimensions p (suc n) k)

pub record HasArrays (p : Linked) : Type 0 where
  pub base : (m : ℕ) (x : Instr × ℕ) → IsInstruction p m x → row_of x.0.opcode ≡ Some (Heap NewArray) → IsSome (base_array p (natural_of x.0.first))
  pub single : (m : ℕ) (x : Instr × ℕ) (class : ℕ) → IsInstruction p m x → row_of x.0.opcode ≡ Some (Heap NewReferenceArray) → NamesClass p m x class → IsArrayClass p (unwrap_or (class_at p class).array 0)
  pub multi : (m : ℕ) (x : Instr × ℕ) (class : ℕ) → IsInstruction p m x → row_of x.0.opcode ≡ Some (Heap NewMultiArray) → NamesClass p m x class → (0 < natural_of x.0.second) × HasDimensions p (natural_of x.0.second) class

-- THE ELEMENTS OF ARRAYS

-- elements are of a base type by its code, which has 8 bits, or of one of the first n classes
abbrev pub IsElementWithin : ℕ → Element → Type 0
IsElementWithin n NoArray = Unit {0}
IsElementWithin n (Base kind) = kind < 2 ^ 8
IsElementWithin n (Class class) = class < n

-- .. in each class of the program
abbrev pub AreElementsWithin : Linked → Type 0
AreElementsWithin p = (c : ℕ) → c < length p.classes → IsElementWithin (length p.classes) (class_at p c).info.element

-- an object of a class may hold a value in a slot
pub record MayHold (p : Linked) (class i : ℕ) (v : Value) : Type 0 where
  -- where a field of its class, or of one above, stands there, the value is of its type
  pub fields : (f : ℕ) → f < length p.fields → has (field_at p f).flags STATIC ≡ false → is_subclass p class (field_at p f).class ≡ true → (field_at p f).slot ≡ i → is_of_kind (operand_kind (field_at p f).descriptor) v ≡ true
  -- an array has elements of its type
  pub elements : (is_of_kind (kind_of_element (class_at p class).info.element) v ≡ true) ⊎ ((class_at p class).info.element ≡ NoArray)
