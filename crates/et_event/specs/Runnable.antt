-- What a run asks of a program.
use Rattle.std.specs.Prelude.{◌≡◌, ℕ, ◌<◌, false, length, codes, Some, Ok}
use Rattle.et_base.specs.declared.value.Value.{Value}
use Rattle.et_code.specs.Bodies.{Body}
use Rattle.et_code.specs.Rules.{KeepsRules}
use Rattle.et_program.specs.Entries.{Linked, method_at, is_static}
use Rattle.et_program.specs.Resolution.{resolve_method}
use Rattle.et_event.specs.declared.errors.GuestError.{GuestError}
use Rattle.et_event.specs.Errors.{class_called, error_class}
use Rattle.et_event.specs.InitializationOrder.{IsInOrder}
use Rattle.et_event.specs.Interfaces.{KnowsInterfaces}
use Rattle.et_event.specs.Programs.{MakesSound, HasSlots, HasInitializers, HasMachineSlots, HasBuiltInMethods, HasArrays, AreElementsWithin, HasTextClasses, MayHold}

pub record IsRunnable (p : Linked) : Type 0 where
  pub makes : MakesSound p
  pub slots : HasSlots p
  pub initializers : HasInitializers p
  pub machine_slots : HasMachineSlots p
  pub methods : HasBuiltInMethods p
  pub arrays : HasArrays p
  pub texts : HasTextClasses p
  -- no superclass is an interface, and each superinterface is one (JVMS 5.3.5)
  pub interfaces : KnowsInterfaces p
  -- arrays have elements of a base type, or of a class of the program
  pub elements : AreElementsWithin p
  -- constants are static fields of their class, and what is initialized with a class is closed under that (JVMS 5.5)
  pub order : IsInOrder p
  -- an exception of the machine may hold any value, as its cause
  pub errors : (error : GuestError) (i : ℕ) (v : Value) → MayHold p (error_class p error) i v
  -- methods are of classes, and code keeps the rules (JVMS 4.9.1)
  pub owners : (m : ℕ) → m < length p.methods → (method_at p m).class < length p.classes
  pub rules : (m : ℕ) (body : Body) → m < length p.methods → (method_at p m).code ≡ Some body → KeepsRules body
  -- `run` of Thread is called on an object
  pub run : (m : ℕ) → resolve_method p (class_called p (codes "java/lang/Thread")) false (codes "run") (codes "()V") ≡ Ok m → is_static p m ≡ false
