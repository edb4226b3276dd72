-- The classes of what the machine itself throws.
use Rattle.std.specs.Prelude.{ℕ, List, unwrap_or}
use Rattle.et_program.specs.BootNames.{built_in_class_name}
use Rattle.et_program.specs.BootNamed.BuiltInClass.{BuiltInClass}
use Rattle.et_program.specs.BootNamed.BuiltInClass.TheVariants as class
use Rattle.et_program.specs.Entries.{Linked}
use Rattle.et_program.specs.Members.{class_named}
use Rattle.et_program.specs.declared.errors.LinkError.{LinkError}
use Rattle.et_program.specs.declared.errors.LinkError.TheVariants.{NoClassDefFound, NoSuchField, NoSuchMethod, IncompatibleClassChange, AbstractMethod}
use Rattle.et_event.specs.declared.errors.GuestError.{GuestError}
use Rattle.et_event.specs.declared.errors.GuestError.TheVariants.{AbstractMethodError, ArithmeticException, ArrayIndexOutOfBoundsException, ArrayStoreException, ClassCastException, ExceptionInInitializerError, IllegalMonitorStateException, IllegalThreadStateException, IncompatibleClassChangeError, InstantiationError, NegativeArraySizeException, NoClassDefFoundError, NoSuchFieldError, NoSuchMethodError, NullPointerException, OutOfMemoryError, StackOverflowError, StringIndexOutOfBoundsException, UnsatisfiedLinkError}

abbrev pub class_of_error : GuestError → BuiltInClass
class_of_error AbstractMethodError = class.AbstractMethodError
class_of_error ArithmeticException = class.ArithmeticException
class_of_error ArrayIndexOutOfBoundsException = class.ArrayIndexOutOfBoundsException
class_of_error ArrayStoreException = class.ArrayStoreException
class_of_error ClassCastException = class.ClassCastException
class_of_error ExceptionInInitializerError = class.ExceptionInInitializerError
class_of_error IllegalMonitorStateException = class.IllegalMonitorStateException
class_of_error IllegalThreadStateException = class.IllegalThreadStateException
class_of_error IncompatibleClassChangeError = class.IncompatibleClassChangeError
class_of_error InstantiationError = class.InstantiationError
class_of_error NegativeArraySizeException = class.NegativeArraySizeException
class_of_error NoClassDefFoundError = class.NoClassDefFoundError
class_of_error NoSuchFieldError = class.NoSuchFieldError
class_of_error NoSuchMethodError = class.NoSuchMethodError
class_of_error NullPointerException = class.NullPointerException
class_of_error OutOfMemoryError = class.OutOfMemoryError
class_of_error StackOverflowError = class.StackOverflowError
class_of_error StringIndexOutOfBoundsException = class.StringIndexOutOfBoundsException
class_of_error UnsatisfiedLinkError = class.UnsatisfiedLinkError

abbrev pub error_name : GuestError → List ℕ
error_name error = built_in_class_name (class_of_error error)

-- a built-in class, which each program has
abbrev pub class_called : Linked → List ℕ → ℕ
class_called p name = unwrap_or (class_named p name) 0

abbrev pub error_class : Linked → GuestError → ℕ
error_class p error = class_called p (error_name error)

-- the error that a failed resolution or selection throws
abbrev pub error_of : LinkError → GuestError
error_of NoClassDefFound = NoClassDefFoundError
error_of NoSuchField = NoSuchFieldError
error_of NoSuchMethod = NoSuchMethodError
error_of IncompatibleClassChange = IncompatibleClassChangeError
error_of AbstractMethod = AbstractMethodError
