-- THE BUILT-IN CLASSES THAT THE MACHINE ITSELF NAMES.
use Rattle.std.specs.Prelude.{ℕ, List, codes}
use Rattle.et_boot.specs.declared.names.BuiltInClass.{BuiltInClass}
use Rattle.et_boot.specs.declared.names.BuiltInClass.TheVariants.{Object, String, Thread, ReferenceQueue, StringBuilder, PrintStream, System, Throwable, Error, ArithmeticException, ArrayStoreException, ClassCastException, IllegalMonitorStateException, NegativeArraySizeException, NullPointerException, ArrayIndexOutOfBoundsException, IllegalThreadStateException, NoClassDefFoundError, ExceptionInInitializerError, UnsatisfiedLinkError, IncompatibleClassChangeError, AbstractMethodError, InstantiationError, NoSuchFieldError, NoSuchMethodError, StackOverflowError, OutOfMemoryError, StringIndexOutOfBoundsException}

-- the name of the class, as a class file spells it
abbrev pub built_in_class_name : BuiltInClass → List ℕ
built_in_class_name Object = codes "java/lang/Object"
built_in_class_name String = codes "java/lang/String"
built_in_class_name Thread = codes "java/lang/Thread"
built_in_class_name ReferenceQueue = codes "java/lang/ref/ReferenceQueue"
built_in_class_name StringBuilder = codes "java/lang/StringBuilder"
built_in_class_name PrintStream = codes "java/io/PrintStream"
built_in_class_name System = codes "java/lang/System"
built_in_class_name Throwable = codes "java/lang/Throwable"
built_in_class_name Error = codes "java/lang/Error"
built_in_class_name ArithmeticException = codes "java/lang/ArithmeticException"
built_in_class_name ArrayStoreException = codes "java/lang/ArrayStoreException"
built_in_class_name ClassCastException = codes "java/lang/ClassCastException"
built_in_class_name IllegalMonitorStateException = codes "java/lang/IllegalMonitorStateException"
built_in_class_name NegativeArraySizeException = codes "java/lang/NegativeArraySizeException"
built_in_class_name NullPointerException = codes "java/lang/NullPointerException"
built_in_class_name ArrayIndexOutOfBoundsException = codes "java/lang/ArrayIndexOutOfBoundsException"
built_in_class_name IllegalThreadStateException = codes "java/lang/IllegalThreadStateException"
built_in_class_name NoClassDefFoundError = codes "java/lang/NoClassDefFoundError"
built_in_class_name ExceptionInInitializerError = codes "java/lang/ExceptionInInitializerError"
built_in_class_name UnsatisfiedLinkError = codes "java/lang/UnsatisfiedLinkError"
built_in_class_name IncompatibleClassChangeError = codes "java/lang/IncompatibleClassChangeError"
built_in_class_name AbstractMethodError = codes "java/lang/AbstractMethodError"
built_in_class_name InstantiationError = codes "java/lang/InstantiationError"
built_in_class_name NoSuchFieldError = codes "java/lang/NoSuchFieldError"
built_in_class_name NoSuchMethodError = codes "java/lang/NoSuchMethodError"
built_in_class_name StackOverflowError = codes "java/lang/StackOverflowError"
built_in_class_name OutOfMemoryError = codes "java/lang/OutOfMemoryError"
built_in_class_name StringIndexOutOfBoundsException = codes "java/lang/StringIndexOutOfBoundsException"
