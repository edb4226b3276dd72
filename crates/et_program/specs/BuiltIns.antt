-- THE BUILT-IN METHODS WITHOUT CODE of a program, and those of them that are deferred.
use Rattle.std.specs.Prelude.{ℕ, ◌&&◌, ◌||◌, not, Bool, if◌then◌else◌, List, Option, None, is_none}
use Rattle.std.specs.List.{slice_index_or}
use Rattle.et_class.specs.Names.{has}
use Rattle.et_class.specs.declared.flags.TheConstants.{STATIC, NATIVE, ABSTRACT}
use Rattle.et_boot.specs.BuiltIns.{built_in_called, is_deferring_class}
use Rattle.et_boot.specs.TextMethods.{text_method_called}
use Rattle.et_boot.specs.declared.built_ins.BuiltIn.{BuiltIn}
use Rattle.et_boot.specs.declared.text_methods.TextMethod.{TextMethod}
use Rattle.et_program.specs.declared.info.MethodInfo.{MethodInfo}
use Rattle.et_program.specs.Entries.{ClassEntry, Linked, no_class, method_at}

-- a method without code that is abstract is none
abbrev pub built_in_of : MethodInfo → Option BuiltIn
built_in_of m = if has m.flags ABSTRACT then None else built_in_called m.name m.descriptor

-- DEFERRED: those of threads, of weak references and of their queues, and the methods of texts. The event call that does calls
-- leaves them to those that do monitors and threads, and texts.

-- a method of one of these classes that has no code and is built in: it is called on an object, and neither native nor abstract
abbrev pub is_deferred_in : List ClassEntry → MethodInfo → Bool
is_deferred_in classes m =
    is_none m.code
    && not (has m.flags STATIC || has m.flags NATIVE || has m.flags ABSTRACT)
    && is_deferring_class (slice_index_or classes m.class no_class).info.name

abbrev pub is_deferred : Linked → ℕ → Bool
is_deferred p m = is_deferred_in p.classes (method_at p m)

-- what a method does with texts, if it is a method of texts
unfoldable pub text_method_in : List ClassEntry → MethodInfo → Option TextMethod
text_method_in classes m = text_method_called (slice_index_or classes m.class no_class).info.name m.name m.descriptor

abbrev pub text_method_of : Linked → ℕ → Option TextMethod
text_method_of p m = text_method_in p.classes (method_at p m)
