-- What is true of the whole table.
use Rattle.std.specs.Prelude.{ℕ, ◌==◌, ◌&&◌, not, Bool, true, false, List, [], ◌∷◌, Option, None, Some, is_some}
use Rattle.std.specs.List.{list_any, list_all}
use Rattle.std.specs.Str.{bytes_eq}
use Rattle.et_boot.specs.BuiltIns.{is_deferring_class}
use Rattle.et_boot.specs.Classes.{BootClassOf, boot_classes, public_interface}
use Rattle.et_boot.specs.TextMethods.{has_text_methods, text_method_called}
use Rattle.et_boot.specs.declared.text_methods.TextMethod.{TextMethod}

abbrev pub is_class_named : List ℕ → BootClassOf → Bool
is_class_named name c = bytes_eq name c.name

-- no class has the name of an earlier one
abbrev pub are_distinct : List BootClassOf → Bool
are_distinct [] = true
are_distinct (c ∷ cs) = not (list_any (is_class_named c.name) cs) && are_distinct cs

-- the name is that of a class of the list that is an interface, or that is none
abbrev pub has_kind : List BootClassOf → Bool → List ℕ → Bool
has_kind cs true name = list_any (λ c. is_class_named name c && (c.flags == public_interface)) cs
has_kind cs false name = list_any (λ c. is_class_named name c && not (c.flags == public_interface)) cs

abbrev pub has_super : List BootClassOf → Option (List ℕ) → Bool
has_super before None = true
has_super before (Some name) = has_kind before false name

-- each class stands behind its superclass, which is no interface, and behind its interfaces
abbrev pub are_in_order : List BootClassOf → List BootClassOf → Bool
are_in_order before [] = true
are_in_order before (c ∷ cs) = (has_super before c.super_name && list_all (has_kind before true) c.interfaces) && are_in_order (c ∷ before) cs

abbrev pub same_flag : Bool → Bool → Bool
same_flag true b = b
same_flag false b = not b

-- deferred is exactly a method without code of one of the deferring classes
abbrev pub defers_exactly : BootClassOf → Bool
defers_exactly c = list_all (λ m. same_flag m.deferred (is_deferring_class c.name && not (is_some m.code))) c.methods

-- a method of texts is exactly one of String, StringBuilder or PrintStream
abbrev pub has_text_methods_exactly : BootClassOf → Bool
has_text_methods_exactly c = list_all (λ m. same_flag (is_some (text_method_called c.name m.name m.descriptor)) (has_text_methods c.name)) c.methods

-- the row is that of a method that a built-in class declares
abbrev pub is_declared : List ℕ × List ℕ × List ℕ × TextMethod → Bool
is_declared row = list_any (λ c. bytes_eq c.name row.0 && list_any (λ m. bytes_eq m.name row.1 && bytes_eq m.descriptor row.2) c.methods) boot_classes
