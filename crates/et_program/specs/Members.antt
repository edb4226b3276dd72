-- Where members stand (JVMS 5.4.3.2 to 5.4.3.4, and the selection of 6.5 invokevirtual), before any error is named.
use Rattle.std.specs.Prelude.{ℕ, Bool, false, ◌==◌, ◌&&◌, ◌||◌, not, if◌then◌else◌, List, [], ◌∷◌, Option, None, Some, is_some}
use Rattle.std.specs.List.{position_from, list_any, filter_map}
use Rattle.std.specs.Option.{option_or}
use Rattle.std.specs.Str.{bytes_eq}
use Rattle.et_program.specs.declared.errors.Specific.{Specific}
use Rattle.et_program.specs.declared.errors.Specific.TheVariants.{Nothing, One, Several}
use Rattle.et_program.specs.declared.info.MethodInfo.{MethodInfo}
use Rattle.et_program.specs.declared.info.FieldInfo.{FieldInfo}
use Rattle.et_program.specs.declared.info.Element.{Element}
use Rattle.et_program.specs.declared.info.Element.TheVariants.{NoArray, Base, Class}
use Rattle.et_program.specs.Entries.{ClassEntry, Linked, class_at, is_private, is_static, is_abstract}

-- the class of this name
abbrev pub class_named : Linked → List ℕ → Option ℕ
class_named p name = position_from (λ (c : ClassEntry). bytes_eq name c.info.name) 0 p.classes

-- a class and its superclasses, upward
abbrev pub lineage : Linked → ℕ → List ℕ
lineage p c = c ∷ (class_at p c).supers

-- m is the method of class c with this name and descriptor
abbrev pub is_method : List ℕ → List ℕ → ℕ → MethodInfo → Bool
is_method name descriptor c m = (m.class == c) && (bytes_eq m.name name && bytes_eq m.descriptor descriptor)

-- the method of class c with this name and descriptor
abbrev pub method_in : Linked → List ℕ → List ℕ → ℕ → Option ℕ
method_in p name descriptor c = position_from (is_method name descriptor c) 0 p.methods

-- f is the field of class c with this name and descriptor
abbrev pub is_field : List ℕ → List ℕ → ℕ → FieldInfo → Bool
is_field name descriptor c f = (f.class == c) && (bytes_eq f.name name && bytes_eq f.descriptor descriptor)

-- the field of class c with this name and descriptor
abbrev pub field_in : Linked → List ℕ → List ℕ → ℕ → Option ℕ
field_in p name descriptor c = position_from (is_field name descriptor c) 0 p.fields

-- what the first of these classes has that has any
abbrev pub first_in : (ℕ → Option ℕ) → List ℕ → Option ℕ
first_in member [] = None
first_in member (c ∷ cs) = option_or (member c) (first_in member cs)

-- a member that passes a test
abbrev pub kept : (ℕ → Bool) → Option ℕ → Option ℕ
kept test None = None
kept test (Some m) = if test m then Some m else None

abbrev pub is_open_method : Linked → ℕ → Bool
is_open_method p m = not (is_private p m) && not (is_static p m)

-- the method of that name and descriptor in class c that is neither private nor static
abbrev pub open_in : Linked → List ℕ → List ℕ → ℕ → Option ℕ
open_in p name descriptor c = kept (is_open_method p) (method_in p name descriptor c)

-- i is a superinterface of j
abbrev pub is_above : Linked → ℕ → ℕ → Bool
is_above p i j = list_any (λ k. k == i) (class_at p j).superinterfaces

-- among these interfaces one that is below i has such a method
abbrev pub is_overridden : Linked → List ℕ → List ℕ → List ℕ → ℕ → Bool
is_overridden p name descriptor all i = list_any (λ j. is_above p i j && is_some (open_in p name descriptor j)) all

-- the method of interface i, where it is maximally specific among these interfaces and isn't abstract
abbrev pub specific_in : Linked → List ℕ → List ℕ → List ℕ → ℕ → Option ℕ
specific_in p name descriptor all i =
    if is_overridden p name descriptor all i then None else kept (λ m. not (is_abstract p m)) (open_in p name descriptor i)

-- the maximally specific methods that aren't abstract, in the superinterfaces of class c (5.4.3.3)
abbrev pub specific_methods : Linked → List ℕ → List ℕ → ℕ → List ℕ
specific_methods p name descriptor c =
    filter_map (specific_in p name descriptor (class_at p c).superinterfaces) (class_at p c).superinterfaces

-- what a list of methods amounts to: none, one, or several
abbrev pub amount : List ℕ → Specific
amount [] = Nothing
amount (m ∷ []) = One m
amount (m ∷ n ∷ ms) = Several

abbrev pub only : Specific → Option ℕ
only Nothing = None
only (One m) = Some m
only Several = None

-- the method that resolution finds above class c by its last two steps: the one that is maximally specific
-- and not abstract, or else the first that is neither private nor static
abbrev pub resolved_above : Linked → List ℕ → List ℕ → ℕ → Option ℕ
resolved_above p name descriptor c =
    option_or (only (amount (specific_methods p name descriptor c))) (first_in (open_in p name descriptor) (class_at p c).superinterfaces)

-- low is high or has it as a superclass or superinterface
abbrev pub is_subclass : Linked → ℕ → ℕ → Bool
is_subclass p low high = (low == high) || (list_any (λ k. k == high) (class_at p low).supers || is_above p high low)

-- the class has elements of that base type
abbrev pub is_base_array : ℕ → Element → Bool
is_base_array kind NoArray = false
is_base_array kind (Base k) = k == kind
is_base_array kind (Class c) = false

-- the class of the arrays over that base type
abbrev pub base_array : Linked → ℕ → Option ℕ
base_array p kind = position_from (λ (c : ClassEntry). is_base_array kind c.info.element) 0 p.classes
