-- The definitions at a small program, each answer worked out by hand.
use Rattle.std.proofs.Common.{◌≡◌, ℕ, true, false, List, [], ◌∷◌, None, refl, Ok, Err}
use Rattle.std.specs.Prelude.{codes}
use Rattle.et_program.specs.declared.info.Element.TheVariants.{NoArray}
use Rattle.et_program.specs.declared.info.MethodInfo.{MethodInfo}
use Rattle.et_program.specs.declared.info.FieldInfo.{FieldInfo}
use Rattle.et_program.specs.declared.kind.Leaf.TheVariants.{Class}
use Rattle.et_program.specs.Entries.{ClassEntry, Linked}
use Rattle.et_program.specs.Members.{is_subclass}
use Rattle.et_program.specs.Resolution.{resolve_class, resolve_field, resolve_method, select, select_special}
use Rattle.et_program.specs.declared.errors.LinkError.TheVariants.{NoClassDefFound, NoSuchField, NoSuchMethod, IncompatibleClassChange, AbstractMethod}

-- a class of this number, with these flags, superclasses, superinterfaces and places of fields
abbrev class_of : ℕ → ℕ → List ℕ → List ℕ → List ℕ → ClassEntry
class_of c flags supers superinterfaces order = record {
  info = record { name = c ∷ []; flags = flags; element = NoArray; slots = 0; clinit = None; prerequisites = []; constants = [] };
  supers = supers;
  superinterfaces = superinterfaces;
  field_order = order;
  init_order = [];
  kind = record { dimensions = 0; leaf = Class c };
  array = None;
}

abbrev interface_of : ℕ → List ℕ → ClassEntry
interface_of c above = class_of c 0x0601 (0 ∷ []) above (c ∷ above)

abbrev m : List ℕ
m = codes "m"

abbrev v : List ℕ
v = codes "()V"

-- m()V, or another method, of this class with these flags
abbrev method_of : ℕ → List ℕ → ℕ → MethodInfo
method_of c name flags = record { class = c; name = name; descriptor = v; flags = flags; code = None; deferred = false }

abbrev field_of : ℕ → List ℕ → FieldInfo
field_of c name = record { class = c; name = name; descriptor = codes "I"; flags = 1; slot = 0; constant = 0 }

-- 0 is Object. 1 is an interface with a default m, 2 one below it with another, 3 one apart with a third, and 4 one with
-- an abstract m. Class 5 implements 1 and 2, class 6 implements 1 and 3, class 7 implements 4. Below class 5, class 8
-- has an abstract m, class 9 a private one and class 10 a static one.
abbrev program : Linked
program = record {
  classes =
      class_of 0 1 [] [] (0 ∷ [])
      ∷ interface_of 1 []
      ∷ interface_of 2 (1 ∷ [])
      ∷ interface_of 3 []
      ∷ interface_of 4 []
      ∷ class_of 5 1 (0 ∷ []) (1 ∷ 2 ∷ []) (5 ∷ 1 ∷ 2 ∷ 0 ∷ [])
      ∷ class_of 6 1 (0 ∷ []) (1 ∷ 3 ∷ []) (6 ∷ 1 ∷ 3 ∷ 0 ∷ [])
      ∷ class_of 7 1 (0 ∷ []) (4 ∷ []) (7 ∷ 4 ∷ 0 ∷ [])
      ∷ class_of 8 1 (5 ∷ 0 ∷ []) (1 ∷ 2 ∷ []) (8 ∷ 5 ∷ 1 ∷ 2 ∷ 0 ∷ [])
      ∷ class_of 9 1 (5 ∷ 0 ∷ []) (1 ∷ 2 ∷ []) (9 ∷ 5 ∷ 1 ∷ 2 ∷ 0 ∷ [])
      ∷ class_of 10 1 (5 ∷ 0 ∷ []) (1 ∷ 2 ∷ []) (10 ∷ 5 ∷ 1 ∷ 2 ∷ 0 ∷ [])
      ∷ [];
  methods =
      method_of 1 m 0x0001
      ∷ method_of 2 m 0x0001
      ∷ method_of 3 m 0x0001
      ∷ method_of 4 m 0x0401
      ∷ method_of 8 m 0x0401
      ∷ method_of 9 m 0x0002
      ∷ method_of 10 m 0x0009
      ∷ method_of 0 (codes "<init>") 0x0001
      ∷ [];
  fields = field_of 1 (codes "f") ∷ field_of 0 (codes "f") ∷ [];
  statics = [];
  file_methods = [];
  main = 0;
  pools = [];
}

-- RESOLUTION

no_class_there : resolve_class program (11 ∷ []) ≡ Err NoClassDefFound
no_class_there = refl

-- a superinterface comes before the superclass (JVMS 5.4.3.2)
field_of_interface : resolve_field program 8 (codes "f") (codes "I") ≡ Ok 0
field_of_interface = refl

no_field_there : resolve_field program 8 (codes "g") (codes "I") ≡ Err NoSuchField
no_field_there = refl

-- the method of the lower interface hides that of the upper (5.4.3.3)
lower_hides : resolve_method program 5 false m v ≡ Ok 1
lower_hides = refl

-- of two that are maximally specific the first is found
first_of_two : resolve_method program 6 false m v ≡ Ok 0
first_of_two = refl

-- a class comes before its interfaces, whatever it declares
class_first : resolve_method program 10 false m v ≡ Ok 6
class_first = refl

no_method_there : resolve_method program 0 false m v ≡ Err NoSuchMethod
no_method_there = refl

interface_as_class : resolve_method program 1 false m v ≡ Err IncompatibleClassChange
interface_as_class = refl

class_as_interface : resolve_method program 5 true m v ≡ Err IncompatibleClassChange
class_as_interface = refl

abstract_is_resolved : resolve_method program 4 true m v ≡ Ok 3
abstract_is_resolved = refl

-- SELECTION

-- two default methods of one name, and one of a common subinterface (6.5, invokeinterface)
diamond : select program 6 0 true ≡ Err IncompatibleClassChange
diamond = refl

subinterface_decides : select program 5 0 true ≡ Ok 1
subinterface_decides = refl

no_body_above : select program 7 3 true ≡ Err AbstractMethod
no_body_above = refl

abstract_is_refused : select program 8 0 true ≡ Err AbstractMethod
abstract_is_refused = refl

private_is_passed_over : select program 9 0 true ≡ Ok 1
private_is_passed_over = refl

static_is_passed_over : select program 10 0 true ≡ Ok 1
static_is_passed_over = refl

-- a private method is itself entered by invokevirtual, and refused by invokeinterface
private_is_entered : select program 9 5 false ≡ Ok 5
private_is_entered = refl

private_by_interface : select program 9 5 true ≡ Err IncompatibleClassChange
private_by_interface = refl

-- the receiver doesn't implement the interface
outsider : select program 0 0 true ≡ Err IncompatibleClassChange
outsider = refl

-- INVOKESPECIAL

-- super.m() in class 9 begins at class 5
above_current : select_special program 9 5 0 ≡ Ok 1
above_current = refl

-- I.super.m() in class 6 begins at the interface
at_interface : select_special program 6 3 2 ≡ Ok 2
at_interface = refl

-- a private method of the class itself
own_private : select_special program 9 9 5 ≡ Ok 5
own_private = refl

own_constructor : select_special program 5 0 7 ≡ Ok 7
own_constructor = refl

-- a constructor isn't inherited
inherited_constructor : select_special program 9 5 7 ≡ Err NoSuchMethod
inherited_constructor = refl

-- SUBCLASSES

of_itself : is_subclass program 5 5 ≡ true
of_itself = refl

of_interface_above : is_subclass program 8 1 ≡ true
of_interface_above = refl

not_apart : is_subclass program 5 3 ≡ false
not_apart = refl
