-- WHAT IS KEPT OF EACH CLASS BESIDE ITS MEMBERS.
use Rattle.std.specs.Prelude.{ℕ, Bool, not, ◌==◌, ◌&&◌, List, Option, codes, is_some}
use Rattle.std.specs.List.{list_any, position_from}
use Rattle.std.specs.Str.{bytes_eq}
use Rattle.et_class.specs.Names.{has}
use Rattle.et_class.specs.declared.flags.TheConstants.{STATIC, ABSTRACT}
use Rattle.et_program.specs.declared.info.MethodInfo.{MethodInfo}
use Rattle.et_program.specs.declared.info.FieldInfo.{FieldInfo}
use Rattle.et_program.specs.Slots.{places_from}

-- a method that makes its interface be initialized (5.5): it is neither abstract nor static, and isn't <clinit> itself
abbrev pub is_run_first : MethodInfo → Bool
is_run_first m = not (has m.flags ABSTRACT) && (not (has m.flags STATIC) && not (bytes_eq m.name (codes "<clinit>")))

-- class k declares such a method
abbrev pub has_to_run : List MethodInfo → ℕ → Bool
has_to_run methods k = list_any (λ (m : MethodInfo). (m.class == k) && is_run_first m) methods

-- <clinit> ()V with code (2.9); its flags aren't looked at
abbrev pub is_initializer : MethodInfo → Bool
is_initializer m = bytes_eq m.name (codes "<clinit>") && (bytes_eq m.descriptor (codes "()V") && is_some m.code)

abbrev pub initializer_of : List MethodInfo → ℕ → Option ℕ
initializer_of methods k = position_from (λ (m : MethodInfo). (m.class == k) && is_initializer m) 0 methods

-- the field has a ConstantValue (4.7.2)
abbrev pub has_constant : FieldInfo → Bool
has_constant f = not (f.constant == 0)

abbrev pub constants_of : List FieldInfo → ℕ → List ℕ
constants_of fields k = places_from (λ (f : FieldInfo). (f.class == k) && has_constant f) 0 fields
