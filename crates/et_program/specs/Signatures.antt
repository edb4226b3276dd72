-- Where methods are looked for, and what calls read off their descriptors and their names.
use Rattle.std.specs.Prelude.{◌≡◌, ℕ, ◌<◌, List, length, map, codes}
use Rattle.std.specs.Str.{bytes_eq}
use Rattle.et_class.specs.Operands.{shape_in}
use Rattle.et_program.specs.declared.info.MethodInfo.{MethodInfo}
use Rattle.et_program.specs.declared.signatures.Signature.{Signature}
use Rattle.et_program.specs.declared.signatures.Sought.{Sought}
use Rattle.et_program.specs.declared.signatures.Sought.TheVariants.{Named, Like}
use Rattle.et_program.specs.Entries.{ClassEntry, Linked, method_at}
use Rattle.et_program.specs.BuiltIns.{built_in_of, is_deferred_in, text_method_in}
use Rattle.et_program.specs.Order.{KeyOf, method_key, place_of}

-- where the methods of the name and of the descriptor of a method stand, and what a call reads off the two
abbrev pub signature_of : List KeyOf → List (ℕ × ℕ) → List ClassEntry → MethodInfo → Signature
signature_of keys entries classes m = record {
  start = place_of keys entries (m.name, m.descriptor, 0);
  end = place_of keys entries (m.name, m.descriptor, length classes);
  shape = shape_in m.descriptor;
  built_in = built_in_of m;
  is_deferred = is_deferred_in classes m;
  text_method = text_method_in classes m;
  is_constructor = bytes_eq m.name (codes "<init>");
}

-- these are kept of each method at its number
abbrev pub AreSigned : List (ℕ × ℕ) → List ClassEntry → List MethodInfo → List Signature → Type 0
AreSigned entries classes methods signatures = signatures ≡ map (signature_of (map method_key methods) entries classes) methods

-- WHAT IS LOOKED FOR: a name and a descriptor, or those of a method

abbrev pub sought_name : Linked → Sought → List ℕ
sought_name p (Named name descriptor) = name.now
sought_name p (Like m) = (method_at p m).name

abbrev pub sought_descriptor : Linked → Sought → List ℕ
sought_descriptor p (Named name descriptor) = descriptor.now
sought_descriptor p (Like m) = (method_at p m).descriptor

-- the method is one of the program
abbrev pub IsSought : Linked → Sought → Type 0
IsSought p (Named name descriptor) = Unit {0}
IsSought p (Like m) = m < length p.methods
