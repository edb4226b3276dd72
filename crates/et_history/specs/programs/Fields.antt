-- What holds of the fields of a class file (JVMS 4.5, 4.7.2).
use Rattle.std.specs.Prelude.{◌≡◌, true, false, ◌==◌, All, Some}
use Rattle.et_class.specs.Names.{has}
use Rattle.et_class.specs.declared.flags.TheConstants.{STATIC, INTERFACE}
use Rattle.et_event.specs.Operands.{operand_kind}
use Rattle.et_event.specs.Sites.{LoadedConstant, constant_at}
use Rattle.et_event.specs.Sound.{is_of_kind}
use Rattle.et_program.specs.Loaded.{LoadedClass, LoadedMember}
use Rattle.et_program.specs.MembersOf.{pool_text}
use Rattle.et_event.specs.Programs.{value_like}

-- those of an interface are static (4.5)
abbrev pub HasStaticFields : LoadedClass → Type 0
HasStaticFields c = has c.flags INTERFACE ≡ true → All (λ (f : LoadedMember). has f.flags STATIC ≡ true) c.fields

-- those that have a constant are static ..
abbrev pub HasStaticConstants : LoadedClass → Type 0
HasStaticConstants c = All (λ (f : LoadedMember). (f.constant == 0) ≡ false → has f.flags STATIC ≡ true) c.fields

-- .. and of its type (4.7.2)
abbrev pub HasTypedConstants : LoadedClass → Type 0
HasTypedConstants c = All (λ (f : LoadedMember). (k : LoadedConstant) → (f.constant == 0) ≡ false → constant_at c.pool.slots f.constant ≡ Some k → is_of_kind (operand_kind (pool_text c.pool.slots f.descriptor)) (value_like k) ≡ true) c.fields

-- all of it
pub record KeepsFieldRules (c : LoadedClass) : Type 0 where
  pub interface : HasStaticFields c
  pub constants : HasStaticConstants c
  pub types : HasTypedConstants c
