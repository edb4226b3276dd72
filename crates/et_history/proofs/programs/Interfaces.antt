-- The fields of interfaces.
use Rattle.std.specs.Prelude.{◌≡◌, ℕ, ◌<◌, false, length}
use Rattle.et_class.specs.Names.{has}
use Rattle.et_class.specs.declared.flags.TheConstants.{STATIC}
use Rattle.et_program.specs.Entries.{Linked, field_at}
use Rattle.et_program.specs.Members.{is_above}

-- no superinterface of a class declares a field of instances: those of an interface are static (JVMS 4.5)
abbrev pub HaveStaticFields : Linked → Type 0
HaveStaticFields p = (c f : ℕ) → f < length p.fields → has (field_at p f).flags STATIC ≡ false → is_above p (field_at p f).class c ≡ false
