-- A class as an instruction names it, with the entry of the pool that does.
use Rattle.std.specs.Prelude.{◌≡◌, ◌<◌, length, Some}
use Rattle.et_program.specs.Entries.{Linked}
use Rattle.et_program.specs.Referring.{class_referred}
use Rattle.et_program.specs.Resolution.{resolve_class}
use Rattle.et_refs.specs.declared.types.casts.NamedClass.{NamedClass}

-- the entry names the class
pub record IsNamedAt (p : Linked) (x : NamedClass) : Type 0 where
  pub class : x.class < length p.classes
  pub entry : class_referred p x.class x.index ≡ Some (resolve_class p x.name.now)
