-- OF WHICH CLASS FILES A PROGRAM WAS LINKED.
use Rattle.std.specs.Prelude.{ℕ, ◌<◌, List, length, map, All}
use Rattle.et_base.specs.Numbers.{AreBytes}
use Rattle.et_class.specs.Classes.{IsClassFile}
use Rattle.et_class.specs.Layout.{ClassOf}
use Rattle.et_program.specs.Entries.{Linked}
use Rattle.et_program.specs.Loaded.{loaded_class}
use Rattle.et_program.specs.LinkFaults.{IsLinkable}
use Rattle.et_program.specs.ProgramOf.{IsProgramOf}

-- the class is that of a class file
pub record IsOfFile (c : ClassOf) : Type 0 where
  pub bytes : List ℕ
  pub are_bytes : AreBytes bytes
  pub is : IsClassFile bytes c

-- the program is that of one class file or more, and none of their classes shows a fault
pub record IsLinked (p : Linked) : Type 0 where
  pub classes : List ClassOf
  pub some : 0 < length classes
  pub of_files : All IsOfFile classes
  pub linkable : IsLinkable (map loaded_class classes)
  pub program : IsProgramOf (map loaded_class classes) p
