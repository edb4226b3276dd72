use Rattle.std.specs.Prelude.{All}
use Rattle.et_class.specs.Classes.{HasItsParts}
use Rattle.et_link.specs.Declaring.{HasItsFile}
use Rattle.et_part_tests.proofs.links.read_all.Given as goal

abbrev pub invariant-sources : goal.invariant-sources
invariant-sources l = record {
  parts : All HasItsParts l.files.items;
  of_files : All HasItsFile l.files.items;
}
