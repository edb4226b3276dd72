use Rattle.std.proofs.Common.{◌≡◌, ◌≤◌, List, Result, length, map, take, drop, string_bytes}
use Rattle.std.specs.Prelude.{All}
use Rattle.et_io.specs.Files.{Held}
use Rattle.et_class.specs.Layout.{ClassOf}
use Rattle.et_class.specs.Classes.{class_of, HasItsParts}
use Rattle.et_files.specs.Faults.{Fault}
use Rattle.et_link.specs.Declaring.{HasItsFile}
use Rattle.et_files.specs.Loaded.{most_of_class, AreClassesOf}
use Rattle.et_files.specs.Reads.{HoldsClass}
use Rattle.et_files.proofs.Found.{AreBehind}
use Rattle.et_files.proofs.ReadLemmas.{ReadSoFar}
use Rattle.et_files.proofs.classes.load_classes.Given as goal

abbrev pub invariant-paths : goal.invariant-paths
invariant-paths g l = record {
  tells : (held : Held) → g.F.Files.agrees l.files (g.F.Files.asked l.fn.files) held → (classes : Result (List ClassOf) Fault) → AreClassesOf (map held (map string_bytes l.paths)) classes → AreBehind (map class_of l.classes.items) (map held (map string_bytes (drop l.path-index l.paths))) classes;
  never_falls : g.F.Files.faults l.fn.files ≤ g.F.Files.faults l.files;
  faults : g.F.Files.faults l.files ≡ g.F.Files.faults l.fn.files;
  asked : ReadSoFar (g.F.Files.asked l.fn.files) (g.F.Files.asked l.files) most_of_class (take l.path-index (map string_bytes l.paths));
  good : (held : Held) → g.F.Files.agrees l.files (g.F.Files.asked l.fn.files) held → All (HoldsClass held) (take l.path-index (map string_bytes l.paths));
  count : length l.classes.items ≡ l.path-index;
  parts : All HasItsParts l.classes.items;
  of_files : All HasItsFile l.classes.items;
}
