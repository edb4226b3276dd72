use Rattle.std.proofs.Common.{◌≡◌, ◌++◌, map, take}
use Rattle.et_boot.specs.Classes.{BootClassOf}
use Rattle.et_program.specs.Loaded.{LoadedClass, loaded_file}
use Rattle.et_program.specs.Files.{boots}
use Rattle.et_link.proofs.members.outlines.class_flags.Given as goal

abbrev pub invariant-loop-file : goal.invariant-loop-file
invariant-loop-file l = l.flags.items ≡ map (λ (c : BootClassOf). c.flags) boots ++ map (λ (c : LoadedClass). c.flags) (map loaded_file (take l.file-index l.files))
