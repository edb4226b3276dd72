use Rattle.std.proofs.Common.{◌≡◌, ◌++◌, map, take}
use Rattle.et_program.specs.Loaded.{loaded_file}
use Rattle.et_program.specs.Files.{boots, boot_outline, file_outline}
use Rattle.et_link.proofs.members.outlines.outlines.Given as goal

abbrev pub invariant-loop-file : goal.invariant-loop-file
invariant-loop-file l = l.set.items ≡ map boot_outline boots ++ map file_outline (map loaded_file (take l.file-index l.files))
