use Rattle.std.proofs.Common.{◌≡◌, map, take}
use Rattle.et_program.specs.Files.{name_of}
use Rattle.et_link.proofs.members.outlines.names_at.Given as goal

abbrev pub invariant-loop-index : goal.invariant-loop-index
invariant-loop-index l = l.names.items ≡ map (name_of l.pool.slots) (take l.index-index l.indices)
