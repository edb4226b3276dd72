use Rattle.std.proofs.Common.{◌≡◌, ◌+◌, ◌-◌, ◌*◌, ◌<◌, ◌≤◌, ◌^◌, ◌++◌, [], length, take, drop, false, None}
use Rattle.std.specs.List.{flat_map}
use Rattle.et_asm.specs.Symbols.{places}
use Rattle.et_asm.specs.Code.{offset4}
use Rattle.et_asm.proofs.instruction.put_offsets.Given as goal

abbrev pub invariant-loop-name : goal.invariant-loop-name
invariant-loop-name l = l.out.items ≡ l.initial.out.items ++ flat_map (offset4 (places l.labels.entries) l.at) (take l.name-index l.names)
