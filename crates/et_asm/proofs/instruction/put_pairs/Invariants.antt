use Rattle.std.proofs.Common.{◌≡◌, ◌++◌, length}
use Rattle.std.specs.List.{flat_map}
use Rattle.et_listing.specs.Lines.{pairs}
use Rattle.et_asm.specs.Symbols.{places}
use Rattle.et_asm.specs.Code.{pair_bytes}
use Rattle.et_asm.proofs.instruction.put_pairs.Given as goal

abbrev pub invariant-loop-rest : goal.invariant-loop-rest
invariant-loop-rest l =
    l.out.items ++ flat_map (pair_bytes (places l.labels.entries) l.at) (pairs l.rest) ≡ l.initial.out.items ++ flat_map (pair_bytes (places l.labels.entries) l.at) (pairs l.words)

abbrev pub decreases-loop-rest : goal.decreases-loop-rest
decreases-loop-rest l = length l.rest
