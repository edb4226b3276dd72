use Rattle.std.proofs.Common.{◌≡◌, take}
use Rattle.et_part_tests.proofs.graphs.pairs.Given as goal

abbrev pub invariant-loop-pair : goal.invariant-loop-pair
invariant-loop-pair l = l.pairs.items ≡ take l.pair-index l.numbers
