use Rattle.std.proofs.Common.{◌≡◌, true, take}
use Rattle.std.specs.Prelude.{pos, int_le}
use Rattle.std.specs.List.{list_all}
use Rattle.et_refs.proofs.arrays.lengths.are_lengths.Given as goal

abbrev pub invariant-loop-k : goal.invariant-loop-k
invariant-loop-k l = list_all (int_le (pos 0)) (take l.k l.lengths) ≡ true
