use Rattle.std.proofs.Common.{◌≡◌, take}
use Rattle.et_part_tests.proofs.graphs.objects.Given as goal

abbrev pub invariant-loop-number : goal.invariant-loop-number
invariant-loop-number l = l.objects.items ≡ take l.number-index l.numbers
