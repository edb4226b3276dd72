use Rattle.std.proofs.Common.{◌≡◌, take}
use Rattle.et_hierarchy.proofs.lists.numbers_of.Given as goal

abbrev pub invariant-loop-class : goal.invariant-loop-class
invariant-loop-class l = l.numbers.items ≡ take l.class-index l.classes
