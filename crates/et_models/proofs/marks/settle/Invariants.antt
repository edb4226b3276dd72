use Rattle.std.proofs.Common.{take}
use Rattle.et_models.specs.Places.{AreCollected}
use Rattle.et_models.proofs.marks.settle.Given as goal

abbrev pub invariant-loop-object : goal.invariant-loop-object
invariant-loop-object l = AreCollected (take l.object-index l.objects) l.fn.places l.places
