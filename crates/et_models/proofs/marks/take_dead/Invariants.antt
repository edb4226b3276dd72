use Rattle.std.proofs.Common.{◌≡◌, take}
use Rattle.et_models.specs.Places.{without_dead}
use Rattle.et_models.proofs.marks.take_dead.Given as goal

abbrev pub invariant-loop-object : goal.invariant-loop-object
invariant-loop-object l = l.places ≡ without_dead l.dead (take l.object-index l.objects) l.fn.places
