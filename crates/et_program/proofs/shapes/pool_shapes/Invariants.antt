use Rattle.et_program.proofs.ShapeLemmas.{Kept}
use Rattle.et_program.proofs.shapes.pool_shapes.Given as goal

abbrev pub invariant-loop-index : goal.invariant-loop-index
invariant-loop-index l = Kept l.pool.slots l.index l.shapes.items
