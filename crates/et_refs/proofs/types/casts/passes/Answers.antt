use Rattle.std.proofs.Common.{arith}
use Rattle.et_refs.proofs.Reading.{class_within}
use Rattle.et_refs.proofs.types.casts.passes.Goals as goal

pub passes-requires-clause-low : goal.passes-requires-clause-low
passes-requires-clause-low g c = omega (arith, class_within c.args.program.now c.args.heap.now c.args.object c.requires.sound c.requires.held, c.class_of-low.ensures.value)
