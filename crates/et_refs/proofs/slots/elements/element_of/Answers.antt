use Rattle.std.proofs.Common.{arith}
use Rattle.et_refs.proofs.Reading.{class_within}
use Rattle.et_refs.proofs.slots.elements.element_of.Goals as goal

pub class-requires : goal.class-requires
class-requires g c = omega (arith, class_within c.args.program.now c.args.heap.now c.args.object c.requires.sound c.requires.held, c.class_of-class.ensures.value)
