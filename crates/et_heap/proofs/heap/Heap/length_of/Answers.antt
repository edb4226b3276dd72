use Rattle.std.proofs.Common.{ap, ◌∙◌}
use Rattle.et_heap.specs.Stored.{as_stored}
use Rattle.et_heap.proofs.States.{there, shows}
use Rattle.et_heap.proofs.heap.Heap.length_of.Goals as goal

pub object-requires : goal.object-requires
object-requires g c = there _ _ _ c.self.view_is c.requires

pub returns-clause-value : goal.returns-clause-value
returns-clause-value g c = c.length.ensures ∙ (ap (λ y. let x = (as_stored y).state in x.length) c.object.ensures ∙ ap (λ x. x.length) (shows _ _ c.args.o c.self.view_is))
