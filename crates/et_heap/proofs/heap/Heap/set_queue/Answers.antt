use Rattle.std.proofs.Common.{refl, ap, ◌∙◌}
use Rattle.et_heap.specs.Objects.{with_queue, referent_of, referent_value}
use Rattle.et_heap.proofs.States.{there, shows, shown_written}
use Rattle.et_heap.proofs.Changes.{written_seen}
use Rattle.et_heap.proofs.heap.Heap.set_queue.Goals as goal

pub set_queue-requires : goal.set_queue-requires
set_queue-requires g c = there _ _ _ c.self.view_is c.requires

pub returns-clause-old : goal.returns-clause-old
returns-clause-old g c = c.set_queue.ensures.old ∙ ap (λ x. referent_value x.queue) (shows _ _ c.args.o c.self.view_is)

pub returns-clause-new : goal.returns-clause-new
returns-clause-new g c = shown_written (with_queue (referent_of c.args.v)) _ _ _ c.args.o c.self.view_is c.set_queue.ensures.new

pub invariant_of-self : goal.invariant_of-self
invariant_of-self g c = written_seen (with_queue (referent_of c.args.v)) _ _ _ c.args.o c.self.view_is c.requires c.set_queue.ensures.new (λ x. refl) (λ x. refl) c.self.invariant
