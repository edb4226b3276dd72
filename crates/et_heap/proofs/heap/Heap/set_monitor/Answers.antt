use Rattle.std.proofs.Common.{refl, ap, ◌∙◌}
use Rattle.et_heap.specs.Objects.{with_monitor}
use Rattle.et_heap.proofs.States.{there, shows, shown_written}
use Rattle.et_heap.proofs.Changes.{written_seen}
use Rattle.et_heap.proofs.heap.Heap.set_monitor.Goals as goal

pub set_monitor-requires : goal.set_monitor-requires
set_monitor-requires g c = there _ _ _ c.self.view_is c.requires

pub returns-clause-old : goal.returns-clause-old
returns-clause-old g c = c.set_monitor.ensures.old ∙ ap (λ x. x.monitor) (shows _ _ c.args.o c.self.view_is)

pub returns-clause-new : goal.returns-clause-new
returns-clause-new g c = shown_written (with_monitor c.args.m) _ _ _ c.args.o c.self.view_is c.set_monitor.ensures.new

pub invariant_of-self : goal.invariant_of-self
invariant_of-self g c = written_seen (with_monitor c.args.m) _ _ _ c.args.o c.self.view_is c.requires c.set_monitor.ensures.new (λ x. refl) (λ x. refl) c.self.invariant
