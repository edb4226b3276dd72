use Rattle.std.proofs.Common.{ap, ◌∙◌}
use Rattle.et_heap.specs.Refs.{leads_to}
use Rattle.et_heap.proofs.States.{there, shows, all-there}
use Rattle.et_heap.proofs.heap.Heap.refs_of.Goals as goal

pub of-requires : goal.of-requires
of-requires g c = record {
  linked = c.self.invariant;
  stored = there _ _ _ c.self.view_is c.requires.held;
  whole = all-there _ _ c.args.o c.self.view_is c.requires.whole;
}

pub returns-clause-value : goal.returns-clause-value
returns-clause-value g c = c.of.ensures ∙ ap leads_to (shows _ _ c.args.o c.self.view_is)
