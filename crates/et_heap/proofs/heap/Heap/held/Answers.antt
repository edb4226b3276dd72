use Rattle.std.proofs.Common.{ap, sym, ◌∙◌}
use Rattle.et_heap.specs.Objects.{held_count}
use Rattle.et_heap.proofs.States.{count-shown}
use Rattle.et_heap.proofs.heap.Heap.held.Goals as goal

pub returns : goal.returns
returns c = c.held.ensures ∙ (sym (count-shown c.self.inside.store) ∙ ap held_count c.self.view_is)
