use Rattle.std.proofs.Common.{length, ap, sym, ◌∙◌}
use Rattle.et_heap.proofs.States.{length-shown}
use Rattle.et_heap.proofs.heap.Heap.count.Goals as goal

pub returns-clause-value : goal.returns-clause-value
returns-clause-value c = c.count.ensures.value ∙ (sym (length-shown c.self.inside.store) ∙ ap length c.self.view_is)
