use Rattle.std.proofs.Common.{ap, sym, ◌∙◌}
use Rattle.et_heap.specs.Objects.{slot_count}
use Rattle.et_heap.proofs.States.{slots-shown}
use Rattle.et_heap.proofs.heap.Heap.slots.Goals as goal

pub returns-clause-value : goal.returns-clause-value
returns-clause-value c = c.slots.ensures.value ∙ (sym (slots-shown c.self.inside.store) ∙ ap slot_count c.self.view_is)
