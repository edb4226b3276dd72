use Rattle.std.proofs.Common.{ap, sym, ◌∙◌}
use Rattle.et_heap.specs.Objects.{referent_count}
use Rattle.et_heap.proofs.States.{referents-shown}
use Rattle.et_heap.proofs.heap.Heap.referents.Goals as goal

pub returns : goal.returns
returns c = c.referents.ensures ∙ (sym (referents-shown c.self.inside.store) ∙ ap referent_count c.self.view_is)
