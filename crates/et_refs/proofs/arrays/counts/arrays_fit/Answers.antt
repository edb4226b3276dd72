use Rattle.std.proofs.Common.{sym, ◌∙◌}
use Rattle.et_event.specs.Heap.{naturals}
use Rattle.et_refs.proofs.Making.{made_fits}
use Rattle.et_refs.proofs.arrays.counts.arrays_fit.Goals as goal

pub returns : goal.returns
returns c = λ e class d same. c.arrays_have_room.ensures.room ∙ sym (made_fits e class (naturals c.args.lengths.now) d c.args.machine.now.heap same c.arrays_have_room.ensures.some)
