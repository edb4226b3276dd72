use Rattle.et_heap.proofs.States.{there}
use Rattle.et_heap.proofs.heap.Heap.queue.Goals as goal

pub object-requires : goal.object-requires
object-requires g c = there _ _ _ c.self.view_is c.requires
