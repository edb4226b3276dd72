use Rattle.std.proofs.Common.{sym}
use Rattle.et_graph.proofs.objects.write_each.Goals as goal

pub place_of-place-requires : goal.place_of-place-requires
place_of-place-requires c = c.requires c.object-item.result (c.loop-object.object-index, c.loop-object-test.true, sym c.object-item.is)
