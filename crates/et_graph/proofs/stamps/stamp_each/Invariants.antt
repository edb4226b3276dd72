use Rattle.std.proofs.Common.{take}
use Rattle.et_graph.proofs.Stamping.{IsEach}
use Rattle.et_graph.proofs.stamps.stamp_each.Given as goal

abbrev pub invariant-each : goal.invariant-each
invariant-each l = IsEach l.fn.stamps l.stamps (take l.object-index l.objects) l.event
