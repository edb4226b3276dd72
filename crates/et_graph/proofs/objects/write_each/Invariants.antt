-- What is left to set gives the whole.
use Rattle.std.proofs.Common.{◌≡◌, drop}
use Rattle.et_graph.specs.Times.{set_each}
use Rattle.et_graph.proofs.objects.write_each.Given as goal

abbrev pub invariant-loop-object : goal.invariant-loop-object
invariant-loop-object l = set_each (drop l.object-index l.objects) l.time l.entries ≡ set_each l.objects l.time l.fn.entries
