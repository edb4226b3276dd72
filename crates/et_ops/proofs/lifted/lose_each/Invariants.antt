use Rattle.std.proofs.Common.{◌≡◌, take}
use Rattle.et_state.specs.Words.{losing}
use Rattle.et_ops.proofs.lifted.lose_each.Given as goal

abbrev pub invariant-each : goal.invariant-each
invariant-each l = l.machine ≡ losing l.fn.machine (take l.object-index l.objects)
