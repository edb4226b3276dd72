use Rattle.std.proofs.Common.{◌≡◌, ◌+◌, ◌-◌, ◌*◌, ◌≤◌, ◌++◌, [], length, take, drop, false}
use Rattle.std.specs.List.{flat_map}
use Rattle.et_asm.specs.Order.{lines_of_body}
use Rattle.et_asm.proofs.order.body_of.Given as goal

abbrev pub invariant-loop-i : goal.invariant-loop-i
invariant-loop-i l = lines_of_body l.lines ≡ take l.i l.lines ++ lines_of_body (drop l.i l.lines)
