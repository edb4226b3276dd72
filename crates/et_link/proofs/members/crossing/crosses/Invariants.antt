use Rattle.std.proofs.Common.{◌≡◌, drop}
use Rattle.std.specs.List.{list_any}
use Rattle.et_link.specs.Crossing.{hides}
use Rattle.et_link.proofs.members.crossing.crosses.Given as goal

abbrev pub invariant-loop-class : goal.invariant-loop-class
invariant-loop-class l = list_any (hides l.set l.methods l.method) (drop l.class-index l.class-items) ≡ list_any (hides l.set l.methods l.method) l.class-items
