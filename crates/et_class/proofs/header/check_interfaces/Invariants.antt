use Rattle.et_class.specs.Layout.{u2}
use Rattle.et_class.specs.Rules.{interface_marks}
use Rattle.et_class.proofs.Along.{Looked}
use Rattle.et_class.proofs.header.check_interfaces.Given as goal

abbrev pub invariant-interfaces : goal.invariant-interfaces
invariant-interfaces l = Looked (λ n. n) u2 (interface_marks l.pool.slots) l.fn.first l.found l.interfaces l.start l.index-index l.place
