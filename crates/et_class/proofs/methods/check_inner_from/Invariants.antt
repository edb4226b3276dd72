use Rattle.std.proofs.Common.{◌≡◌, ◌-◌}
use Rattle.et_class.specs.Kept.{inner_from}
use Rattle.et_class.proofs.methods.check_inner_from.Given as goal

abbrev pub invariant-loop : goal.invariant-loop
invariant-loop l = inner_from l.pool.slots l.found l.place l.bytes (l.count - l.counter) l.at ≡ inner_from l.pool.slots l.fn.first l.place l.bytes l.count l.start
