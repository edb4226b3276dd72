use Rattle.et_program.specs.Order.{keys_of}
use Rattle.et_program.proofs.OrderLemmas.{IsListed}
use Rattle.et_program.proofs.tables.order.Order.of.Given as goal

abbrev pub invariant-loop-number : goal.invariant-loop-number
invariant-loop-number l = IsListed (keys_of l.table) l.entries.items l.number
