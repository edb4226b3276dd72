use Rattle.std.proofs.Common.{[], length, ap, arith}
use Rattle.et_strings.proofs.rewriting.units_with.Goals as goal

pub overflow_sub-result : goal.overflow_sub-result
overflow_sub-result c = omega (arith, c.units.ensures.given c.args.object [], c.units.ensures.value, ap length c.get.ensures)
