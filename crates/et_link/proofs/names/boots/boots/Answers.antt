use Rattle.std.proofs.Common.{arith}
use Rattle.et_program.specs.Files.{boots}
use Rattle.et_link.proofs.names.boots.boots.Goals as goal

pub returns-clause-count : goal.returns-clause-count
unfolding boots
returns-clause-count c = c.boot_count.ensures

pub returns-clause-few : goal.returns-clause-few
returns-clause-few c = omega (arith, c.boot_count.ensures)
