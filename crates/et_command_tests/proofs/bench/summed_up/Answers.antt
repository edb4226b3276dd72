use Rattle.std.proofs.Common.{arith}
use Rattle.et_command_tests.proofs.bench.summed_up.Goals as goal

pub bench_run-requires : goal.bench_run-requires
bench_run-requires g c = record { choices = omega arith; size = c.requires.cells; turns = c.requires.rounds }
