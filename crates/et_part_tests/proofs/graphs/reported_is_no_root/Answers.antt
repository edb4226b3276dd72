use Rattle.std.proofs.Common.{refl, arith}
use Rattle.et_part_tests.proofs.graphs.reported_is_no_root.Goals as goal

pub returns : goal.returns
returns c = λ legal. (legal.draft.roots_held 2 (1, omega arith, refl)).1 (0, omega arith, refl)
