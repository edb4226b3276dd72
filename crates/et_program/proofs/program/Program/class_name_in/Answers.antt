use Rattle.std.proofs.Common.{List, ap}
use Rattle.et_class.specs.Entries.{Item}
use Rattle.std.specs.Prelude.{Option}
use Rattle.et_class.specs.Looks.{class_name_at}
use Rattle.et_program.proofs.PoolLemmas.{no_slots}
use Rattle.et_program.proofs.program.Program.class_name_in.Goals as goal

pub returns-in-None : goal.returns-in-None
returns-in-None c = ap (λ (s : List (Option Item)). class_name_at s c.args.index) (no_slots c.args.self.now c.args.class c.in-None.ensures)
