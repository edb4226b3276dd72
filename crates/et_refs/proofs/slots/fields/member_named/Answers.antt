use Rattle.std.proofs.Common.{List, ap}
use Rattle.std.specs.Prelude.{Option}
use Rattle.et_class.specs.Entries.{Item}
use Rattle.et_program.specs.Referring.{member_described}
use Rattle.et_program.proofs.PoolLemmas.{no_slots}
use Rattle.et_refs.proofs.slots.fields.member_named.Goals as goal

pub returns-in-None : goal.returns-in-None
returns-in-None c = ap (λ (s : List (Option Item)). member_described s c.args.index) (no_slots c.args.program.now c.args.class c.in-None.ensures)
