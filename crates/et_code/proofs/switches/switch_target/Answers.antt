use Rattle.et_code.proofs.Switched.{switch_fits, is_lookup}
use Rattle.et_code.proofs.switches.switch_target.Goals as goal

pub in_table-requires : goal.in_table-requires
in_table-requires c = (switch_fits c.args.code.now c.args.instr.now c.requires).table c.if-instr.true

pub in_pairs-requires : goal.in_pairs-requires
in_pairs-requires c = (switch_fits c.args.code.now c.args.instr.now c.requires).lookup (is_lookup c.args.code.now c.args.instr.now c.requires c.if-instr.false)
