use Rattle.std.proofs.Common.{length, arith}
use Rattle.et_code.specs.Rules.{flag}
use Rattle.et_code.proofs.Checked.{rows_next}
use Rattle.et_code.proofs.check.check_rows.Goals as goal

pub loop-row-preserved : goal.loop-row-preserved
loop-row-preserved c = record {
  place = omega arith;
  found = rows_next c.loop-row.found c.mark-found.result (length c.args.body.now.code.items) c.len-code_length.result c.args.tags.now (flag c.args.flags.now) c.loop-row.place c.args.body.now.table.items c.deref-row-items.result.now c.loop-row.row-index _ c.row_holds-holds.result _ c.deref-row-items.ensures.value (omega arith) (omega arith) c.row_holds-holds.ensures c.mark-found.ensures c.loop-row.invariant.found;
}
