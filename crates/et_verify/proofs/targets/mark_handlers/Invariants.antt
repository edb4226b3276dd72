-- The handlers so far are flagged.
use Rattle.std.proofs.Common.{take, map}
use Rattle.et_code.specs.declared.body.TableRow.{TableRow}
use Rattle.et_verify.specs.Targets.{KeepsFlags, AreFlagged}
use Rattle.et_verify.proofs.targets.mark_handlers.Given as goal

abbrev pub invariant-loop-row : goal.invariant-loop-row
invariant-loop-row l = record {
  kept : KeepsFlags l.fn.flags l.flags;
  marked : AreFlagged l.flags (map (λ (r : TableRow). r.handler) (take l.row-index l.table));
}
