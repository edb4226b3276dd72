use Rattle.std.proofs.Common.{◌≡◌, ◌+◌, ◌*◌, length, drop}
use Rattle.et_base.specs.Marks.{first_from}
use Rattle.et_code.specs.Rules.{flag, rows_marks}
use Rattle.et_code.proofs.check.check_rows.Given as goal

abbrev pub invariant-loop-row : goal.invariant-loop-row
invariant-loop-row l = record {
  place : l.place ≡ length l.body.code.items + 6 + l.row-index * 8;
  found : first_from l.found (rows_marks (length l.body.code.items) l.tags (flag l.flags) l.place (drop l.row-index l.body.table.items))
      ≡ first_from l.fn.first (rows_marks (length l.body.code.items) l.tags (flag l.flags) (length l.body.code.items + 6) l.body.table.items);
}
