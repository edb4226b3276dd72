-- What was added, and what is still to be added.
use Rattle.std.proofs.Common.{◌≡◌, ◌+◌, ◌-◌, ◌*◌, ◌++◌, map}
use Rattle.et_code.specs.Switches.{rows_from, table_rows}
use Rattle.et_event.specs.Sites.{target}
use Rattle.et_verify.proofs.leads.push_rows.Given as goal

abbrev pub invariant-loop-row : goal.invariant-loop-row
invariant-loop-row l =
    l.targets.items ++ map (target l.pc) (rows_from l.code (l.row-end - l.row) (l.table + 12 + l.row * 4)) ≡ l.fn.targets.items ++ map (target l.pc) (table_rows l.code l.table)
