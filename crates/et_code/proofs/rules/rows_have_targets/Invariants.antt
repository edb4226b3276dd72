use Rattle.std.proofs.Common.{◌≡◌, ◌+◌, ◌-◌, ◌*◌, pos, ◌+ℤ◌}
use Rattle.std.specs.List.{list_all}
use Rattle.et_code.specs.Switches.{rows_from, table_rows}
use Rattle.et_code.specs.Rules.{flag, passes_test}
use Rattle.et_code.proofs.rules.rows_have_targets.Given as goal

abbrev pub invariant-loop-row : goal.invariant-loop-row
invariant-loop-row l =
    list_all (λ offset. passes_test (flag l.flags) (pos l.pc +ℤ offset)) (rows_from l.code (l.row-end - l.row) (l.table + 12 + l.row * 4))
    ≡ list_all (λ offset. passes_test (flag l.flags) (pos l.pc +ℤ offset)) (table_rows l.code l.table)
