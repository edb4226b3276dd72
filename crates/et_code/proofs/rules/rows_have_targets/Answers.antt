use Rattle.std.proofs.Common.{◌≡◌, ◌+◌, ◌*◌, Bool, true, false, pos, ◌+ℤ◌, rules, arith}
use Rattle.std.specs.Prelude.{ℤ}
use Rattle.et_code.specs.Decoding.{code_word_at}
use Rattle.et_code.specs.Rules.{flag, passes_test}
use Rattle.et_code.proofs.Ruled.{rows_stop, rows_next, rows_end}
use Rattle.et_code.proofs.rules.rows_have_targets.Goals as goal

pub returns-then-not-is_flagged : goal.returns-then-not-is_flagged
returns-then-not-is_flagged c =
    let p : ℤ → Bool = λ offset. passes_test (flag c.args.flags.now) (pos c.args.pc +ℤ offset) in
    let at = c.args.table + 12 + c.loop-row.row * 4 in
    let head : p (code_word_at c.args.code.now at) ≡ false = search rules in
    rows_stop p c.args.code.now c.row_count-row-end.result c.loop-row.row at _ (omega arith) c.loop-row.invariant head

pub loop-row-preserved : goal.loop-row-preserved
loop-row-preserved c =
    let p : ℤ → Bool = λ offset. passes_test (flag c.args.flags.now) (pos c.args.pc +ℤ offset) in
    let at = c.args.table + 12 + c.loop-row.row * 4 in
    let head : p (code_word_at c.args.code.now at) ≡ true = search rules in
    rows_next p c.args.code.now c.row_count-row-end.result c.loop-row.row at _ _ (omega arith) c.loop-row.invariant head (omega arith)

pub returns : goal.returns
returns c =
    let p : ℤ → Bool = λ offset. passes_test (flag c.args.flags.now) (pos c.args.pc +ℤ offset) in
    rows_end p c.args.code.now c.row_count-row-end.result c.loop-row.row _ _ (omega arith) c.loop-row.invariant
