use Rattle.std.proofs.Common.{◌≡◌, ◌+◌, ◌*◌, Bool, true, false, pos, ◌+ℤ◌, rules, arith}
use Rattle.std.specs.Prelude.{ℤ}
use Rattle.et_code.specs.Decoding.{code_word_at}
use Rattle.et_code.specs.Rules.{flag, passes_test}
use Rattle.et_code.proofs.Ruled.{pairs_stop, pairs_next, pairs_end}
use Rattle.et_code.proofs.rules.pairs_have_targets.Goals as goal

pub returns-then-not-is_flagged : goal.returns-then-not-is_flagged
returns-then-not-is_flagged c =
    let p : ℤ → Bool = λ offset. passes_test (flag c.args.flags.now) (pos c.args.pc +ℤ offset) in
    let at = c.args.table + 8 + c.loop-pair.pair * 8 in
    let head : p (code_word_at c.args.code.now (at + 4)) ≡ false = search rules in
    pairs_stop p c.args.code.now c.bits-pair-end.result c.loop-pair.pair at _ (omega arith) c.loop-pair.invariant head

pub loop-pair-preserved : goal.loop-pair-preserved
loop-pair-preserved c =
    let p : ℤ → Bool = λ offset. passes_test (flag c.args.flags.now) (pos c.args.pc +ℤ offset) in
    let at = c.args.table + 8 + c.loop-pair.pair * 8 in
    let head : p (code_word_at c.args.code.now (at + 4)) ≡ true = search rules in
    pairs_next p c.args.code.now c.bits-pair-end.result c.loop-pair.pair at _ _ (omega arith) c.loop-pair.invariant head (omega arith)

pub returns : goal.returns
returns c =
    let p : ℤ → Bool = λ offset. passes_test (flag c.args.flags.now) (pos c.args.pc +ℤ offset) in
    pairs_end p c.args.code.now c.bits-pair-end.result c.loop-pair.pair _ _ (omega arith) c.loop-pair.invariant
