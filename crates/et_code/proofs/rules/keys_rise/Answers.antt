use Rattle.std.proofs.Common.{◌≡◌, ◌+◌, ◌*◌, true, false, rules, arith}
use Rattle.std.specs.Prelude.{int_lt}
use Rattle.et_code.specs.Decoding.{bits_at, code_word_at}
use Rattle.et_code.proofs.Ruled.{keys_stop, keys_next, keys_end}
use Rattle.et_code.proofs.rules.keys_rise.Goals as goal

pub returns-then-not-is_below : goal.returns-then-not-is_below
returns-then-not-is_below c =
    let at = c.args.table + 8 + c.loop-pair.pair * 8 in
    let head : int_lt (code_word_at c.args.code.now at) (code_word_at c.args.code.now (at + 8)) ≡ false = search rules in
    keys_stop c.args.code.now (bits_at c.args.code.now (c.args.table + 4)) c.loop-pair.pair at _ (omega arith) c.loop-pair.invariant head

pub loop-pair-preserved : goal.loop-pair-preserved
loop-pair-preserved c =
    let at = c.args.table + 8 + c.loop-pair.pair * 8 in
    let head : int_lt (code_word_at c.args.code.now at) (code_word_at c.args.code.now (at + 8)) ≡ true = search rules in
    keys_next c.args.code.now (bits_at c.args.code.now (c.args.table + 4)) c.loop-pair.pair at _ _ (omega arith) c.loop-pair.invariant head (omega arith)

pub returns : goal.returns
returns c =
    keys_end c.args.code.now (bits_at c.args.code.now (c.args.table + 4)) c.loop-pair.pair _ _ (omega arith) c.loop-pair.invariant
