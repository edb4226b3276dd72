use Rattle.std.proofs.Common.{◌+◌, ◌*◌, sym, ◌∙◌, arith}
use Rattle.et_code.specs.Decoding.{code_word_at}
use Rattle.et_code.proofs.Switched.{beside_this, beside_next, beside_none}
use Rattle.et_code.proofs.switches.place_of_offset.Goals as goal

pub returns-then-bits-key-clause-chosen : goal.returns-then-bits-key-clause-chosen
returns-then-bits-key-clause-chosen c =
    beside_this c.args.code.now c.args.key c.args.count c.loop-i.i (c.args.table + 8 + c.loop-i.i * 8) (c.args.table + 8) (omega arith) c.loop-i.invariant (sym c.bits.ensures ∙ c.if-bits-key.true) (code_word_at c.args.code.now c.args.table)

pub loop-i-preserved : goal.loop-i-preserved
loop-i-preserved c =
    beside_next c.args.code.now c.args.key c.args.count c.loop-i.i (c.args.table + 8 + c.loop-i.i * 8) (c.args.table + 8) _ (omega arith) c.loop-i.invariant (λ e. c.if-bits-key.false (c.bits.ensures ∙ e)) (omega arith)

pub returns-clause-chosen : goal.returns-clause-chosen
returns-clause-chosen c =
    beside_none c.args.code.now c.args.key c.args.count c.loop-i.i (c.args.table + 8 + c.loop-i.i * 8) (c.args.table + 8) (omega arith) c.loop-i.invariant (code_word_at c.args.code.now c.args.table)
