use Rattle.std.proofs.Common.{◌≡◌, ◌+◌, ◌-◌, length, take, drop, ap, sym, ◌∙◌, arith, rules}
use Rattle.std.proofs.lemmas.Grind.{common_steps}
use Rattle.et_asm.specs.Order.{stage_of}
use Rattle.et_asm.specs.Pool.{line_uses, uses, pool}
use Rattle.et_asm.specs.Symbols.{entry_added, stage_uses}
use Rattle.et_asm.proofs.Stages.{stage_more}
use Rattle.et_asm.proofs.Added.{lines_more, lines_end}
use Rattle.et_asm.proofs.Once.{pool_once}
use Rattle.et_asm.proofs.uses.pool.Goals as goal

pub loop-i-init : goal.loop-i-init
loop-i-init c = record {
  stage = search rules;
  keys = ap (λ k. entry_added k (uses c.args.lines.now)) c.new-pool.ensures.empty;
}

pub loop-i-preserved : goal.loop-i-preserved
loop-i-preserved c =
    let lines = c.args.lines.now in
    let i = c.loop-i.i in
    let p = c.index-lines-i.result in
    let more = take (length lines - (i + 1)) (drop (i + 1) lines) in
    let behind : more ≡ drop (i + 1) lines = grind (arith, common_steps) in
    record {
      stage = stage_more lines i p c.loop-i.stage _ c.loop-i-test.true c.index-lines-i.is c.step-stage.ensures c.loop-i.invariant.stage;
      keys = lines_more line_uses lines i p c.loop-i.pool.keys _ _ c.loop-i-test.true c.index-lines-i.is
          (c.in_ok-add_line.ensures ∙ (ap (λ ps. entry_added c.loop-i.pool.keys (stage_uses c.loop-i.stage p.line ps)) behind ∙ ap (λ s. entry_added c.loop-i.pool.keys (stage_uses s p.line (drop (i + 1) lines))) c.loop-i.invariant.stage))
          c.loop-i.invariant.keys;
    }

pub returns : goal.returns
returns c = lines_end line_uses c.args.lines.now c.loop-i.i c.loop-i.pool.keys _ c.loop-i-test.false c.loop-i.invariant.keys ∙ pool_once c.args.lines.now
