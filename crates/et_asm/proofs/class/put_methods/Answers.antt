use Rattle.std.proofs.Common.{◌+◌, ◌-◌, ◌++◌, drop, ap, ◌∙◌, refl, rules}
use Rattle.et_asm.specs.Listings.{method_bytes_at}
use Rattle.et_asm.specs.Symbols.{stage_method}
use Rattle.et_asm.proofs.Taken.{rest_is}
use Rattle.et_asm.proofs.Stages.{stage_more}
use Rattle.et_asm.proofs.Loops.{along_more, along_end}
use Rattle.et_asm.proofs.class.put_methods.Goals as goal

pub loop-i-init : goal.loop-i-init
loop-i-init c = record { stage = search rules; put = refl }

pub loop-i-preserved : goal.loop-i-preserved
loop-i-preserved c =
    let entries = c.args.symbols.now in
    let lines = c.args.lines.now in
    let i = c.loop-i.i in
    let p = c.index-lines-i.result in
    let out = c.loop-i.out.items in
    record {
      stage = stage_more lines i p c.loop-i.stage _ c.loop-i-test.true c.index-lines-i.is c.step-stage.ensures c.loop-i.invariant.stage;
      put = along_more (method_bytes_at entries) lines i p out _ _ c.loop-i-test.true c.index-lines-i.is
          (c.in_ok-put_method_at.ensures ∙ (ap (λ ps. out ++ stage_method entries c.loop-i.stage p.line ps) (rest_is lines i) ∙ ap (λ s. out ++ stage_method entries s p.line (drop (i + 1) lines)) c.loop-i.invariant.stage))
          c.loop-i.invariant.put;
    }

pub returns : goal.returns
returns c = along_end (method_bytes_at c.args.symbols.now) c.args.lines.now c.loop-i.i c.loop-i.out.items _ c.loop-i-test.false c.loop-i.invariant.put
