use Rattle.std.proofs.Common.{◌≡◌, ◌++◌, ap, ◌∙◌, refl, rules}
use Rattle.et_asm.specs.Code.{encoded_at, line_bytes}
use Rattle.et_asm.specs.Symbols.{places}
use Rattle.et_asm.proofs.Stages.{place_more}
use Rattle.et_asm.proofs.Loops.{along_more, along_end}
use Rattle.et_asm.proofs.code.put_code.Goals as goal

pub loop-p-init : goal.loop-p-init
loop-p-init c = record { at = search rules; put = refl }

pub loop-p-preserved : goal.loop-p-preserved
loop-p-preserved c =
    let entries = c.args.symbols.now in
    let labels = places c.args.labels.now.entries in
    record {
      at = place_more entries c.args.body.now c.loop-p.p-index c.p-item.result c.loop-p.at c.in_ok-at.at c.loop-p-test.true c.p-item.is c.in_ok-at.ensures c.loop-p.invariant.at;
      put = along_more (encoded_at entries labels) c.args.body.now c.loop-p.p-index c.p-item.result c.loop-p.out.items c.put_line.new.out.items _ c.loop-p-test.true c.p-item.is
          (c.in_ok-put_line.ensures ∙ ap (λ a. c.loop-p.out.items ++ line_bytes entries labels a c.p-item.result.line) c.loop-p.invariant.at) c.loop-p.invariant.put;
    }

pub returns : goal.returns
returns c = along_end (encoded_at c.args.symbols.now (places c.args.labels.now.entries)) c.args.body.now c.loop-p.p-index c.loop-p.out.items _ c.loop-p-test.false c.loop-p.invariant.put
