use Rattle.std.proofs.Common.{◌≡◌, ap, ◌∙◌, rules}
use Rattle.et_asm.specs.Symbols.{places}
use Rattle.et_asm.proofs.Stages.{place_more}
use Rattle.et_asm.proofs.Places.{labels_more, labels_none, labels_all}
use Rattle.et_asm.proofs.labels.labels_of.Goals as goal

pub loop-p-init : goal.loop-p-init
loop-p-init c = record {
  at = search rules;
  labels = λ q. ap (λ es. places es q) c.new-labels.ensures.empty ∙ labels_none c.args.symbols.now q;
}

pub loop-p-preserved : goal.loop-p-preserved
loop-p-preserved c = record {
  at = place_more c.args.symbols.now c.args.body.now c.loop-p.p-index c.p-item.result c.loop-p.at c.in_ok-at.at c.loop-p-test.true c.p-item.is c.in_ok-at.ensures c.loop-p.invariant.at;
  labels = labels_more c.args.symbols.now c.args.body.now c.loop-p.p-index c.p-item.result c.loop-p.at c.loop-p.labels.entries c.define.new.labels.entries c.loop-p-test.true c.p-item.is c.loop-p.invariant.at c.in_ok-define.ensures c.loop-p.invariant.labels;
}

pub returns : goal.returns
returns c = labels_all c.args.symbols.now c.args.body.now c.loop-p.p-index c.loop-p.labels.entries c.loop-p-test.false c.loop-p.invariant.labels
