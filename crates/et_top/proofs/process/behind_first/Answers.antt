use Rattle.std.proofs.Common.{◌∙◌, ap}
use Rattle.std.specs.Vec.Iter.{into_iter_items}
use Rattle.std.specs.declared.vec.IntoIter.{IntoIter}
use Rattle.std.specs.declared.string.String.{String}
use Rattle.std.specs.declared.alloc.Global.{Global}
use Rattle.et_link.proofs.Lists.{taken_more}
use Rattle.et_top.proofs.BehindLemmas.{all_taken, behind_one}
use Rattle.et_top.proofs.process.behind_first.Goals as goal

pub loop-word-preserved : goal.loop-word-preserved
loop-word-preserved c = rw c.in_ok-push.ensures.items (taken_more c.loop-word.words.items _ _ _ c.in-Some.word c.loop-word.invariant c.in-Some.ensures.steps.0)

pub returns : goal.returns
returns c =
    all_taken c.loop-word.words.items (into_iter_items c.loop-word.word-iterator) _ _ c.loop-word.word-iterator.rest.ok.0 c.in-None.ensures.steps.0 c.loop-word.invariant
    ∙ (ap (λ (it : IntoIter (String Global) Global). into_iter_items it) c.into_iter-word-iterator.ensures.into_iter_gives
    ∙ behind_one c.next-name.result (into_iter_items c.args.all) _ _ c.args.all.rest.ok.0 c.next-name.ensures.items c.next-name.ensures.variant)
