use Rattle.std.proofs.Common.{List, take, ap, ◌∙◌}
use Rattle.std.proofs.lemmas.List.{take_all}
use Rattle.et_graph.specs.declared.objects.Death.{Death}
use Rattle.et_state.specs.Texts.{texts_left, without_text}
use Rattle.et_run.proofs.Forgotten.{unlisted, all_left, forget_more}
use Rattle.et_run.proofs.forgetting.forget_dead.Goals as goal

pub deaths-init : goal.deaths-init
deaths-init c = all_left c.args.texts.now

pub deaths-preserved : goal.deaths-preserved
deaths-preserved c =
    c.forget.ensures
    ∙ (ap (without_text c.death-item.result.object) c.deaths.invariant
    ∙ (ap (λ (d : Death). without_text d.object (texts_left (unlisted (take c.deaths.death-index c.args.deaths.now)) c.args.texts.now)) c.death-item.is
    ∙ forget_more c.args.deaths.now c.deaths.death-index c.death-item.result c.args.texts.now c.deaths-test.true))

pub returns : goal.returns
returns c = c.deaths.invariant ∙ ap (λ (ds : List Death). texts_left (unlisted ds) c.args.texts.now) (take_all c.deaths.death-index c.args.deaths.now c.deaths-test.false)
