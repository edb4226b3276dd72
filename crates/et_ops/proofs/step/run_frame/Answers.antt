use Rattle.std.proofs.Common.{◌≡◌, ℕ, List, Bool, true, Contains, sym, subst}
use Rattle.et_event.specs.FrameSteps.{StepsRunning, frame_next}
use Rattle.et_ops.proofs.Stepping.{so_far_none, so_far_more, lost_places}
use Rattle.et_ops.proofs.step.run_frame.Goals as goal

pub steps-init : goal.steps-init
steps-init c = so_far_none c.args.code.now c.args.e c.args.most c.args.running.now c.args.stamps.now c.requires.places

pub stamp_each-requires-clause-places : goal.stamp_each-requires-clause-places
stamp_each-requires-clause-places c = λ o h.
    let done : StepsRunning (frame_next c.args.code.now c.steps.running.frame) true c.steps.running c.step.new.running = subst (λ (b : Bool). StepsRunning (frame_next c.args.code.now c.steps.running.frame) b c.steps.running c.step.new.running) c.if-not-step.false c.step.ensures in
    lost_places c.args.code.now c.args.e c.args.most c.steps.count c.args.running.now c.steps.running c.step.new.running c.args.stamps.now c.steps.stamps c.steps.invariant done o
    (subst (λ (os : List ℕ). Contains os o) c.lost.ensures.value h)

pub steps-preserved : goal.steps-preserved
steps-preserved c =
    let done : StepsRunning (frame_next c.args.code.now c.steps.running.frame) true c.steps.running c.step.new.running = subst (λ (b : Bool). StepsRunning (frame_next c.args.code.now c.steps.running.frame) b c.steps.running c.step.new.running) c.if-not-step.false c.step.ensures in
    let listed : c.lost.result.now ≡ c.step.new.running.lost = c.lost.ensures.value in
    so_far_more c.args.code.now c.args.e c.args.most c.steps.count c.args.running.now c.steps.running c.step.new.running c.args.stamps.now c.steps.stamps c.stamp_each.new.stamps c.steps.invariant c.steps-test.true done
    (λ o h. c.stamp_each.ensures.each o (subst (λ (os : List ℕ). Contains os o) (sym listed) h))
    (λ o out. c.stamp_each.ensures.others o (λ h. out (subst (λ (os : List ℕ). Contains os o) listed h)))
    c.stamp_each.ensures.long
