use Rattle.std.proofs.Common.{ℕ, List, subst}
use Rattle.et_models.specs.Marking.{IsMarking}
use Rattle.et_models.proofs.Going.{going_visit, going_skip}
use Rattle.et_models.proofs.marks.follow.Goals as goal

pub loop-object-preserved-in-Continue-1 : goal.loop-object-preserved-in-Continue-1
loop-object-preserved-in-Continue-1 c = λ g space start d i.
    (let s = c.loop-object in
    let before = subst (λ (w : List ℕ). IsMarking g c.args.slots.now space start s.places w) c.in-Some.ensures.items (s.invariant g space start d i) in
    let v = c.in_ok-visit.ensures in
    going_visit g c.args.slots.now space start s.places c.pop.new.self.items c.in-Some.object c.index-slots-object.result c.visit.new.places c.visit.new.work.items c.if-object-slots.true c.index-slots-object.is v.0 v.1 d before)

pub loop-object-preserved : goal.loop-object-preserved
loop-object-preserved c = λ g space start d i.
    (let s = c.loop-object in
    let before = subst (λ (w : List ℕ). IsMarking g c.args.slots.now space start s.places w) c.in-Some.ensures.items (s.invariant g space start d i) in
    going_skip g c.args.slots.now space start s.places c.pop.new.self.items c.in-Some.object c.if-object-slots.false before)
