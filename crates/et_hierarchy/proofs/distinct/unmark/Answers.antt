use Rattle.std.proofs.Common.{◌≡◌, ℕ, ◌+◌, ◌<◌, false, length, get_or, set, sym, ◌∙◌, subst, arith}
use Rattle.std.proofs.lemmas.List.{length-set, get_or_default}
use Rattle.et_hierarchy.proofs.DistinctLemmas.{IsUnmarking, unmarking_begun, unmarking_within, unmarking_next, unmarking_done}
use Rattle.et_hierarchy.proofs.distinct.unmark.Goals as goal

pub loop-class-init : goal.loop-class-init
loop-class-init c = unmarking_begun c.args.classes.now c.args.marks.now.items c.requires

pub index_mut-requires : goal.index_mut-requires
index_mut-requires c =
    let lt : c.loop-class.class-index < length c.args.classes.now = omega arith in
    let is : c.class-item.result ≡ get_or c.args.classes.now c.loop-class.class-index 0 = c.class-item.is ∙ get_or_default c.args.classes.now c.loop-class.class-index _ 0 lt in
    omega (arith, c.number.ensures.value, is, c.loop-class.marks.ok.0, unmarking_within c.args.classes.now c.loop-class.class-index c.loop-class.marks.items c.args.marks.now.items c.loop-class.invariant c.requires lt)

pub loop-class-preserved : goal.loop-class-preserved
loop-class-preserved c =
    let lt : c.loop-class.class-index < length c.args.classes.now = omega arith in
    let is : c.class-item.result ≡ get_or c.args.classes.now c.loop-class.class-index 0 = c.class-item.is ∙ get_or_default c.args.classes.now c.loop-class.class-index _ 0 lt in
    let within = unmarking_within c.args.classes.now c.loop-class.class-index c.loop-class.marks.items c.args.marks.now.items c.loop-class.invariant c.requires lt in
    subst (λ (o : ℕ). IsUnmarking c.args.classes.now (c.loop-class.class-index + 1) (length c.args.marks.now.items) (set c.loop-class.marks.items o false)) (sym (c.number.ensures.value ∙ is))
    (unmarking_next c.args.classes.now c.loop-class.class-index (length c.args.marks.now.items) c.loop-class.marks.items c.loop-class.invariant lt within (length-set _ _ _))

pub returns : goal.returns
returns c = unmarking_done c.args.classes.now c.loop-class.class-index (length c.args.marks.now.items) c.loop-class.marks.items c.loop-class.invariant (omega arith)
