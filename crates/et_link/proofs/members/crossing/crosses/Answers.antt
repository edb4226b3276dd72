use Rattle.std.proofs.Common.{◌<◌, sym, subst, arith, length}
use Rattle.std.specs.Prelude.{All}
use Rattle.et_link.proofs.SlotLemmas.{supers_below}
use Rattle.et_link.proofs.members.crossing.crosses.Goals as goal

pub hides-requires-clause-class : goal.hides-requires-clause-class
hides-requires-clause-class c =
    let all : All (λ k. k < length c.args.set.now) c.supers-class-items.result.now = supers_below c.args.rows.now c.number.result c.index-rows-number.result _ _ (omega (arith, c.number.ensures.value)) c.index-rows-number.is c.supers-class-items.ensures (λ k lt. c.requires.below k (omega arith)) in
    subst (λ k. k < length c.args.set.now) (sym c.class-item.is) (all c.loop-class.class-index c.class-item.result (omega arith))
