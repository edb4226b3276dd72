use Rattle.std.proofs.Common.{ℕ, List, Contains, get_or, subst, arith}
use Rattle.et_loop.specs.Stamping.{Restamps}
use Rattle.et_loop.proofs.Marking.{restamps_from}
use Rattle.et_loop.proofs.marks.restamp.Goals as goal

pub stamp_each-requires-clause-places : goal.stamp_each-requires-clause-places
stamp_each-requires-clause-places g c = λ o h.
    let m = c.requires.lost o (subst (λ (os : List ℕ). Contains os o) c.lost.ensures h) in
    let long = c.in_ok-make_places.ensures.places in
    omega (arith, m, long, c.made-made.ensures)

pub returns-clause-stamps : goal.returns-clause-stamps
returns-clause-stamps g c =
    let before : ℕ = c.args.before in
    let old = λ (o : ℕ). get_or c.args.stamps.now o 0 in
    let new = λ (o : ℕ). get_or c.stamp_new.new.stamps o 0 in
    let r : Restamps c.args.e before c.made-made.result c.lost.result.now old new =
    restamps_from c.args.e before c.made-made.result c.lost.result.now c.args.stamps.now c.make_places.new.stamps c.stamp_each.new.stamps c.stamp_new.new.stamps
    c.in_ok-make_places.ensures.kept c.stamp_each.ensures.each c.stamp_each.ensures.others c.stamp_new.ensures.each c.stamp_new.ensures.others in
    subst (λ (n : ℕ). Restamps c.args.e before n (g.G.Guest.lost_of c.args.guest.now) old new) c.made-made.ensures
    (subst (λ (os : List ℕ). Restamps c.args.e before c.made-made.result os old new) c.lost.ensures r)
