use Rattle.std.proofs.Common.{◌≡◌, ℕ, ◌+◌, List, [], ◌∷◌, ◌++◌, take, sym, ◌∙◌, ap, subst, arith}
use Rattle.std.proofs.lemmas.List.{take_more}
use Rattle.et_graph.proofs.Stamping.{IsEach, each_push}
use Rattle.et_graph.proofs.stamps.stamp_each.Goals as goal

pub set-requires-clause-place : goal.set-requires-clause-place
set-requires-clause-place c =
    let long = c.each.invariant.long in
    let lt = c.requires.places c.object-item.result (c.each.object-index, c.each-test.true, sym c.object-item.is) in
    omega (arith, lt, long)

pub each-preserved : goal.each-preserved
each-preserved c =
    let objects : List ℕ = c.args.objects.now in
    let i : ℕ = c.each.object-index in
    let x : ℕ = c.object-item.result in
    let before : List ℕ = take i objects in
    let more : take (i + 1) objects ≡ before ++ x ∷ [] = take_more objects i x c.each-test.true ∙ ap (λ (y : ℕ). before ++ y ∷ []) (sym c.object-item.is) in
    let long = c.each.invariant.long in
    let lt = c.requires.places x (i, c.each-test.true, sym c.object-item.is) in
    subst (λ (os : List ℕ). IsEach c.args.stamps.now c.set.new.self os c.args.event) (sym more)
    (subst (λ (ss : List ℕ). IsEach c.args.stamps.now ss (before ++ x ∷ []) c.args.event) (sym c.set.ensures)
    (each_push c.args.stamps.now c.each.stamps before c.args.event x c.each.invariant (omega (arith, lt, long))))
