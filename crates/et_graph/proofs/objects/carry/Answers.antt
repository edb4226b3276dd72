use Rattle.std.proofs.Common.{ℕ, ◌<◌, ◌≤◌, ◌^◌, List, All, sym, subst, arith}
use Rattle.et_graph.specs.Times.{ArePairsWithin}
use Rattle.et_graph.proofs.Carrying.{All-set_each}
use Rattle.et_graph.proofs.objects.carry.Goals as goal

pub write_each-requires : goal.write_each-requires
write_each-requires c = λ o d. (c.requires.roots o d).0

pub settle-requires-clause-within : goal.settle-requires-clause-within
settle-requires-clause-within c = subst (λ (n : ℕ). ArePairsWithin n c.args.pairs.now) (sym c.write_each.auto.entries) c.requires.pairs

pub settle-requires-clause-below : goal.settle-requires-clause-below
settle-requires-clause-below c =
    let below = All-set_each c.args.top c.args.roots.now c.args.top c.args.times.now (omega arith) c.requires.below in
    subst (λ (ts : List ℕ). All (λ t. t < 2 ^ 64) ts) (sym c.write_each.ensures) (λ k d lt. omega (arith, below k d lt, c.ranges.top))
