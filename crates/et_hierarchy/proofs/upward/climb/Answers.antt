use Rattle.std.proofs.Common.{ℕ, ◌++◌, ◌∷◌, [], Option, Some, ◌∙◌, ap, subst}
use Rattle.et_hierarchy.proofs.UpLemmas.{IsClimbing, climb_turn, climb_less, climb_end}
use Rattle.et_hierarchy.proofs.upward.climb.Goals as goal

pub loop-next-smaller : goal.loop-next-smaller
loop-next-smaller c =
    let climbing : IsClimbing c.args.table.now c.args.class c.loop-next.list.items (Some c.in-Some.k) = subst (λ (o : Option ℕ). IsClimbing c.args.table.now c.args.class c.loop-next.list.items o) c.in-Some.is c.loop-next.invariant in
    climb_less c.args.table.now c.args.class c.in-Some.k c.loop-next.list.items climbing c.requires.acyclic c.push.new.self.items (c.in_ok-push.ensures.items ∙ ap (λ (x : ℕ). c.loop-next.list.items ++ x ∷ []) c.new.ensures)

pub loop-next-preserved : goal.loop-next-preserved
loop-next-preserved c =
    let climbing : IsClimbing c.args.table.now c.args.class c.loop-next.list.items (Some c.in-Some.k) = subst (λ (o : Option ℕ). IsClimbing c.args.table.now c.args.class c.loop-next.list.items o) c.in-Some.is c.loop-next.invariant in
    climb_turn c.args.table.now c.args.class c.in-Some.k c.loop-next.list.items climbing c.requires.within c.push.new.self.items c.index-table-k.result c.above-next.result c.index-table-k.is
    (c.in_ok-push.ensures.items ∙ ap (λ (x : ℕ). c.loop-next.list.items ++ x ∷ []) c.new.ensures) c.above-next.ensures

pub returns : goal.returns
returns c = climb_end c.args.table.now c.args.class c.loop-next.list.items c.loop-next.next c.loop-next.invariant c.in_default.is
