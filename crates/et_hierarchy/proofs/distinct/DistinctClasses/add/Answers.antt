use Rattle.std.proofs.Common.{◌++◌, ◌∷◌, [], ◌∙◌, ap}
use Rattle.et_hierarchy.proofs.DistinctLemmas.{added_marked, added_new}
use Rattle.et_hierarchy.proofs.distinct.DistinctClasses.add.Goals as goal

pub returns-then-is_marked : goal.returns-then-is_marked
returns-then-is_marked c = added_marked c.args.self.now c.self.inside.classes.items _ _ c.args.class _ c.self.view_is c.self.invariant c.as_slice.ensures.value c.is_marked.ensures c.if-is_marked.true

pub returns : goal.returns
returns c = c.in_ok-push.ensures.items ∙ (ap (λ k. c.self.inside.classes.items ++ k ∷ []) c.new.ensures ∙ added_new c.args.self.now c.self.inside.classes.items _ _ c.args.class _ c.self.view_is c.self.invariant c.as_slice.ensures.value c.is_marked.ensures c.if-is_marked.false)
