use Rattle.std.proofs.Common.{ℕ, List, sym, subst}
use Rattle.et_hierarchy.specs.Search.{AreMarksOf}
use Rattle.et_hierarchy.proofs.distinct.DistinctClasses.clear.Goals as goal

pub unmark-requires : goal.unmark-requires
unmark-requires c = subst (λ (os : List ℕ). AreMarksOf os c.self.inside.marks.items) (sym c.as_slice.ensures.value) c.self.invariant

pub invariant_of-self : goal.invariant_of-self
invariant_of-self c = subst (λ (os : List ℕ). AreMarksOf os c.unmark.new.marks.items) (sym c.clear.ensures.items) c.unmark.ensures
