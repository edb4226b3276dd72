use Rattle.std.proofs.Common.{◌≡◌, false, get_or, ◌∙◌}
use Rattle.et_hierarchy.proofs.Marks.{visits_fresh, visits_marked, read_at}
use Rattle.et_hierarchy.proofs.search.visit.Goals as goal

pub returns-in_ok-push : goal.returns-in_ok-push
returns-in_ok-push c =
    let fresh : get_or c.args.marks.now.items c.args.o false ≡ false = cc in
    rw (c.in_ok-push.ensures.items) (visits_fresh _ _ _ c.requires fresh)

pub returns-else-not-index : goal.returns-else-not-index
returns-else-not-index c = visits_marked _ _ _ (read_at c.args.marks.now.items c.args.o c.index.result.now false c.requires c.index.ensures ∙ c.if-not-index.false)
