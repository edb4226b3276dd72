use Rattle.std.proofs.Common.{◌<◌, ◌≡◌, length, refl, sym, subst, [], replicate, false, rules}
use Rattle.std.specs.Prelude.{All}
use Rattle.et_hierarchy.specs.Links.{LinkEntry, parents_of}
use Rattle.et_hierarchy.specs.Search.{VisitsLinks}
use Rattle.et_hierarchy.proofs.Marks.{Searching, searching_begun, searching_taken, taken_within, searching_end, read_links}
use Rattle.et_hierarchy.proofs.search.ancestors.Goals as goal

pub loop-u-init : goal.loop-u-init
loop-u-init c =
    let m : c.in_ok-marks.marks.items ≡ replicate (length c.args.table.now) false = search rules in
    searching_begun c.args.table.now c.args.class (length c.args.table.now) _ _ _ _ refl m c.new-work.ensures.items
    (subst (λ os. VisitsLinks os c.in_ok-marks.marks.items c.new-work.result.items c.visit_parents.new.marks.items c.visit_parents.new.work.items) (sym (read_links c.args.table.now c.args.class _ c.requires.class c.index-table-class.is)) c.in_ok-visit_parents.ensures)

pub bounds-table-u : goal.bounds-table-u
bounds-table-u c = taken_within c.args.table.now c.args.class _ _ _ c.in-Some.u c.loop-u.invariant c.in-Some.ensures.items

pub visit_parents-requires-in-Some : goal.visit_parents-requires-in-Some
visit_parents-requires-in-Some c =
    let lt : c.in-Some.u < length c.args.table.now = taken_within c.args.table.now c.args.class _ _ _ c.in-Some.u c.loop-u.invariant c.in-Some.ensures.items in
    subst (λ n. All (λ o. o < n) (parents_of c.index-table-u.result)) (sym c.loop-u.invariant.same_length)
    (subst (λ (l : LinkEntry). All (λ o. o < length c.args.table.now) (parents_of l)) (sym c.index-table-u.is) (c.requires.within c.in-Some.u c.index-table-u.result lt))

pub loop-u-preserved : goal.loop-u-preserved
loop-u-preserved c =
    let lt : c.in-Some.u < length c.args.table.now = taken_within c.args.table.now c.args.class _ _ _ c.in-Some.u c.loop-u.invariant c.in-Some.ensures.items in
    searching_taken c.args.table.now c.args.class _ _ _ c.in-Some.u _ _ _ c.loop-u.invariant c.in-Some.ensures.items (read_links c.args.table.now c.in-Some.u _ lt c.index-table-u.is) c.in_ok-visit_parents-2.ensures

pub returns-clause-marks : goal.returns-clause-marks
returns-clause-marks c =
    let e : c.loop-u.work.items ≡ [] = search rules in
    searching_end c.args.table.now c.args.class _ (subst (λ us. Searching c.args.table.now c.args.class c.loop-u.marks.items us) e c.loop-u.invariant)
