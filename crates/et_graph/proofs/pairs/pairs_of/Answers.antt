use Rattle.std.proofs.Common.{◌≤◌, rules}
use Rattle.et_graph.proofs.Between.{ordered, between}
use Rattle.et_graph.proofs.pairs.pairs_of.Goals as goal

pub slice_bounds-result-count : goal.slice_bounds-result-count
slice_bounds-result-count c =
    ordered c.args.pairs.now c.args.object c.first_from.result c.first_after.result c.first_after.ensures.bound
    c.first_from.ensures.before c.first_from.ensures.after c.first_after.ensures.before c.first_after.ensures.after c.first_from.ensures.bound

pub slice_bounds-result-start : goal.slice_bounds-result-start
slice_bounds-result-start c =
    let le : c.first_from.result ≤ c.first_after.result =
    ordered c.args.pairs.now c.args.object c.first_from.result c.first_after.result c.first_after.ensures.bound
    c.first_from.ensures.before c.first_from.ensures.after c.first_after.ensures.before c.first_after.ensures.after c.first_from.ensures.bound in
    search rules

pub returns : goal.returns
returns c =
    between c.args.pairs.now c.args.object c.first_from.result c.first_after.result c.first_after.ensures.bound
    c.first_from.ensures.before c.first_from.ensures.after c.first_after.ensures.before c.first_after.ensures.after
    (ordered c.args.pairs.now c.args.object c.first_from.result c.first_after.result c.first_after.ensures.bound
    c.first_from.ensures.before c.first_from.ensures.after c.first_after.ensures.before c.first_after.ensures.after c.first_from.ensures.bound)
