use Rattle.std.proofs.Common.{◌≡◌, sym, subst}
use Rattle.et_replay.specs.Tally.{heap_by, space_after}
use Rattle.et_replay.specs.declared.model.Kind.{Kind}
use Rattle.et_models.proofs.Totals.{is_tally}
use Rattle.et_models.proofs.one_space.OneSpaceHeapModel.report.Goals as goal

pub returns : goal.returns
returns g c = λ reached decides policy objects past a.
    let own = g.C.Collected.own_kind in
    let capacity = g.C.Collected.part policy.first in
    let by : (k : Kind) → k ≡ own → heap_by reached k policy.first policy.second past ≡ space_after capacity past =
    λ k e. subst (λ (j : Kind). heap_by reached j policy.first policy.second past ≡ space_after capacity past) (sym e) (g.met.C.Collected.accounts reached policy.first policy.second past) in
    is_tally reached c.args.self.now.space c.args.self.now.policy policy own capacity objects past by a
