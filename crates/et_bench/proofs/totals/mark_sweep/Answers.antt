use Rattle.std.proofs.Common.{◌≡◌, List, reverse, subst}
use Rattle.std.specs.Prelude.{IfOk}
use Rattle.et_replay.specs.Tally.{tally}
use Rattle.et_replay.specs.declared.item.Item.{Item}
use Rattle.et_bench.specs.Totals.{bench_policy}
use Rattle.et_bench.proofs.totals.mark_sweep.Goals as goal

pub returns : goal.returns
returns c = λ reached decides.
    subst (λ (t : List Item). IfOk c.report_of.result (λ report. report ≡ tally reached bench_policy (reverse t))) c.items.ensures.value
    (c.report_of.ensures reached decides bench_policy c.objects.result c.in_ok-set_policy.ensures.ok)
