use Rattle.std.proofs.Common.{◌≤◌, ◌^◌, ◌∙◌, ap, sym, subst}
use Rattle.et_files.specs.Loaded.{last_event}
use Rattle.et_bench.proofs.BenchLemmas.{end_low}
use Rattle.et_bench.proofs.totals.end_event.Goals as goal

pub returns-clause-range : goal.returns-clause-range
returns-clause-range c =
    let good = c.lines.ensures.good in
    subst (λ n. n ≤ 2 ^ 40) (sym (c.last_event.ensures ∙ ap last_event c.lines.ensures.value)) (end_low good.version c.args.trace.now good.good.fine)
