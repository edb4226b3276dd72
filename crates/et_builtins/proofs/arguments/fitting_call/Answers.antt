use Rattle.std.proofs.Common.{true, false, sym, ◌∙◌}
use Rattle.et_event.specs.Moments.{moment}
use Rattle.et_builtins.proofs.Fitting.{count_refused, passes_by}
use Rattle.et_builtins.proofs.arguments.fitting_call.Goals as goal

pub returns-in_err-count-clause-value : goal.returns-in_err-count-clause-value
returns-in_err-count-clause-value c = λ p type is.
    c.from_residual.ensures
    ∙ count_refused (moment p c.args.machine.now c.args.thread) c.args.is_static c.args.shape.now type c.entries.result c.depth-depth.result is c.entries.ensures c.depth-depth.ensures.value c.in_err-count.ensures

pub returns-then-passes-clause-value : goal.returns-then-passes-clause-value
returns-then-passes-clause-value c = λ p type is.
    passes_by (moment p c.args.machine.now c.args.thread) c.args.is_static c.args.shape.now type c.entries.result c.depth-depth.result c.in_ok-count.count true is c.entries.ensures c.in_ok-count.ensures (sym c.passes.ensures ∙ c.if-passes.true)

pub returns-else-passes-clause-value : goal.returns-else-passes-clause-value
returns-else-passes-clause-value c = λ p type is.
    passes_by (moment p c.args.machine.now c.args.thread) c.args.is_static c.args.shape.now type c.entries.result c.depth-depth.result c.in_ok-count.count false is c.entries.ensures c.in_ok-count.ensures (sym c.passes.ensures ∙ c.if-passes.false)
