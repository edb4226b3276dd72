use Rattle.std.proofs.Common.{ℕ, ◌<◌, length, false, Option, sym, ◌∙◌, ap, subst}
use Rattle.std.specs.Prelude.{Result, Ok, codes, unwrap_or}
use Rattle.et_program.specs.declared.errors.LinkError.{LinkError}
use Rattle.et_program.specs.Resolution.{resolve_method}
use Rattle.et_program.proofs.Standing.{thread_at, run_resolved, run_within}
use Rattle.et_calls.proofs.entry.runs.thread_run.Goals as goal

pub returns-clause-value : goal.returns-clause-value
returns-clause-value c =
    ap (λ (o : Option ℕ). resolve_method c.args.program.now (unwrap_or o 0) false (codes "run") (codes "()V")) (thread_at c.args.program.now c.is_linked.ensures.linked) ∙ (run_resolved c.args.program.now c.is_linked.ensures.linked ∙ ap (λ (m : ℕ). let found : Result ℕ LinkError = Ok m in found) (sym c.new.ensures))

pub returns-clause-within : goal.returns-clause-within
returns-clause-within c = subst (λ (m : ℕ). m < length c.args.program.now.methods) (sym c.new.ensures) (run_within c.args.program.now c.is_linked.ensures.linked)
