use Rattle.std.proofs.Common.{◌<◌, length, subst, rules, Contains}
use Rattle.et_base.specs.declared.value.Value.{Value}
use Rattle.et_heap.specs.Refs.{refs_of_value}
use Rattle.et_event.proofs.Groups.{local_is_in}
use Rattle.et_ops.proofs.locals.local_at.Goals as goal

pub returns-then-i-locals-clause-there : goal.returns-then-i-locals-clause-there
returns-then-i-locals-clause-there c =
    let f = c.args.running.now.frame in
    let lt : c.args.i < length f.locals = search rules in
    λ o d. local_is_in f c.args.i lt o (subst (λ (v : Value). Contains (refs_of_value v) o) c.local.ensures d)
