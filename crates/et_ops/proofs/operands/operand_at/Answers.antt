use Rattle.std.proofs.Common.{◌<◌, length, subst, rules, Contains}
use Rattle.et_base.specs.declared.value.Value.{Value}
use Rattle.et_heap.specs.Refs.{refs_of_value}
use Rattle.et_event.proofs.Groups.{operand_is_in}
use Rattle.et_ops.proofs.operands.operand_at.Goals as goal

pub returns-then-k-depth-clause-there : goal.returns-then-k-depth-clause-there
returns-then-k-depth-clause-there c =
    let f = c.args.running.now.frame in
    let lt : c.args.k < length f.operands = search rules in
    λ o d. operand_is_in f c.args.k lt o (subst (λ (v : Value). Contains (refs_of_value v) o) c.operand.ensures d)
