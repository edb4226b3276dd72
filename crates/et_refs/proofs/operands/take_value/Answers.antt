use Rattle.std.proofs.Common.{subst, Contains}
use Rattle.et_base.specs.declared.value.Value.{Value}
use Rattle.et_heap.specs.Refs.{refs_of_value}
use Rattle.et_state.specs.Words.{top}
use Rattle.et_refs.proofs.Below.{named_in}
use Rattle.et_refs.proofs.operands.take_value.Goals as goal

pub returns-in_ok-reference-in-Some-Reference-clause-there : goal.returns-in_ok-reference-in-Some-Reference-clause-there
returns-in_ok-reference-in-Some-Reference-clause-there c =
    λ o d. named_in c.args.machine.now (top c.args.machine.now.guest c.args.thread) c.in_ok-reference-in-Some-Reference.reference c.in_ok-reference-in-Some-Reference.ensures.named o
    (subst (λ (v : Value). Contains (refs_of_value v) o) c.value_of_reference.ensures d)
