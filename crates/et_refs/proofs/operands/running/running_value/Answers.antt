use Rattle.std.proofs.Common.{Contains, subst}
use Rattle.et_base.specs.declared.value.Value.{Value}
use Rattle.et_heap.specs.Refs.{refs_of_value}
use Rattle.et_refs.proofs.Below.{referent_in}
use Rattle.et_refs.proofs.operands.running.running_value.Goals as goal

pub returns-in_ok-reference-in-Some-Reference-clause-there : goal.returns-in_ok-reference-in-Some-Reference-clause-there
returns-in_ok-reference-in-Some-Reference-clause-there c =
    λ o d. referent_in c.args.running.now.frame c.in_ok-reference-in-Some-Reference.reference c.in_ok-reference-in-Some-Reference.ensures.there o
    (subst (λ (v : Value). Contains (refs_of_value v) o) c.value_of_reference.ensures d)
