use Rattle.std.proofs.Common.{Option, sym, subst}
use Rattle.et_base.specs.declared.value.Value.{Value}
use Rattle.et_state.specs.Words.{top}
use Rattle.et_calls.specs.Returned.{IsValueIn}
use Rattle.et_calls.proofs.Values.{value_is_in}
use Rattle.et_calls.proofs.returned.value_on_top.Goals as goal

pub returns-clause-there : goal.returns-clause-there
returns-clause-there c =
    let f = top c.args.machine.now.guest c.args.thread in
    subst (λ (v : Option Value). IsValueIn f v) (sym c.value_in.ensures)
    (value_is_in f c.args.kind c.operand_at-first.result c.operand_at-second.result c.operand_at-first.ensures.there c.operand_at-second.ensures.there)
