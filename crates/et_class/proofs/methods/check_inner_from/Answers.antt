use Rattle.std.proofs.Common.{◌+◌, ap, ◌∙◌, Bool}
use Rattle.et_base.specs.Marks.{marked, mark}
use Rattle.et_class.specs.declared.fault.TheConstants.{ATTRIBUTE}
use Rattle.et_class.proofs.Inner.{inner_more, inner_cut, inner_done}
use Rattle.et_class.proofs.methods.check_inner_from.Goals as goal

pub returns-in_err-name : goal.returns-in_err-name
returns-in_err-name c = c.from_residual.ensures ∙ (inner_cut c.args.pool.now.slots c.args.place c.args.bytes.now c.loop.found c.args.count c.loop.counter c.loop.at c.loop-test.true c.in_err-name.ensures.value ∙ c.loop.invariant)

pub loop-preserved : goal.loop-preserved
loop-preserved c =
    inner_more c.args.pool.now.slots c.args.place c.args.bytes.now (λ i. (c.type_inv.bytes i).fits) c.loop.found c.mark-found.result c.args.count c.loop.counter c.loop.at c.in_ok-name.name c.in_ok-name.after c.loop-test.true c.in_ok-name.ensures.value
    (c.mark-found.ensures ∙ ap (λ (b : Bool). marked c.loop.found (mark (c.args.place + c.loop.at) ATTRIBUTE b)) c.is_utf8.ensures) ∙ c.loop.invariant

pub returns : goal.returns
returns c = inner_done c.args.pool.now.slots c.args.place c.args.bytes.now c.loop.found c.args.count c.loop.counter c.loop.at c.loop-test.false ∙ c.loop.invariant
