use Rattle.std.proofs.Common.{rules, ◌≡◌, Err, drop, ◌∙◌, arith, lit≤}
use Rattle.et_state.specs.Words.{top}
use Rattle.et_event.specs.Moments.{moment}
use Rattle.et_refs.specs.Changes.{exchange_outcome}
use Rattle.et_refs.proofs.Chains.{refusing, test_names, tests_named, tests_reference}
use Rattle.et_refs.proofs.May.{may_put}
use Rattle.et_refs.proofs.types.casts.type_test.Goals as goal

pub returns-in-Err-clause-is : goal.returns-in-Err-clause-is
returns-in-Err-clause-is g c =
    let e = moment c.args.program.now c.args.machine.now c.args.thread in
    let at = c.args.place.now.site in
    test_names c.args.test e at ∙ c.in-Err.ensures.is e (tests_named c.args.test e at)

pub returns-in_err-reference-clause-is : goal.returns-in_err-reference-clause-is
returns-in_err-reference-clause-is g c =
    let e = moment c.args.program.now c.args.machine.now c.args.thread in
    let at = c.args.place.now.site in
    let same : c.from_residual.result ≡ Err c.in_err-reference.field-0.0 = search rules in
    refusing e _ _ c.in_err-reference.field-0.0 (exchange_outcome e at) (test_names c.args.test e at ∙ (c.in-Ok.ensures.is e (tests_named c.args.test e at) ∙ c.in_err-reference.ensures.is e (tests_reference c.args.test e at c.in-Ok.named.name.now))) same

pub returns-in_err-value-clause-is : goal.returns-in_err-value-clause-is
returns-in_err-value-clause-is g c =
    let e = moment c.args.program.now c.args.machine.now c.args.thread in
    let at = c.args.place.now.site in
    let below = drop 1 (top c.args.machine.now.guest c.args.thread).operands in
    let same : c.from_residual-in_err-value.result ≡ Err c.in_err-value.field-0.0 = search rules in
    refusing e _ _ c.in_err-value.field-0.0 (exchange_outcome e at)
    (test_names c.args.test e at ∙ (c.in-Ok.ensures.is e (tests_named c.args.test e at) ∙ (c.in_ok-reference.ensures.is e (tests_reference c.args.test e at c.in-Ok.named.name.now) ∙ c.in_err-value.ensures.is at below))) same

pub returns-clause-is : goal.returns-clause-is
returns-clause-is g c =
    let e = moment c.args.program.now c.args.machine.now c.args.thread in
    let at = c.args.place.now.site in
    let below = drop 1 (top c.args.machine.now.guest c.args.thread).operands in
    test_names c.args.test e at ∙ (c.in-Ok.ensures.is e (tests_named c.args.test e at) ∙ (c.in_ok-reference.ensures.is e (tests_reference c.args.test e at c.in-Ok.named.name.now) ∙ c.in_ok-value.ensures.is at below))

pub returns-clause-may : goal.returns-clause-may
returns-clause-may g c =
    may_put c.args.machine.now.heap (top c.args.machine.now.guest c.args.thread) 1 c.in_ok-value.value (omega (arith, c.in_ok-reference.ensures.deep)) (lit≤ tt) c.in_ok-value.ensures.few c.operands_fit.ensures c.in_ok-value.ensures.held

pub tested-requires-clause-known : goal.tested-requires-clause-known
tested-requires-clause-known g c = c.in-Ok.ensures.named c.args.program.now c.requires.refers.class c.requires.refers.pool
