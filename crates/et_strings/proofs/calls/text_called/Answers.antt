use Rattle.std.proofs.Common.{arith, sym, ap, ◌∙◌}
use Rattle.et_event.specs.Calls.{arguments_of}
use Rattle.et_event.specs.Frames.{first_reference}
use Rattle.et_event.specs.Moments.{moment}
use Rattle.et_event.specs.Selected.{passed_at}
use Rattle.et_strings.proofs.Calling.{call_is, invoked_receives, method_called, no_text_method, none_there, passes}
use Rattle.et_strings.proofs.Room.{texts_fit}
use Rattle.et_strings.proofs.calls.text_called.Goals as goal

pub unreachable-requires-in_default-text_method : goal.unreachable-requires-in_default-text_method
unreachable-requires-in_default-text_method g c =
    let e = moment c.args.program.now c.args.machine.now c.args.thread in
    let at = c.args.place.now.site in
    let called = method_called e at c.args.kind c.invoke_plan.result c.in-Enters.method c.in-Enters.count c.invoke_plan.ensures.deferred c.requires.call c.in-Enters.is in
    no_text_method e at c.args.kind c.in-Enters.method called c.requires.call (sym c.text_method.ensures ∙ c.in_default-text_method.is)

pub unreachable-requires-in_default-receiver : goal.unreachable-requires-in_default-receiver
unreachable-requires-in_default-receiver g c =
    let e = moment c.args.program.now c.args.machine.now c.args.thread in
    let at = c.args.place.now.site in
    let passed = passes e at c.args.kind c.invoke_plan.result c.in-Enters.method c.in-Enters.count c.invoke_plan.ensures.passes c.in-Enters.is in
    none_there (first_reference (passed_at e at c.args.kind)) (ap first_reference (sym passed) ∙ (sym c.receiver.ensures.value ∙ c.in_default-receiver.is)) (invoked_receives e at c.args.kind c.requires.call)

pub returns-clause-call : goal.returns-clause-call
returns-clause-call g c =
    let e = moment c.args.program.now c.args.machine.now c.args.thread in
    let at = c.args.place.now.site in
    let called = method_called e at c.args.kind c.invoke_plan.result c.in-Enters.method c.in-Enters.count c.invoke_plan.ensures.deferred c.requires.call c.in-Enters.is in
    let passed = passes e at c.args.kind c.invoke_plan.result c.in-Enters.method c.in-Enters.count c.invoke_plan.ensures.passes c.in-Enters.is in
    call_is e at c.args.kind c.in-Enters.method (arguments_of e c.in-Enters.count) c.in-Some.text_method called (sym c.text_method.ensures ∙ c.in-Some.is) passed

pub returns-clause-room : goal.returns-clause-room
returns-clause-room g c = omega (arith, texts_fit c.args.program.now c.in-Enters.method c.in-Some.text_method (sym c.text_method.ensures ∙ c.in-Some.is), c.in-Enters.ensures.within.2)
