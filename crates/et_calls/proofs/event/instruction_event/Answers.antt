use Rattle.std.proofs.Common.{ℕ, Option, subst}
use Rattle.std.specs.Prelude.{IsSome}
use Rattle.et_event.proofs.Answering.{if_ok}
use Rattle.et_builtins.proofs.Deferring.{at_place}
use Rattle.et_calls.proofs.Told.{turn_answers}
use Rattle.et_calls.proofs.event.instruction_event.Goals as goal

pub returns-in-Some-clause-event : goal.returns-in-Some-clause-event
returns-in-Some-clause-event g c =
    let p = c.args.program.now in
    let m = c.args.machine.now in
    if_ok c.call_event.result
    (λ end a. turn_answers p m c.args.thread c.in-Some.place end c.call_event.new.machine c.args.out.now c.call_event.new.out c.requires.turn c.in-Some.ensures.found c.in-Some.ensures.event a)
    c.call_event.ensures.ok

pub returns-in-Some-clause-deferred : goal.returns-in-Some-clause-deferred
returns-in-Some-clause-deferred g c = λ some.
    let p = c.args.program.now in
    let m = c.args.machine.now in
    c.call_event.ensures.deferred (subst (λ (r : Option ℕ). IsSome r) (at_place p m c.args.thread c.in-Some.place c.requires.turn c.in-Some.ensures.found) some)
