use Rattle.std.proofs.Common.{ℕ, ◌<◌, length, subst}
use Rattle.et_event.specs.Calls.{return as return_in_table}
use Rattle.et_event.specs.Moments.{moment}
use Rattle.et_event.proofs.Answering.{if_ok}
use Rattle.et_calls.proofs.Told.{named_within, never_native, same_native}
use Rattle.et_calls.proofs.rows.call_event.Goals as goal

pub returns-in-Some-clause-within : goal.returns-in-Some-clause-within
returns-in-Some-clause-within g c = λ method is.
    subst (λ (n : ℕ). n < length c.args.program.now.methods) (same_native c.in-Some.method method is)
    (named_within (moment c.args.program.now c.args.machine.now c.args.thread) c.invoke_plan.result c.in-Some.method c.invoke_plan.ensures.within c.in-Some.ensures)

pub returns-in-Call-Return-clause-within : goal.returns-in-Call-Return-clause-within
returns-in-Call-Return-clause-within g c =
    if_ok c.return_event.result
    (λ end a. λ method is. absurd (never_native (return_in_table (moment c.args.program.now c.args.machine.now c.args.thread) c.in-Call-Return.kind) end c.args.machine.now c.return_event.new.machine c.args.out.now c.return_event.new.out a method is))
    c.return_event.ensures.ok
