use Rattle.std.proofs.Common.{◌≡◌, Some, None, sym}
use Rattle.et_state.specs.State.{kept_of}
use Rattle.et_state.specs.Words.{top}
use Rattle.et_event.specs.Sites.{running_method}
use Rattle.et_event.proofs.Answering.{if_ok}
use Rattle.et_calls.specs.Returned.{returned_values}
use Rattle.et_builtins.specs.Types.{returned_in}
use Rattle.et_calls.proofs.Leaving.{fits_returned, refused_answers, returned_answers}
use Rattle.et_calls.proofs.returns.return_event.Goals as goal

pub returns-in_default-clause-ok : goal.returns-in_default-clause-ok
returns-in_default-clause-ok g c =
    let m = c.args.machine.now in
    let t = c.args.thread in
    let f = top m.guest t in
    let none : returned_values c.args.kind (returned_in (running_method c.args.program.now f).descriptor) f.operands ≡ None = sym c.in_default.ensures.value in
    refused_answers c.args.program.now t c.args.kind m c.args.out.now c.ill_typed.result none c.ill_typed.ensures

pub return_value-requires-clause-room : goal.return_value-requires-clause-room
return_value-requires-clause-room g c =
    let m = c.args.machine.now in
    let t = c.args.thread in
    let f = top m.guest t in
    let some : returned_values c.args.kind (returned_in (running_method c.args.program.now f).descriptor) f.operands ≡ Some c.in-Some.value = sym c.in-Some.ensures.value in
    fits_returned c.args.program.now (kept_of m) t c.args.kind c.in-Some.value c.requires.sound c.requires.frame some

pub returns-clause-ok : goal.returns-clause-ok
returns-clause-ok g c =
    let m = c.args.machine.now in
    let t = c.args.thread in
    let f = top m.guest t in
    let some : returned_values c.args.kind (returned_in (running_method c.args.program.now f).descriptor) f.operands ≡ Some c.in-Some.value = sym c.in-Some.ensures.value in
    if_ok c.return_value.result (λ end a. returned_answers c.args.program.now t c.args.kind c.in-Some.value m _ c.args.out.now _ end some a) c.return_value.ensures.ok
