use Rattle.std.proofs.Common.{rules, Bool, ap, sym, ◌∙◌}
use Rattle.et_event.specs.Calls.{is_static_call}
use Rattle.et_verify.specs.Calling.{called}
use Rattle.et_program.specs.Referring.{pool_of_class}
use Rattle.et_verify.proofs.Invoked.{call_shaped}
use Rattle.et_verify.proofs.calls.step_call.Goals as goal

pub returns : goal.returns
returns c =
    let shaped = call_shaped c.args.program.now c.class.result c.index_of.result c.args.site.now (is_static_call c.args.kind) c.in-Some.shape.now c.args.types.now.operands (c.requires.pool ∙ ap (pool_of_class c.args.program.now) (sym c.class.ensures)) c.index_of.ensures c.in-Some.ensures
    ∙ ap (λ (b : Bool). called b c.in-Some.shape.now c.args.types.now.operands) (sym c.is_static_call.ensures) in
    record {
      done = λ e. shaped ∙ c.in_ok-done.ensures.done e;
      refused = λ e. shaped ∙ c.in_ok-done.ensures.refused e;
      locals = search rules;
    }
