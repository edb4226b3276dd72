use Rattle.std.proofs.Common.{rules, ◌+◌, ◌-◌, ap, ◌∙◌, length, take}
use Rattle.std.specs.Prelude.{option_and_then}
use Rattle.et_verify.specs.Calling.{arguments_taken}
use Rattle.et_verify.proofs.Invoked.{turn_taken}
use Rattle.et_verify.proofs.calls.take_arguments.Goals as goal

pub returns-then-not-take_argument : goal.returns-then-not-take_argument
returns-then-not-take_argument c = record {
  done = search rules;
  refused = λ e.
      c.loop-taken.invariant.operands
      ∙ (turn_taken c.args.kinds.now c.loop-taken.taken c.loop-taken.types.operands c.loop-taken-test.true
      ∙ ap (option_and_then (arguments_taken (take (length c.args.kinds.now - (c.loop-taken.taken + 1)) c.args.kinds.now))) (c.take_argument.ensures.refused c.if-not-take_argument.true));
  locals = search rules;
}

pub loop-taken-preserved : goal.loop-taken-preserved
loop-taken-preserved c = record {
  operands =
      c.loop-taken.invariant.operands
      ∙ (turn_taken c.args.kinds.now c.loop-taken.taken c.loop-taken.types.operands c.loop-taken-test.true
      ∙ ap (option_and_then (arguments_taken (take (length c.args.kinds.now - (c.loop-taken.taken + 1)) c.args.kinds.now))) (c.take_argument.ensures.done c.if-not-take_argument.false));
  locals = c.take_argument.ensures.locals ∙ c.loop-taken.invariant.locals;
}
