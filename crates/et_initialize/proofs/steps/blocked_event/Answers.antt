use Rattle.std.proofs.Common.{sym, subst, inl, inr}
use Rattle.et_state.specs.State.{Kept}
use Rattle.et_state.specs.Outcome.{Outcome}
use Rattle.et_event.specs.Answered.{EventAnswers}
use Rattle.et_initialize.proofs.Turning.{answers_alike, met_at, blocked_untouched, not_ready, not_quiet}
use Rattle.et_initialize.proofs.steps.blocked_event.Goals as goal

pub begin_after-requires-clause-untouched : goal.begin_after-requires-clause-untouched
begin_after-requires-clause-untouched c =
    blocked_untouched c.args.program.now c.args.thread c.args.blocker c.args.classes.now c.args.machine.now c.need_of.result c.requires.goes.prepares.order c.requires.goes.prepares.classes c.requires.goes.prepares.sound c.requires.goes.ready c.requires.blocked c.need_of.ensures c.in-Begins.is

pub returns-in-Begins : goal.returns-in-Begins
returns-in-Begins c =
    answers_alike c.begin_after.result _ _ c.args.machine.now c.begin_after.new.machine c.args.out.now c.begin_after.new.out
    (met_at c.args.program.now c.args.thread c.args.blocker c.args.classes.now c.args.machine.now c.need_of.result _ c.requires.goes.prepares.order c.requires.goes.prepares.classes c.requires.goes.prepares.sound c.requires.goes.ready c.requires.blocked c.need_of.ensures c.in-Begins.is) c.begin_after.ensures

pub returns-in-Failed : goal.returns-in-Failed
returns-in-Failed c =
    answers_alike c.throw_after.result _ _ c.args.machine.now c.throw_after.new.machine c.args.out.now c.throw_after.new.out
    (met_at c.args.program.now c.args.thread c.args.blocker c.args.classes.now c.args.machine.now c.need_of.result _ c.requires.goes.prepares.order c.requires.goes.prepares.classes c.requires.goes.prepares.sound c.requires.goes.ready c.requires.blocked c.need_of.ensures c.in-Failed.is) c.throw_after.ensures

pub returns-in-Waits : goal.returns-in-Waits
returns-in-Waits c =
    subst (λ (x : Outcome Kept). EventAnswers x c.wait_event.result c.args.machine.now c.wait_event.new.machine c.args.out.now c.args.out.now)
    (sym (met_at c.args.program.now c.args.thread c.args.blocker c.args.classes.now c.args.machine.now c.need_of.result _ c.requires.goes.prepares.order c.requires.goes.prepares.classes c.requires.goes.prepares.sound c.requires.goes.ready c.requires.blocked c.need_of.ensures c.in-Waits.is))
    (c.wait_event.ensures c.args.program.now c.args.thread c.args.out.now)

pub unreachable-requires : goal.unreachable-requires
unreachable-requires c = elim c.in-Ready.is [
  | inl is ↦ not_ready c.args.program.now c.args.thread c.args.blocker c.args.machine.now c.need_of.result c.requires.blocked c.need_of.ensures is
  | inr is ↦ not_quiet c.args.program.now c.args.thread c.args.blocker c.args.machine.now c.need_of.result c.requires.blocked c.need_of.ensures is
]
