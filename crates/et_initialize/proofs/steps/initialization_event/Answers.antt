use Rattle.std.proofs.Common.{ℕ, ◌<◌, length, sym, ap, subst, ◌∙◌}
use Rattle.std.proofs.lemmas.List.Elements.{All-take}
use Rattle.et_base.proofs.Tests.{below_other}
use Rattle.et_program.specs.Entries.{ClassInfoOf}
use Rattle.et_event.specs.Moments.{moment}
use Rattle.et_initialize.proofs.Stepping.{waiting}
use Rattle.et_initialize.proofs.Turning.{answers_alike, all_within, all_ready, blocker_fails, step_on, step_blocked}
use Rattle.et_initialize.proofs.steps.initialization_event.Goals as goal

pub class-requires : goal.class-requires
class-requires c = (waiting c.args.program.now c.args.class c.args.thread c.args.machine.now c.requires.sound c.requires.frame c.requires.stage).class

pub ready_count-count-requires-clause-all : goal.ready_count-count-requires-clause-all
ready_count-count-requires-clause-all c = all_within (length c.args.program.now.classes) c.as_slice-classes.result.now _ c.as_slice-classes.ensures.value c.class.ensures.within.prerequisites

pub enter_event-requires-clause-class : goal.enter_event-requires-clause-class
enter_event-requires-clause-class c = (waiting c.args.program.now c.args.class c.args.thread c.args.machine.now c.requires.sound c.requires.frame c.requires.stage).class

pub enter_event-requires-clause-goes : goal.enter_event-requires-clause-goes
enter_event-requires-clause-goes c = record {
  prepares = record {
    order = c.requires.program;
    classes = all_within (length c.args.program.now.classes) c.as_slice-classes.result.now _ c.as_slice-classes.ensures.value c.class.ensures.within.prerequisites;
    sound = c.requires.sound;
    clock = c.requires.clock;
  };
  frame = c.requires.frame;
  ready = all_ready (moment c.args.program.now c.args.machine.now c.args.thread) c.as_slice-classes.result.now c.ready_count-count.result c.if-count-classes.true c.ready_count-count.ensures.ready;
}

pub returns-then-count-classes : goal.returns-then-count-classes
returns-then-count-classes c =
    answers_alike c.enter_event.result _ _ c.args.machine.now c.enter_event.new.machine c.args.out.now c.enter_event.new.out
    (step_on c.args.program.now c.args.thread c.args.class c.args.machine.now c.as_slice-classes.result.now (c.as_slice-classes.ensures.value ∙ ap (λ (i : ClassInfoOf). i.prerequisites) c.class.ensures.value)
    (all_ready (moment c.args.program.now c.args.machine.now c.args.thread) c.as_slice-classes.result.now c.ready_count-count.result c.if-count-classes.true c.ready_count-count.ensures.ready)) c.enter_event.ensures

pub blocked_event-requires-clause-class : goal.blocked_event-requires-clause-class
blocked_event-requires-clause-class c =
    let lt = below_other c.ready_count-count.result (length c.as_slice-classes.result.now) c.ready_count-count.ensures.few c.if-count-classes.false in
    subst (λ (k : ℕ). k < length c.args.program.now.classes) (sym c.index-classes-count.is)
    (all_within (length c.args.program.now.classes) c.as_slice-classes.result.now _ c.as_slice-classes.ensures.value c.class.ensures.within.prerequisites c.ready_count-count.result c.index-classes-count.result lt)

pub blocked_event-requires-clause-goes : goal.blocked_event-requires-clause-goes
blocked_event-requires-clause-goes c = record {
  prepares = record {
    order = c.requires.program;
    classes =
        All-take (λ k. k < length c.args.program.now.classes) c.ready_count-count.result c.as_slice-classes.result.now
        (all_within (length c.args.program.now.classes) c.as_slice-classes.result.now _ c.as_slice-classes.ensures.value c.class.ensures.within.prerequisites);
    sound = c.requires.sound;
    clock = c.requires.clock;
  };
  frame = c.requires.frame;
  ready = c.ready_count-count.ensures.ready;
}

pub blocked_event-requires-clause-blocked : goal.blocked_event-requires-clause-blocked
blocked_event-requires-clause-blocked c =
    let lt = below_other c.ready_count-count.result (length c.as_slice-classes.result.now) c.ready_count-count.ensures.few c.if-count-classes.false in
    blocker_fails (moment c.args.program.now c.args.machine.now c.args.thread) c.as_slice-classes.result.now c.ready_count-count.result c.index-classes-count.result lt c.index-classes-count.is (c.ready_count-count.ensures.blocker lt)

pub returns : goal.returns
returns c =
    let lt = below_other c.ready_count-count.result (length c.as_slice-classes.result.now) c.ready_count-count.ensures.few c.if-count-classes.false in
    answers_alike c.blocked_event.result _ _ c.args.machine.now c.blocked_event.new.machine c.args.out.now c.blocked_event.new.out
    (step_blocked c.args.program.now c.args.thread c.args.class c.args.machine.now c.as_slice-classes.result.now c.ready_count-count.result c.index-classes-count.result (c.as_slice-classes.ensures.value ∙ ap (λ (i : ClassInfoOf). i.prerequisites) c.class.ensures.value)
    lt c.index-classes-count.is c.ready_count-count.ensures.ready (c.ready_count-count.ensures.blocker lt)) c.blocked_event.ensures
