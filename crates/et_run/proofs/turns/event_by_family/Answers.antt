use Rattle.std.proofs.Common.{sym, ◌∙◌, arith}
use Rattle.et_state.specs.State.{Kept, kept_of}
use Rattle.et_event.specs.Event.{event}
use Rattle.et_event.specs.declared.families.Family.TheVariants.{Ops, Throw, Sync}
use Rattle.et_event.proofs.Answering.{if_ok}
use Rattle.et_run.proofs.TextTurns.{other_answers, other_not, heap_answers, heap_read}
use Rattle.et_run.proofs.turns.event_by_family.Goals as goal

pub returns-in-Ops-clause-event : goal.returns-in-Ops-clause-event
returns-in-Ops-clause-event g c =
    other_answers c.args.program.now c.args.thread Ops c.args.machine.now c.ops_event.new.machine c.args.out.now c.ops_event.new.out c.ops_event.result (sym c.turn_family.ensures ∙ c.in-Ops.is) (λ e. cc) (λ e. cc) c.ops_event.ensures.event

pub returns-in-Refs-clause-event : goal.returns-in-Refs-clause-event
returns-in-Refs-clause-event g c =
    let p = c.args.program.now in
    let m = c.args.machine.now in
    let s : Kept = kept_of m in
    if_ok c.refs_event.result
    (λ end a. heap_answers p s c.args.thread (event p s c.args.thread) end m c.refs_event.new.machine c.args.out.now c.refs_event.new.out (sym c.turn_family.ensures ∙ c.in-Refs.is) a)
    c.refs_event.ensures.event

pub returns-in-Refs-clause-deferred : goal.returns-in-Refs-clause-deferred
returns-in-Refs-clause-deferred g c = λ some.
    let p = c.args.program.now in
    let s : Kept = kept_of c.args.machine.now in
    let same = c.refs_event.ensures.deferred (heap_read p s c.args.thread (sym c.turn_family.ensures ∙ c.in-Refs.is) some) in
    omega (arith, same)

pub returns-in-Throw-clause-event : goal.returns-in-Throw-clause-event
returns-in-Throw-clause-event g c =
    other_answers c.args.program.now c.args.thread Throw c.args.machine.now c.throw_event.new.machine c.args.out.now c.throw_event.new.out c.throw_event.result (sym c.turn_family.ensures ∙ c.in-Throw.is) (λ e. cc) (λ e. cc) c.throw_event.ensures.event

pub returns-in-Throw-clause-deferred : goal.returns-in-Throw-clause-deferred
returns-in-Throw-clause-deferred g c = λ some. absurd (other_not c.args.program.now (kept_of c.args.machine.now) c.args.thread Throw (sym c.turn_family.ensures ∙ c.in-Throw.is) (λ e. cc) (λ e. cc) some)

pub returns-in-Sync-clause-event : goal.returns-in-Sync-clause-event
returns-in-Sync-clause-event g c =
    other_answers c.args.program.now c.args.thread Sync c.args.machine.now c.sync_event.new.machine c.args.out.now c.sync_event.new.out c.sync_event.result (sym c.turn_family.ensures ∙ c.in-Sync.is) (λ e. cc) (λ e. cc) c.sync_event.ensures.event

pub returns-in-Sync-clause-deferred : goal.returns-in-Sync-clause-deferred
returns-in-Sync-clause-deferred g c = λ some. absurd (other_not c.args.program.now (kept_of c.args.machine.now) c.args.thread Sync (sym c.turn_family.ensures ∙ c.in-Sync.is) (λ e. cc) (λ e. cc) some)
