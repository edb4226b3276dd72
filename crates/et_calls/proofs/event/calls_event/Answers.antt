use Rattle.std.proofs.Common.{◌∙◌, sym}
use Rattle.et_state.specs.declared.stage.Turn.TheVariants.{Entry, Initialize}
use Rattle.et_state.specs.State.{kept_of}
use Rattle.et_event.specs.Event.{event}
use Rattle.et_event.specs.Selected.{deferred_call}
use Rattle.et_event.proofs.Deferrals.{none_deferred}
use Rattle.et_builtins.proofs.Deferring.{at_turn}
use Rattle.et_calls.proofs.Told.{left_to_none, names_none, none_within}
use Rattle.et_calls.proofs.event.calls_event.Goals as goal

pub returns-in-Entry-clause-event : goal.returns-in-Entry-clause-event
returns-in-Entry-clause-event g c = left_to_none (deferred_call c.args.program.now (kept_of c.args.machine.now) c.args.thread) (event c.args.program.now (kept_of c.args.machine.now) c.args.thread) c.args.machine.now c.entry_event.new.machine c.args.out.now c.entry_event.new.out c.entry_event.result (at_turn c.args.program.now (kept_of c.args.machine.now) c.args.thread Entry (sym c.turn.ensures ∙ c.in-Entry.is)) c.entry_event.ensures.ok

pub returns-in-Entry-clause-native : goal.returns-in-Entry-clause-native
returns-in-Entry-clause-native g c = names_none (deferred_call c.args.program.now (kept_of c.args.machine.now) c.args.thread) (event c.args.program.now (kept_of c.args.machine.now) c.args.thread) c.args.machine.now c.entry_event.new.machine c.args.out.now c.entry_event.new.out c.entry_event.result (at_turn c.args.program.now (kept_of c.args.machine.now) c.args.thread Entry (sym c.turn.ensures ∙ c.in-Entry.is)) c.entry_event.ensures.ok

pub returns-in-Entry-clause-within : goal.returns-in-Entry-clause-within
returns-in-Entry-clause-within g c = none_within _ (event c.args.program.now (kept_of c.args.machine.now) c.args.thread) c.args.machine.now c.entry_event.new.machine c.args.out.now c.entry_event.new.out c.entry_event.result c.entry_event.ensures.ok

pub returns-in-Entry-clause-deferred : goal.returns-in-Entry-clause-deferred
returns-in-Entry-clause-deferred g c = λ some. absurd (none_deferred (deferred_call c.args.program.now (kept_of c.args.machine.now) c.args.thread) (at_turn c.args.program.now (kept_of c.args.machine.now) c.args.thread Entry (sym c.turn.ensures ∙ c.in-Entry.is)) some)

pub returns-in-Initialize-clause-event : goal.returns-in-Initialize-clause-event
returns-in-Initialize-clause-event g c = left_to_none (deferred_call c.args.program.now (kept_of c.args.machine.now) c.args.thread) (event c.args.program.now (kept_of c.args.machine.now) c.args.thread) c.args.machine.now c.initializer_event.new.machine c.args.out.now c.initializer_event.new.out c.initializer_event.result (at_turn c.args.program.now (kept_of c.args.machine.now) c.args.thread Initialize (sym c.turn.ensures ∙ c.in-Initialize.is)) c.initializer_event.ensures

pub returns-in-Initialize-clause-native : goal.returns-in-Initialize-clause-native
returns-in-Initialize-clause-native g c = names_none (deferred_call c.args.program.now (kept_of c.args.machine.now) c.args.thread) (event c.args.program.now (kept_of c.args.machine.now) c.args.thread) c.args.machine.now c.initializer_event.new.machine c.args.out.now c.initializer_event.new.out c.initializer_event.result (at_turn c.args.program.now (kept_of c.args.machine.now) c.args.thread Initialize (sym c.turn.ensures ∙ c.in-Initialize.is)) c.initializer_event.ensures

pub returns-in-Initialize-clause-within : goal.returns-in-Initialize-clause-within
returns-in-Initialize-clause-within g c = none_within _ (event c.args.program.now (kept_of c.args.machine.now) c.args.thread) c.args.machine.now c.initializer_event.new.machine c.args.out.now c.initializer_event.new.out c.initializer_event.result c.initializer_event.ensures
