use Rattle.std.proofs.Common.{subst}
use Rattle.std.specs.Prelude.{All, IfOk, OnErr, OnOk}
use Rattle.et_program.specs.Entries.{Linked}
use Rattle.et_event.specs.Told.{event_with_texts, said_by}
use Rattle.et_state.specs.Naming.{IsNamed}
use Rattle.et_state.specs.Roots.{graph_of}
use Rattle.et_run.specs.WithTexts.{state_of}
use Rattle.et_run.specs.declared.with_texts.MachineWithTexts.{MachineWithTexts}
use Rattle.et_history.specs.Settings.{unended_threads}
use Rattle.et_history.specs.steps.Telling.{names_of_program}
use Rattle.et_loop.specs.Quiet.{IsStretch, IsBrokenOff}
use Rattle.et_run.proofs.guest.ProgramGuestGuest.events.Goals as goal

pub returns-clause-stretch : goal.returns-clause-stretch
returns-clause-stretch g c =
    subst (λ (m : MachineWithTexts). IfOk c.stretch.result (λ stretch. IsStretch (event_with_texts c.args.program.now) (said_by c.args.program.now) unended_threads graph_of c.args.slice.place c.args.slice.events m.machine.guest.clock (state_of m) c.args.stamps.now
    c.stretch.new.stamps c.args.visits.now c.stretch.new.visits (state_of c.stretch.new.running) c.stretch.new.out.records c.stretch.new.out.said.items c.stretch.new.running.machine.lost stretch)) c.self.view_is
    (subst (λ (p : Linked). IfOk c.stretch.result (λ stretch. IsStretch (event_with_texts p) (said_by p) unended_threads graph_of c.args.slice.place c.args.slice.events c.self.inside.running.machine.guest.clock (state_of c.self.inside.running) c.args.stamps.now
    c.stretch.new.stamps c.args.visits.now c.stretch.new.visits (state_of c.stretch.new.running) c.stretch.new.out.records c.stretch.new.out.said.items c.stretch.new.running.machine.lost stretch)) c.program.ensures c.stretch.ensures.stretch)

pub returns-clause-broken : goal.returns-clause-broken
returns-clause-broken g c =
    subst (λ (m : MachineWithTexts). OnErr c.stretch.result (IsBrokenOff (event_with_texts c.args.program.now) (said_by c.args.program.now) unended_threads graph_of c.args.slice.place c.args.slice.events m.machine.guest.clock (state_of m) c.args.stamps.now
    c.stretch.new.stamps c.args.visits.now c.stretch.new.visits)) c.self.view_is
    (subst (λ (p : Linked). OnErr c.stretch.result (IsBrokenOff (event_with_texts p) (said_by p) unended_threads graph_of c.args.slice.place c.args.slice.events c.self.inside.running.machine.guest.clock (state_of c.self.inside.running) c.args.stamps.now
    c.stretch.new.stamps c.args.visits.now c.stretch.new.visits)) c.program.ensures c.stretch.ensures.broken)

pub returns-clause-named : goal.returns-clause-named
returns-clause-named g c =
    subst (λ (p : Linked). OnOk c.stretch.result (All (IsNamed (names_of_program p)) c.stretch.new.out.records)) c.program.ensures c.stretch.ensures.named
