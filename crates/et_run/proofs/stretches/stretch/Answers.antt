use Rattle.std.proofs.Common.{◌≡◌, ℕ, ◌+◌, List, length, Contains, refl, sym, ap, ◌∙◌, subst, rules, arith}
use Rattle.std.specs.Prelude.{All, IsTrue, slice_index}
use Rattle.et_base.proofs.Options.{on_any_err}
use Rattle.et_history.specs.Settings.{unended_threads}
use Rattle.et_history.specs.steps.Telling.{names_of_program}
use Rattle.et_state.specs.Answers.{TicksWhereDone}
use Rattle.et_state.specs.Naming.{IsNamed}
use Rattle.et_run.specs.WithTexts.{state_of}
use Rattle.et_run.specs.declared.with_texts.MachineWithTexts.{MachineWithTexts}
use Rattle.et_state.specs.declared.ends.EventEnd.TheVariants.{Done}
use Rattle.et_state.specs.declared.records.Record.{Record}
use Rattle.et_run.proofs.Stretching.{IsGoing, going_first, is_there, going_quietly, going_broken, going_ends, going_native, ticks_where, lost_there, going_on}
use Rattle.et_run.proofs.stretches.stretch.Given.{Over}
use Rattle.et_run.proofs.stretches.stretch.Goals.{After-frame_stretch-quiet, After-stamp_each, After-unended_count}
use Rattle.et_run.proofs.stretches.stretch.Goals as goal

-- the threads that have not ended
counted : (g : Over) (c : After-unended_count g) → c.unended_count.result ≡ length (unended_threads (state_of c.args.running.now))
counted g c = c.unended_count.ensures ∙ ap (λ (r : MachineWithTexts). length (unended_threads (state_of r))) c.running.view_is

pub events-init : goal.events-init
events-init g c =
    let made : c.count.result + 1 ≡ length (state_of c.args.running.now).heap = c.count.ensures.value ∙ ap (λ (r : MachineWithTexts). length (state_of r).heap) c.running.view_is in
    let thread : c.nth_unended-thread.result ≡ slice_index (unended_threads (state_of c.args.running.now)) c.args.slice.place = c.nth_unended-thread.ensures ∙ ap (λ (r : MachineWithTexts). slice_index (unended_threads (state_of r)) c.args.slice.place) c.running.view_is in
    going_first c.args.program.now c.args.slice.place c.args.slice.events c.args.running.now.machine.guest.clock (state_of c.args.running.now) c.args.stamps.now c.nth_unended-thread.result c.unended_count.result c.count.result c.args.visits.now c.args.out.now.records c.args.out.now.said.items c.requires.some refl c.requires.sound c.requires.made c.requires.stamps c.requires.empty c.requires.unsaid
    (omega (arith, made)) (sym (counted g (goal.at.events-init g c).After-unended_count)) (sym thread)

pub frame_stretch-quiet-requires-clause-clock : goal.frame_stretch-quiet-requires-clause-clock
frame_stretch-quiet-requires-clause-clock g c = omega (arith, c.events.invariant.clock, c.events.invariant.few, c.requires.clock, c.frames_behind-most.ensures)

pub frame_stretch-quiet-requires-clause-thread : goal.frame_stretch-quiet-requires-clause-thread
frame_stretch-quiet-requires-clause-thread g c =
    let count = counted g (goal.at.frame_stretch-quiet-requires-clause-thread g c).After-unended_count in
    is_there c.events.invariant (omega (arith, c.requires.place, count))

-- behind the quiet events of a round
quietly : (g : Over) (c : After-frame_stretch-quiet g)
    → IsGoing c.args.program.now c.args.slice.place c.args.slice.events c.args.running.now.machine.guest.clock (state_of c.args.running.now) c.args.stamps.now c.nth_unended-thread.result c.unended_count.result c.count.result c.args.visits.now
    (c.events.quiet + c.frame_stretch-quiet.result) (state_of c.frame_stretch-quiet.new.running) c.frame_stretch-quiet.new.stamps c.events.out.records c.events.out.said.items c.frame_stretch-quiet.new.visits
quietly g c =
    let quiet = c.frame_stretch-quiet.ensures in
    going_quietly c.events.invariant c.frame_stretch-quiet.result (state_of c.frame_stretch-quiet.new.running) c.frame_stretch-quiet.new.stamps (omega (arith, quiet.few, c.frames_behind-most.ensures)) quiet.quiet quiet.clock quiet.sound c.frame_stretch-quiet.new.visits quiet.visits

pub running_event-requires-clause-clock : goal.running_event-requires-clause-clock
running_event-requires-clause-clock g c =
    let going = quietly g (goal.at.running_event-requires-clause-clock g c).After-frame_stretch-quiet in
    omega (arith, going.clock, going.few, c.requires.clock)

pub running_event-requires-clause-thread : goal.running_event-requires-clause-thread
running_event-requires-clause-thread g c =
    let at = goal.at.running_event-requires-clause-thread g c in
    let count = counted g at.After-unended_count in
    is_there (quietly g at.After-frame_stretch-quiet) (omega (arith, c.requires.place, count))

pub returns-in_err-end-clause-broken : goal.returns-in_err-end-clause-broken
returns-in_err-end-clause-broken g c =
    on_any_err c.from_residual.result
    (going_broken (quietly g (goal.at.returns-in_err-end-clause-broken g c).After-frame_stretch-quiet) Done (state_of c.running_event.new.running) c.running_event.new.out.records c.running_event.new.out.said.items c.running_event.new.running.machine.lost c.running_event.new.visits c.in_err-end.ensures.visits)

pub returns-then-quiet-slice-clause-stretch : goal.returns-then-quiet-slice-clause-stretch
returns-then-quiet-slice-clause-stretch g c =
    going_ends (quietly g (goal.at.returns-then-quiet-slice-clause-stretch g c).After-frame_stretch-quiet) c.in_ok-end.end (state_of c.running_event.new.running) c.running_event.new.out.records c.running_event.new.out.said.items c.running_event.new.running.machine.lost c.running_event.new.visits
    c.in_ok-end.ensures.answers c.in_ok-end.ensures.says c.in_ok-end.ensures.step c.in_ok-end.ensures.visits

pub returns-then-quiet-slice-clause-clock : goal.returns-then-quiet-slice-clause-clock
returns-then-quiet-slice-clause-clock g c =
    let going = quietly g (goal.at.returns-then-quiet-slice-clause-clock g c).After-frame_stretch-quiet in
    subst (λ (n : ℕ). TicksWhereDone c.in_ok-end.end n c.running_event.new.running.machine.guest.clock) going.clock c.in_ok-end.ensures.clock

pub returns-then-quiet-slice-clause-named : goal.returns-then-quiet-slice-clause-named
returns-then-quiet-slice-clause-named g c =
    let going = quietly g (goal.at.returns-then-quiet-slice-clause-named g c).After-frame_stretch-quiet in
    let P = IsNamed (names_of_program c.args.program.now) in
    c.in_ok-end.ensures.named (subst (λ (rs : List Record). All P rs) (sym going.empty) (λ k d lt. absurd (omega arith)))

pub stamp_each-requires-clause-places : goal.stamp_each-requires-clause-places
stamp_each-requires-clause-places g c = λ o h.
    let going = quietly g (goal.at.stamp_each-requires-clause-places g c).After-frame_stretch-quiet in
    let yes : IsTrue c.is_quiet.result = search rules in
    lost_there going c.in_ok-end.end (state_of c.running_event.new.running) c.running_event.new.out.records c.running_event.new.out.said.items c.running_event.new.running.machine.lost c.running_event.new.visits
    c.in_ok-end.ensures.answers c.in_ok-end.ensures.says c.in_ok-end.ensures.step (c.is_quiet.ensures.done yes) (c.is_quiet.ensures.stands yes).objects o (subst (λ (os : List ℕ). Contains os o) c.lost.ensures h)

-- .. and behind the one after them, which is quiet too
quiet_too : (g : Over) (c : After-stamp_each g)
    → IsGoing c.args.program.now c.args.slice.place c.args.slice.events c.args.running.now.machine.guest.clock (state_of c.args.running.now) c.args.stamps.now c.nth_unended-thread.result c.unended_count.result c.count.result c.args.visits.now
    (c.events.quiet + c.frame_stretch-quiet.result + 1) (state_of c.running_event.new.running) c.stamp_each.new.stamps c.running_event.new.out.records c.running_event.new.out.said.items c.running_event.new.visits
quiet_too g c =
    let before = c.frame_stretch-quiet.ensures in
    let going = going_quietly c.events.invariant c.frame_stretch-quiet.result (state_of c.frame_stretch-quiet.new.running) c.frame_stretch-quiet.new.stamps (omega (arith, before.few, c.frames_behind-most.ensures)) before.quiet before.clock before.sound c.frame_stretch-quiet.new.visits before.visits in
    let yes : IsTrue c.is_quiet.result = search rules in
    let quiet = c.is_quiet.ensures in
    let end = c.in_ok-end.ensures in
    let at : c.clock-e.result ≡ c.args.running.now.machine.guest.clock + (c.events.quiet + c.frame_stretch-quiet.result) = c.clock-e.ensures ∙ going.clock in
    let there = λ (o : ℕ) (h : Contains c.running_event.new.running.machine.lost o). subst (λ (os : List ℕ). Contains os o) (sym c.lost.ensures) h in
    let back = λ (o : ℕ) (h : Contains c.lost.result.now o). subst (λ (os : List ℕ). Contains os o) c.lost.ensures h in
    let native = going_native going c.in_ok-end.end (state_of c.running_event.new.running) c.running_event.new.out.records c.running_event.new.out.said.items c.running_event.new.running.machine.lost c.running_event.new.visits end.answers in
    let ticked = ticks_where c.in_ok-end.end c.frame_stretch-quiet.new.running.machine.guest.clock c.running_event.new.running.machine.guest.clock (quiet.done yes) native end.clock in
    going_on going c.in_ok-end.end (state_of c.running_event.new.running) c.running_event.new.out.records c.running_event.new.out.said.items c.running_event.new.running.machine.lost c.running_event.new.visits
    end.answers end.says end.step (quiet.done yes) c.stamp_each.new.stamps (omega arith) (quiet.told yes) (quiet.unsaid yes) (quiet.stands yes).objects (quiet.stands yes).threads (quiet.stands yes).thread
    c.stamp_each.ensures.long (λ o h. c.stamp_each.ensures.each o (there o h) ∙ at) (λ o out. c.stamp_each.ensures.others o (λ h. out (back o h))) (omega (arith, ticked, going.clock)) end.sound end.visits

pub waiting_events-quiet-requires-clause-clock : goal.waiting_events-quiet-requires-clause-clock
waiting_events-quiet-requires-clause-clock g c =
    let now = quiet_too g (goal.at.waiting_events-quiet-requires-clause-clock g c).After-stamp_each in
    omega (arith, now.clock, now.few, c.requires.clock)

pub waiting_events-quiet-requires-clause-thread : goal.waiting_events-quiet-requires-clause-thread
waiting_events-quiet-requires-clause-thread g c =
    let at = goal.at.waiting_events-quiet-requires-clause-thread g c in
    let count = counted g at.After-unended_count in
    is_there (quiet_too g at.After-stamp_each) (omega (arith, c.requires.place, count))

pub events-preserved : goal.events-preserved
events-preserved g c =
    going_quietly (quiet_too g (goal.at.events-preserved g c).After-stamp_each) c.waiting_events-quiet.result (state_of c.waiting_events-quiet.new.running) c.stamp_each.new.stamps c.waiting_events-quiet.ensures.few (c.waiting_events-quiet.ensures.quiet c.stamp_each.new.stamps) c.waiting_events-quiet.ensures.clock c.waiting_events-quiet.ensures.sound c.running_event.new.visits (omega arith)
