use Rattle.std.proofs.Common.{ℕ, ◌+◌, None, refl, sym, ◌∙◌, ap, subst, arith}
use Rattle.std.specs.Prelude.{slice_index}
use Rattle.et_base.proofs.Options.{on_any_err}
use Rattle.et_loop.specs.Going.{MayFlush}
use Rattle.et_loop.specs.Options.{guest_setting}
use Rattle.et_loop.specs.Pace.{IsNextFlush, IsRota}
use Rattle.et_loop.specs.Quiet.{IsStretch, IsBrokenOff, IsStep}
use Rattle.et_loop.specs.Stamping.{Restamps}
use Rattle.et_loop.specs.declared.next_flush.NextFlush.{NextFlush}
use Rattle.et_loop.specs.declared.schedule.Rota.{Rota}
use Rattle.et_state.specs.declared.records.output.Output.{Output}
use Rattle.et_loop.proofs.Pacing.{next_flush_on, rota_on}
use Rattle.et_loop.proofs.Quiets.{ending_finished, ending_limit, step_over, tick_done}
use Rattle.et_loop.proofs.Stretches.{IsSliced, stretch_kept, as_long, broken_step, stretch_stops, stretch_goes, stretch_lost, stretch_grows, not_native}
use Rattle.et_loop.proofs.tracer.step.Given.{Over}
use Rattle.et_loop.proofs.tracer.step.Goals.{After-events, In_ok-stretch, In_ok-tell-in-None}
use Rattle.et_loop.proofs.tracer.step.Goals as goal

-- the history ends before any event
pub returns-then-count-eq0-clause-step : goal.returns-then-count-eq0-clause-step
returns-then-count-eq0-clause-step g c =
    let G = g.G.Guest in
    let given = guest_setting G g.G.Code.Program c.args.program.now c.args.options.now in
    let none = ap (λ (n : ℕ). n) c.unended-count.ensures in
    step_over given (G.said_of c.args.program.now) c.args.e (G.state c.args.guest.now) c.args.tracer.now.stamps c.args.visits.now c.args.tracer.now.numbering c.args.tracer.now.buffer.items _ _ (ending_finished given c.args.e (G.state c.args.guest.now) (omega arith)) c.clear.ensures.said

pub returns-then-e-options-clause-step : goal.returns-then-e-options-clause-step
returns-then-e-options-clause-step g c =
    let G = g.G.Guest in
    let given = guest_setting G g.G.Code.Program c.args.program.now c.args.options.now in
    step_over given (G.said_of c.args.program.now) c.args.e (G.state c.args.guest.now) c.args.tracer.now.stamps c.args.visits.now c.args.tracer.now.numbering c.args.tracer.now.buffer.items _ _ (ending_limit given c.args.e (G.state c.args.guest.now) (omega arith) (omega arith)) c.clear.ensures.said

-- THE EVENTS OF A SLICE
pub events-requires-clause-clock : goal.events-requires-clause-clock
events-requires-clause-clock g c = omega (arith, c.requires.ready.clock, c.next_slice-slice.ensures.slice.limit, c.requires.options.limit)

-- the slice is one of threads that have not ended
sliced : (g : Over) (c : After-events g) → IsSliced (g.G.Guest.event_of c.args.program.now) g.G.Guest.unended_of g.G.Guest.graph_of g.G.Guest.flushed_of (g.G.Code.Program.names c.args.program.now) c.args.options.now c.args.e c.unended-count.result c.next_slice-slice.result (g.G.Guest.state c.args.guest.now)
sliced g c = record { is = c.next_slice-slice.ensures.slice; counted = c.unended-count.ensures; some = omega arith }

-- .. and its events were done
done : (g : Over) (c : In_ok-stretch g)
    → IsStretch (g.G.Guest.event_of c.args.program.now) (g.G.Guest.said_of c.args.program.now) g.G.Guest.unended_of g.G.Guest.graph_of c.next_slice-slice.result.place c.next_slice-slice.result.events c.args.e (g.G.Guest.state c.args.guest.now) c.args.tracer.now.stamps c.events.new.stamps
    c.args.visits.now c.events.new.visits (g.G.Guest.state c.events.new.self) c.events.new.out.records c.events.new.out.said.items (g.G.Guest.lost_of c.events.new.self) c.in_ok-stretch.stretch
done g c =
    let G = g.G.Guest in
    subst (λ (n : ℕ). IsStretch (G.event_of c.args.program.now) (G.said_of c.args.program.now) G.unended_of G.graph_of c.next_slice-slice.result.place c.next_slice-slice.result.events n (G.state c.args.guest.now) c.args.tracer.now.stamps c.events.new.stamps c.args.visits.now c.events.new.visits (G.state c.events.new.self)
    c.events.new.out.records c.events.new.out.said.items (G.lost_of c.events.new.self) c.in_ok-stretch.stretch) c.requires.ready.clock c.in_ok-stretch.ensures.stretch

pub returns-in_err-stretch-clause-broken : goal.returns-in_err-stretch-clause-broken
returns-in_err-stretch-clause-broken g c =
    let G = g.G.Guest in
    on_any_err c.from_residual.result
    (broken_step (sliced g (goal.at.returns-in_err-stretch-clause-broken g c).After-events)
    (subst (λ (n : ℕ). IsBrokenOff (G.event_of c.args.program.now) (G.said_of c.args.program.now) G.unended_of G.graph_of c.next_slice-slice.result.place c.next_slice-slice.result.events n (G.state c.args.guest.now) c.args.tracer.now.stamps c.events.new.stamps c.args.visits.now c.events.new.visits) c.requires.ready.clock c.in_err-stretch.ensures.broken))

pub end_after-requires : goal.end_after-requires
end_after-requires g c = not_native (sliced g (goal.at.end_after-requires g c).After-events) (done g (goal.at.end_after-requires g c).In_ok-stretch)

-- THE LAST ONE
pub tell-requires-clause-clock : goal.tell-requires-clause-clock
tell-requires-clause-clock g c = omega (arith, c.in_ok-stretch.ensures.stretch.comes.few, c.next_slice-slice.ensures.slice.limit, c.requires.options.limit)

pub tell-requires-clause-more : goal.tell-requires-clause-more
tell-requires-clause-more g c =
    let at = goal.at.tell-requires-clause-more g c in
    let grows = stretch_grows (sliced g at.After-events) (done g at.In_ok-stretch) c.unended_at-thread.result (sym c.end_after.ensures ∙ c.in-None.is) in
    omega (arith, grows, c.made-before.ensures)

pub tell-requires-clause-lost : goal.tell-requires-clause-lost
tell-requires-clause-lost g c =
    let at = goal.at.tell-requires-clause-lost g c in
    stretch_lost (sliced g at.After-events) (done g at.In_ok-stretch) c.unended_at-thread.result (sym c.end_after.ensures ∙ c.in-None.is) c.requires.made

pub tell-requires-clause-stamps : goal.tell-requires-clause-stamps
tell-requires-clause-stamps g c =
    let at = goal.at.tell-requires-clause-stamps g c in
    let long = as_long (sliced g at.After-events) (done g at.In_ok-stretch) in
    omega (arith, long, c.requires.ready.flush.stamps.places, c.made-before.ensures)

pub tell-requires-clause-room : goal.tell-requires-clause-room
tell-requires-clause-room g c = subst (λ (n : ℕ). g.G.Guest.has_places c.args.tracer.now.room n) (sym c.made-before.ensures) c.requires.ready.flush.room

pub returns-in_err-tell-in-None-clause-broken : goal.returns-in_err-tell-in-None-clause-broken
returns-in_err-tell-in-None-clause-broken g c =
    let at = goal.at.returns-in_err-tell-in-None-clause-broken g c in
    let h = done g at.In_ok-stretch in
    on_any_err c.from_residual-in_err-tell-in-None.result (broken_step (sliced g at.After-events) (record { quiet = c.in_ok-stretch.stretch.quiet; mid = h.mid; comes = h.comes }))

pub returns-in_ok-tell-in-None-clause-step : goal.returns-in_ok-tell-in-None-clause-step
returns-in_ok-tell-in-None-clause-step g c =
    let G = g.G.Guest in
    let at = goal.at.returns-in_ok-tell-in-None-clause-step g c in
    let marks = subst (λ (n : ℕ). Restamps (c.args.e + c.in_ok-stretch.stretch.quiet) n (G.graph_of (G.state c.events.new.self)).made (G.lost_of c.events.new.self) (slice_index c.events.new.stamps) (slice_index c.tell.new.tracer.stamps)) c.made-before.ensures c.in_ok-tell-in-None.ensures.stamps in
    let given = guest_setting G g.G.Code.Program c.args.program.now c.args.options.now in
    subst (λ (o : Output). IsStep given (G.said_of c.args.program.now) c.args.e (G.state c.args.guest.now) c.args.tracer.now.stamps c.args.visits.now c.events.new.visits c.args.tracer.now.numbering (G.state c.events.new.self) c.tell.new.tracer.numbering c.args.tracer.now.buffer.items c.tell.new.tracer.buffer.items o.said.items c.tell.new.tracer.stamps (record { quiet = c.in_ok-stretch.stretch.quiet; end = None })) (sym c.in_ok-tell-in-None.ensures.output)
    (stretch_goes (sliced g at.After-events) (done g at.In_ok-stretch) c.unended_at-thread.result c.unended_at-thread.ensures c.args.tracer.now.numbering c.tell.new.tracer.numbering c.args.tracer.now.buffer.items c.tell.new.tracer.buffer.items c.tell.new.tracer.stamps (sym c.end_after.ensures ∙ c.in-None.is)
    c.in_ok-tell-in-None.ensures.mentions c.in_ok-tell-in-None.ensures.lines marks)

pub returns-in_ok-tell-in-None-clause-within : goal.returns-in_ok-tell-in-None-clause-within
returns-in_ok-tell-in-None-clause-within g c = omega (arith, c.in_ok-stretch.ensures.stretch.comes.few, c.next_slice-slice.ensures.slice.limit)

pub returns-in-Some-clause-within : goal.returns-in-Some-clause-within
returns-in-Some-clause-within g c = omega (arith, c.in_ok-stretch.ensures.stretch.comes.few, c.next_slice-slice.ensures.slice.limit)

-- the last event was done, and a flush may come
told : (g : Over) (c : In_ok-tell-in-None g) → MayFlush g.G.Guest c.args.program.now (g.G.Guest.state c.events.new.self) c.tell.new.tracer.stamps c.tell.new.tracer.room
told g c = record { sound = c.in_ok-stretch.ensures.sound; stamps = c.in_ok-tell-in-None.ensures.places; room = c.in_ok-tell-in-None.ensures.room }

pub returns-in_ok-tell-in-None-clause-flush : goal.returns-in_ok-tell-in-None-clause-flush
returns-in_ok-tell-in-None-clause-flush g c = told g (goal.at.returns-in_ok-tell-in-None-clause-flush g c).In_ok-tell-in-None

pub returns-in_ok-tell-in-None-clause-ready : goal.returns-in_ok-tell-in-None-clause-ready
returns-in_ok-tell-in-None-clause-ready g c =
    let G = g.G.Guest in
    let at = goal.at.returns-in_ok-tell-in-None-clause-ready g c in
    let native = not_native (sliced g at.After-events) (done g at.In_ok-stretch) in
    let ticked = tick_done c.unended_at-thread.result c.in_ok-stretch.stretch.end (G.clock_of (G.state c.args.guest.now) + c.in_ok-stretch.stretch.quiet) (G.clock_of (G.state c.events.new.self)) native (sym c.end_after.ensures ∙ c.in-None.is) c.in_ok-stretch.ensures.clock in
    record {
      flush = told g at.In_ok-tell-in-None;
      limit = omega (arith, c.in_ok-stretch.ensures.stretch.comes.few, c.next_slice-slice.ensures.slice.limit);
      clock = omega (arith, ticked, c.requires.ready.clock);
      classes = c.in_ok-tell-in-None.ensures.classes;
      format = c.in_ok-tell-in-None.ensures.format ∙ c.requires.ready.format;
      rota = subst (λ (r : Rota). IsRota c.args.options.now.schedule (c.args.e + c.in_ok-stretch.stretch.quiet + 1) r) (sym c.in_ok-tell-in-None.ensures.rota)
          (rota_on c.args.options.now.schedule (c.args.e + 1) (c.args.e + c.in_ok-stretch.stretch.quiet + 1) c.next_slice-slice.new.rota c.next_slice-slice.ensures.rota (omega arith));
    }

pub returns-in_ok-tell-in-None-clause-next_flush : goal.returns-in_ok-tell-in-None-clause-next_flush
returns-in_ok-tell-in-None-clause-next_flush g c =
    let few = c.in_ok-stretch.ensures.stretch.comes.few in
    subst (λ (f : NextFlush). IsNextFlush c.args.options.now.interval (c.args.e + c.in_ok-stretch.stretch.quiet + 1) f.event) (sym c.in_ok-tell-in-None.ensures.next_flush)
    (next_flush_on c.args.options.now.interval (c.args.e + 1) (c.args.e + c.in_ok-stretch.stretch.quiet + 1) c.args.tracer.now.next_flush.event c.requires.next_flush (omega arith)
    (λ some. let before = c.next_slice-slice.ensures.next_flush some in omega (arith, before, few)))

pub returns-in-Some-clause-step : goal.returns-in-Some-clause-step
returns-in-Some-clause-step g c =
    let at = goal.at.returns-in-Some-clause-step g c in
    stretch_stops (sliced g at.After-events) (done g at.In_ok-stretch) c.unended_at-thread.result c.unended_at-thread.ensures c.args.tracer.now.numbering c.args.tracer.now.numbering c.args.tracer.now.buffer.items c.args.tracer.now.buffer.items c.in-Some.end (sym c.end_after.ensures ∙ c.in-Some.is) refl refl

pub returns-in-Some-clause-flush : goal.returns-in-Some-clause-flush
returns-in-Some-clause-flush g c =
    let at = goal.at.returns-in-Some-clause-flush g c in
    let kept = stretch_kept (sliced g at.After-events) (done g at.In_ok-stretch) c.unended_at-thread.result c.in-Some.end c.unended_at-thread.ensures (sym c.end_after.ensures ∙ c.in-Some.is) in
    let long = as_long (sliced g at.After-events) (done g at.In_ok-stretch) in
    record {
      sound = c.in_ok-stretch.ensures.sound;
      stamps = record { few = omega (arith, kept, c.requires.ready.flush.stamps.few); places = omega (arith, kept, long, c.requires.ready.flush.stamps.places) };
      room = subst (λ (n : ℕ). g.G.Guest.has_places c.args.tracer.now.room n) (sym kept) c.requires.ready.flush.room;
    }
