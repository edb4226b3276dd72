use Rattle.std.proofs.Common.{◌≡◌, ℕ, Bool, ◌+◌, ◌-◌}
use Rattle.et_graph.specs.Graph.{Graph, Decides}
use Rattle.et_loop.specs.Options.{guest_setting}
use Rattle.et_loop.specs.Going.{IsReady}
use Rattle.et_loop.specs.Pace.{IsNextFlush}
use Rattle.et_loop.proofs.Standing.{Stands}
use Rattle.et_loop.proofs.run.run_guest.Given as goal

abbrev pub invariant-events : goal.invariant-events
invariant-events g l =
    let G = g.G.Guest in
    record {
      stands : (reached : Graph → ℕ → Bool) → (decides : Decides reached)
          → Stands reached decides (guest_setting G g.G.Code.Program l.program l.options) (G.said_of l.program) G.flush_visits_of (G.state l.fn.start.guest) l.fn.start.made l.tracer.numbering
          (g.O.Sink.taken l.fn.trace) (g.O.Sink.taken l.trace) (g.P.Sink.taken l.fn.printed) (g.P.Sink.taken l.printed) l.fn.visits l.e (G.state l.guest) l.tracer.stamps l.visits;
      ready : IsReady G g.G.Code.Program l.program l.options l.e (G.state l.guest) l.tracer.stamps l.tracer.numbering l.tracer.format l.tracer.rota l.tracer.room;
      next_flush : IsNextFlush l.options.interval l.e l.tracer.next_flush.event;
      faults : g.O.Sink.faults l.trace ≡ g.O.Sink.faults l.fn.trace;
      printed_faults : g.P.Sink.faults l.printed ≡ g.P.Sink.faults l.fn.printed;
    }

abbrev pub decreases-events : goal.decreases-events
decreases-events g l = l.options.limit + 1 - l.e
