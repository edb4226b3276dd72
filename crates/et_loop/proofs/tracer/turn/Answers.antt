use Rattle.std.proofs.Common.{ℕ, ◌+◌, ◌++◌, ◌∙◌, List, sym, subst}
use Rattle.et_base.specs.declared.format.Format.{Format}
use Rattle.et_base.proofs.Options.{on_any_err}
use Rattle.et_binary.specs.Formats.{lines_written_in}
use Rattle.et_state.specs.History.{flush_lines}
use Rattle.et_state.specs.Naming.{Mentions}
use Rattle.et_loop.specs.Naming.{HasClasses}
use Rattle.et_loop.specs.Options.{guest_setting}
use Rattle.et_loop.specs.Stamping.{HasStamps}
use Rattle.et_io.specs.Sink.{TakesPrefix}
use Rattle.et_loop.specs.Run.{due_lines, last_lines, PutsFlush, PutsLast}
use Rattle.et_loop.specs.declared.schedule.Rota.{Rota}
use Rattle.et_loop.specs.Pace.{IsRota}
use Rattle.et_loop.specs.Quiet.{IsStep, IsBrokenStep, IsTurn}
use Rattle.et_state.specs.declared.records.output.Output.{Output}
use Rattle.et_loop.proofs.Flushed.{IsSettled, broken_at_flush, broken_turn, turn_goes, turn_ends, turn_broken}
use Rattle.et_loop.proofs.Quiets.{settled_stamps, settled_there}
use Rattle.et_loop.proofs.tracer.turn.Given.{Over}
use Rattle.et_loop.proofs.tracer.turn.Goals.{In_ok-settle, In-Ok}
use Rattle.et_loop.proofs.tracer.turn.Goals as goal

pub step-requires-clause-made : goal.step-requires-clause-made
step-requires-clause-made g c =
    let G = g.G.Guest in
    settled_there c.pass-due.result (G.graph_of (G.state c.args.guest.now)) (G.graph_of (G.state c.settle.new.guest)) c.in_ok-settle.ensures.graph c.requires.made

pub step-requires-clause-ready : goal.step-requires-clause-ready
step-requires-clause-ready g c =
    let G = g.G.Guest in
    let before = c.requires.ready in
    let stamps = settled_stamps c.pass-due.result (G.graph_of (G.state c.args.guest.now)) (G.graph_of (G.state c.settle.new.guest)) c.args.tracer.now.stamps c.in_ok-settle.ensures.graph before.flush.stamps in
    record {
      flush = record {
        sound = c.in_ok-settle.ensures.sound;
        stamps = subst (λ (xs : List ℕ). HasStamps (G.graph_of (G.state c.settle.new.guest)) xs) (sym c.in_ok-settle.ensures.stamps) stamps;
        room = c.in_ok-settle.ensures.room;
      };
      limit = before.limit;
      clock = c.in_ok-settle.ensures.clock ∙ before.clock;
      classes = subst (λ (m : Mentions). HasClasses (g.G.Code.Program.names c.args.program.now) m) (sym c.in_ok-settle.ensures.numbering) before.classes;
      format = c.in_ok-settle.ensures.format ∙ before.format;
      rota = subst (λ (r : Rota). IsRota c.args.options.now.schedule c.args.e r) (sym c.in_ok-settle.ensures.rota) before.rota;
    }

-- the flush was made, where it was due
settled : (g : Over) (c : In_ok-settle g)
    → IsSettled (guest_setting g.G.Guest g.G.Code.Program c.args.program.now c.args.options.now) g.G.Guest.flush_visits_of c.args.e (g.G.Guest.state c.args.guest.now) (g.G.Guest.state c.settle.new.guest) c.pass-due.result c.args.tracer.now.stamps c.args.tracer.now.buffer.items c.settle.new.tracer.buffer.items
    (g.O.Sink.taken c.args.sink.now) (g.O.Sink.taken c.settle.new.sink) c.args.visits.now c.settle.new.visits
settled g c = record {
  at = c.pass-due.ensures.due;
  state = c.in_ok-settle.ensures.state;
  graphs = c.in_ok-settle.ensures.graph;
  puts = subst (λ (f : Format). PutsFlush (g.G.Guest.graph_of (g.G.Guest.state c.args.guest.now)) c.args.tracer.now.stamps f c.pass-due.result c.args.e (g.O.Sink.taken c.args.sink.now) (g.O.Sink.taken c.settle.new.sink) c.args.tracer.now.buffer.items c.settle.new.tracer.buffer.items) c.requires.ready.format c.in_ok-settle.ensures.lines;
  few = c.in_ok-settle.ensures.visits;
}

-- .. and then a step
stepped : (g : Over) (c : In-Ok g)
    → IsStep (guest_setting g.G.Guest g.G.Code.Program c.args.program.now c.args.options.now) (g.G.Guest.said_of c.args.program.now) c.args.e (g.G.Guest.state c.settle.new.guest) c.args.tracer.now.stamps c.settle.new.visits c.step.new.visits c.args.tracer.now.numbering (g.G.Guest.state c.step.new.guest)
    c.step.new.tracer.numbering c.settle.new.tracer.buffer.items c.step.new.tracer.buffer.items c.step.new.tracer.output.said.items c.step.new.tracer.stamps c.in-Ok.progress
stepped g c =
    let G = g.G.Guest in
    let step = λ (stamps : List ℕ) (numbering : Mentions). IsStep (guest_setting G g.G.Code.Program c.args.program.now c.args.options.now) (G.said_of c.args.program.now) c.args.e (G.state c.settle.new.guest) stamps c.settle.new.visits c.step.new.visits numbering (G.state c.step.new.guest) c.step.new.tracer.numbering
    c.settle.new.tracer.buffer.items c.step.new.tracer.buffer.items c.step.new.tracer.output.said.items c.step.new.tracer.stamps c.in-Ok.progress in
    subst (λ (xs : List ℕ). step xs c.args.tracer.now.numbering) c.in_ok-settle.ensures.stamps (subst (λ (n : Mentions). step c.settle.new.tracer.stamps n) c.in_ok-settle.ensures.numbering c.in-Ok.ensures.step)

-- want of memory in the flush, or a put of its lines that failed
pub returns-in_err-settle-clause-broken : goal.returns-in_err-settle-clause-broken
returns-in_err-settle-clause-broken g c =
    let G = g.G.Guest in
    let taken = λ (sink : g.row.O.Denot). g.O.Sink.taken sink in
    let given = guest_setting G g.G.Code.Program c.args.program.now c.args.options.now in
    on_any_err c.from_residual.result
    (broken_at_flush given (G.said_of c.args.program.now) G.flush_visits_of c.args.e (G.state c.args.guest.now) c.pass-due.result c.args.tracer.now.stamps c.args.visits.now c.settle.new.visits c.pass-due.ensures.due c.in_err-settle.ensures.visits
    (taken c.args.sink.now) (taken c.settle.new.sink) c.args.tracer.now.buffer.items
    (λ deaths listed. subst (λ (f : Format). TakesPrefix (taken c.args.sink.now) (taken c.settle.new.sink) (c.args.tracer.now.buffer.items ++ lines_written_in f (due_lines c.pass-due.result (flush_lines c.args.e deaths)))) c.requires.ready.format (c.in_err-settle.ensures.err deaths listed)))

-- .. want of memory in an event
pub returns-in_default-clause-broken : goal.returns-in_default-clause-broken
returns-in_default-clause-broken g c =
    let G = g.G.Guest in
    let given = guest_setting G g.G.Code.Program c.args.program.now c.args.options.now in
    broken_turn (G.said_of c.args.program.now) (settled g (goal.at.returns-in_default-clause-broken g c).In_ok-settle)
    (subst (λ (xs : List ℕ). IsBrokenStep given (G.said_of c.args.program.now) c.args.e (G.state c.settle.new.guest) xs c.settle.new.visits c.step.new.visits) c.in_ok-settle.ensures.stamps c.in_default.ensures.broken)

-- the last event was done
pub returns-in-None-clause-turn : goal.returns-in-None-clause-turn
returns-in-None-clause-turn g c =
    let at = goal.at.returns-in-None-clause-turn g c in
    turn_goes (g.G.Guest.said_of c.args.program.now) (settled g at.In_ok-settle) (stepped g at.In-Ok) c.in-None.is

-- the history ended
pub returns-in_ok-conclude-in-Some-clause-turn : goal.returns-in_ok-conclude-in-Some-clause-turn
returns-in_ok-conclude-in-Some-clause-turn g c =
    let G = g.G.Guest in
    let at = goal.at.returns-in_ok-conclude-in-Some-clause-turn g c in
    let taken = λ (sink : g.row.O.Denot). g.O.Sink.taken sink in
    let given = guest_setting G g.G.Code.Program c.args.program.now c.args.options.now in
    let last = subst (λ (f : Format). PutsLast (G.graph_of (G.state c.step.new.guest)) c.step.new.tracer.stamps f c.pass-due.result (record { end = c.in-Some.end; event = c.args.e + c.in-Ok.progress.quiet }) (taken c.settle.new.sink) (taken c.conclude.new.sink) c.step.new.tracer.buffer.items c.conclude.new.tracer.buffer.items) c.in-Ok.ensures.format c.in_ok-conclude-in-Some.ensures.lines in
    subst (λ (o : Output). IsTurn given (G.said_of c.args.program.now) c.args.e (G.state c.args.guest.now) c.args.tracer.now.stamps c.args.visits.now c.conclude.new.visits G.flush_visits_of c.args.tracer.now.numbering (G.state c.conclude.new.guest) c.conclude.new.tracer.numbering (taken c.args.sink.now) (taken c.conclude.new.sink) c.args.tracer.now.buffer.items c.conclude.new.tracer.buffer.items o.said.items c.conclude.new.tracer.stamps c.in-Ok.progress) (sym c.in_ok-conclude-in-Some.ensures.output)
    (turn_ends (G.said_of c.args.program.now) (settled g at.In_ok-settle) (stepped g at.In-Ok) c.in-Some.is (taken c.conclude.new.sink) c.conclude.new.visits c.in_ok-conclude-in-Some.ensures.visits (G.state c.conclude.new.guest) c.conclude.new.tracer.numbering c.conclude.new.tracer.stamps c.conclude.new.tracer.buffer.items last)

pub returns-in_err-conclude-in-Some-clause-broken : goal.returns-in_err-conclude-in-Some-clause-broken
returns-in_err-conclude-in-Some-clause-broken g c =
    let at = goal.at.returns-in_err-conclude-in-Some-clause-broken g c in
    let taken = λ (sink : g.row.O.Denot). g.O.Sink.taken sink in
    on_any_err c.from_residual-in_err-conclude-in-Some.result
    (turn_broken (g.G.Guest.said_of c.args.program.now) (settled g at.In_ok-settle) (stepped g at.In-Ok) c.in-Some.is (taken c.conclude.new.sink) c.conclude.new.visits c.in_err-conclude-in-Some.ensures.visits
    (λ deaths listed. subst (λ (f : Format). TakesPrefix (taken c.settle.new.sink) (taken c.conclude.new.sink) (c.step.new.tracer.buffer.items ++ lines_written_in f (last_lines c.pass-due.result c.in-Some.end (c.args.e + c.in-Ok.progress.quiet) (flush_lines (c.args.e + c.in-Ok.progress.quiet) deaths)))) c.in-Ok.ensures.format (c.in_err-conclude-in-Some.ensures.err deaths listed)))
