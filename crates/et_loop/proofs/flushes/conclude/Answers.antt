use Rattle.std.proofs.Common.{◌≡◌, ℕ, ◌+◌, ◌≤◌, ◌++◌, Bool, false, List, sym, ◌∙◌, ap, subst, append_assoc}
use Rattle.et_base.specs.declared.format.Format.{Format}
use Rattle.et_base.specs.declared.line.TraceLine.TheVariants.{Finish}
use Rattle.std.specs.Prelude.{◌↔◌, IsTrue}
use Rattle.std.proofs.lemmas.Bool.{not-true}
use Rattle.et_base.proofs.Options.{on_any_err}
use Rattle.et_graph.specs.Graph.{IsReached}
use Rattle.et_graph.proofs.Walks.{is_reached, is_reached_decides}
use Rattle.et_io.specs.Sink.{TakesUpTo, TakesPrefix}
use Rattle.et_io.proofs.Taking.{gathers, takes_no_more}
use Rattle.et_state.specs.History.{flush_lines, how_of}
use Rattle.et_binary.specs.Formats.{written_in}
use Rattle.et_loop.specs.Visits.{last_visits}
use Rattle.et_loop.proofs.Counts.{last_flush}
use Rattle.et_loop.proofs.Putting.{last_written, flush_stops}
use Rattle.et_loop.proofs.flushes.conclude.Given.{Over}
use Rattle.et_loop.proofs.flushes.conclude.Goals.{After-settle}
use Rattle.et_loop.proofs.flushes.conclude.Goals as goal

-- the flush visits as often as a last one may
few : (g : Over) (c : After-settle g) (here : ℕ → Bool) → (c.args.due ≡ false → (o : ℕ) → IsTrue (here o) ↔ IsReached (g.G.Guest.graph_of (g.G.Guest.state c.args.guest.now)) o)
    → c.settle.new.visits ≤ c.args.visits.now + last_visits c.args.due (g.G.Guest.flush_visits_of here (g.G.Guest.state c.args.guest.now))
few g c here decides =
    let G = g.G.Guest in
    let s = G.state c.args.guest.now in
    last_flush c.args.due (G.flush_visits_of here s) (G.flush_visits_of (is_reached (G.graph_of s)) s) c.args.visits.now c.settle.new.visits (λ no. c.settle.ensures.visits here (decides no)) (c.settle.ensures.visits (is_reached (G.graph_of s)) (is_reached_decides (G.graph_of s)))

pub returns-in_err-settle-clause-visits : goal.returns-in_err-settle-clause-visits
returns-in_err-settle-clause-visits g c = few g (goal.at.returns-in_err-settle-clause-visits g c).After-settle

pub returns-in_default-clause-visits : goal.returns-in_default-clause-visits
returns-in_default-clause-visits g c = few g (goal.at.returns-in_default-clause-visits g c).After-settle

pub returns-clause-visits : goal.returns-clause-visits
returns-clause-visits g c = few g (goal.at.returns-clause-visits g c).After-settle

pub returns-in_err-settle-clause-err : goal.returns-in_err-settle-clause-err
returns-in_err-settle-clause-err g c deaths listed =
    let taken = λ (sink : g.row.O.Denot). g.O.Sink.taken sink in
    let ran = c.args.ran.now in
    on_any_err c.from_residual.result
    (flush_stops c.args.tracer.now.format c.args.due ran.end ran.event c.args.tracer.now.buffer.items (taken c.args.sink.now) (taken c.settle.new.sink) (flush_lines ran.event deaths) (c.in_err-settle.ensures.err deaths (λ is. listed (not-true c.args.due is))))

pub returns-in_default-clause-err : goal.returns-in_default-clause-err
returns-in_default-clause-err g c deaths listed =
    let taken = λ (sink : g.row.O.Denot). g.O.Sink.taken sink in
    let ran = c.args.ran.now in
    let f = c.args.tracer.now.format in
    let puts = c.in_ok-settle.ensures.lines in
    let same = puts.lines deaths (λ is. listed (not-true c.args.due is)) in
    flush_stops f c.args.due ran.end ran.event c.args.tracer.now.buffer.items (taken c.args.sink.now) (taken c.settle.new.sink) (flush_lines ran.event deaths)
    (subst (λ (t : List ℕ). TakesPrefix (taken c.args.sink.now) (taken c.settle.new.sink) (c.args.tracer.now.buffer.items ++ t)) same (takes_no_more (taken c.args.sink.now) (taken c.settle.new.sink) (c.args.tracer.now.buffer.items ++ puts.bytes) c.settle.new.tracer.buffer.items puts.put))

pub returns-clause-lines : goal.returns-clause-lines
returns-clause-lines g c =
    let taken = λ (sink : g.row.O.Denot). g.O.Sink.taken sink in
    let ran = c.args.ran.now in
    let f = c.args.tracer.now.format in
    let puts = c.in_ok-settle.ensures.lines in
    let old = c.args.tracer.now.buffer.items in
    let z : List ℕ = written_in f (Finish ran.event (how_of ran.end)) in
    let more : c.write_line_in.new.buffer.items ≡ c.settle.new.tracer.buffer.items ++ z =
    c.in-Ok.ensures.ok ∙ (ap (λ (f' : Format). c.settle.new.tracer.buffer.items ++ written_in f' (Finish ran.event c.ended_as.result)) c.in_ok-settle.ensures.format ∙ ap (λ (how : ℕ). c.settle.new.tracer.buffer.items ++ written_in f (Finish ran.event how)) c.ended_as.ensures) in
    record {
      bytes = puts.bytes ++ z;
      lines = λ deaths listed. ap (λ (t : List ℕ). t ++ z) (puts.lines deaths (λ is. listed (not-true c.args.due is))) ∙ sym (last_written f c.args.due ran.end ran.event (flush_lines ran.event deaths));
      put = subst (λ (t : List ℕ). TakesUpTo (taken c.args.sink.now) (taken c.settle.new.sink) t c.write_line_in.new.buffer.items) (append_assoc old puts.bytes z)
          (subst (λ (t : List ℕ). TakesUpTo (taken c.args.sink.now) (taken c.settle.new.sink) ((old ++ puts.bytes) ++ z) t) (sym more) (gathers (taken c.args.sink.now) (taken c.settle.new.sink) (old ++ puts.bytes) c.settle.new.tracer.buffer.items z puts.put));
    }
