use Rattle.std.proofs.Common.{◌++◌, ◌∙◌, ℕ, ap}
use Rattle.et_base.specs.declared.line.TraceLine.TheVariants.{Death}
use Rattle.et_base.proofs.Options.{on_any_err}
use Rattle.et_binary.specs.Formats.{written_in}
use Rattle.et_graph.specs.declared.objects.Death as graph
use Rattle.et_io.proofs.Taking.{none_put}
use Rattle.et_loop.proofs.Putting.{death_put, deaths_stop, death_fails}
use Rattle.et_loop.proofs.flushes.put_deaths.Goals as goal

-- no room for the F line
pub returns-in_default-clause-err : goal.returns-in_default-clause-err
returns-in_default-clause-err g c = none_put (g.O.Sink.taken c.args.sink.now) _

-- .. or for a D line
pub returns-in_default-write_line_in-clause-err : goal.returns-in_default-write_line_in-clause-err
returns-in_default-write_line_in-clause-err g c =
    deaths_stop c.args.format c.args.event c.args.deaths.now c.args.buffer.now.items (g.O.Sink.taken c.args.sink.now) (g.O.Sink.taken c.put.sink) c.put.buffer.items c.put.death-index c.put.invariant.taken

pub returns-in_err-put_piece-clause-err : goal.returns-in_err-put_piece-clause-err
returns-in_err-put_piece-clause-err g c =
    let f = c.args.format in
    let death = c.death-item.result in
    let line = c.in-Ok-write_line_in.ensures.ok ∙ (ap (λ (n : ℕ). c.put.buffer.items ++ written_in f (Death n death.time)) c.number.ensures.value ∙ ap (λ (d : graph.Death). c.put.buffer.items ++ written_in f (Death d.object d.time)) c.death-item.is) in
    on_any_err c.from_residual.result
    (death_fails f c.args.event c.args.deaths.now c.args.buffer.now.items (g.O.Sink.taken c.args.sink.now) (g.O.Sink.taken c.put.sink) c.put.buffer.items c.put.death-index c.put.invariant.taken
    death (g.O.Sink.taken c.put_piece.new.sink) c.write_line_in-in-put.new.buffer.items c.put-test.true line c.in_err-put_piece.ensures.err)

pub put-preserved : goal.put-preserved
put-preserved g c =
    let f = c.args.format in
    let death = c.death-item.result in
    let line = c.in-Ok-write_line_in.ensures.ok ∙ (ap (λ (n : ℕ). c.put.buffer.items ++ written_in f (Death n death.time)) c.number.ensures.value ∙ ap (λ (d : graph.Death). c.put.buffer.items ++ written_in f (Death d.object d.time)) c.death-item.is) in
    record {
      taken =
          death_put f c.args.event c.args.deaths.now c.args.buffer.now.items (g.O.Sink.taken c.args.sink.now) (g.O.Sink.taken c.put.sink) c.put.buffer.items c.put.death-index c.put.invariant.taken
          death (g.O.Sink.taken c.put_piece.new.sink) c.write_line_in-in-put.new.buffer.items c.put_piece.new.gathered.items c.put-test.true line c.in_ok-put_piece.ensures.ok;
      faults = c.in_ok-put_piece.ensures.write ∙ c.put.invariant.faults;
    }
