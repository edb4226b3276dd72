use Rattle.std.proofs.Common.{◌≡◌, ◌∙◌, ◌++◌, [], ℕ, List, refl, ap, sym, subst}
use Rattle.std.specs.Prelude.{OnOk, OnErr}
use Rattle.et_base.specs.declared.line.TraceLine.{TraceLine}
use Rattle.et_base.proofs.Options.{on_any_err}
use Rattle.et_convert.specs.Conversions.{converted_line}
use Rattle.et_io.specs.Sink.{with_more, TakesUpTo, TakesPrefix}
use Rattle.et_io.proofs.Taking.{takes_nothing}
use Rattle.et_io.proofs.Gathered.{piece_put, piece_fails, stops_early, last_put, last_fails}
use Rattle.et_convert.proofs.conversion.put_lines.Goals as goal

pub loop-line-preserved : goal.loop-line-preserved
loop-line-preserved g c =
    let l = c.loop-line in
    record {
      taken =
          piece_put (converted_line c.args.format) c.args.lines.now l.line-index c.line-item.result (g.O.Sink.taken c.args.sink.now) (g.O.Sink.taken l.sink) (g.O.Sink.taken c.put_piece.new.sink) l.bytes.items c.put_line.new.bytes.items c.put_piece.new.gathered.items
          c.loop-line-test.true l.invariant.taken (c.in-Ok.ensures ∙ ap (λ (x : TraceLine). l.bytes.items ++ converted_line c.args.format x) c.line-item.is) c.in_ok-put_piece.ensures.ok;
      faults = c.in_ok-put_piece.ensures.write ∙ l.invariant.faults;
    }

pub returns-in_default-clause-err : goal.returns-in_default-clause-err
returns-in_default-clause-err g c =
    let l = c.loop-line in
    stops_early (converted_line c.args.format) c.args.lines.now l.line-index (g.O.Sink.taken c.args.sink.now) (g.O.Sink.taken l.sink) l.bytes.items l.invariant.taken

pub loop-line-init : goal.loop-line-init
loop-line-init g c =
    let t = g.O.Sink.taken c.args.sink.now in
    record { taken = subst (λ (r : List ℕ). TakesUpTo t t [] r) (sym c.new-bytes.ensures.items) (takes_nothing t []); faults = refl }

pub returns-in_err-put_piece-clause-err : goal.returns-in_err-put_piece-clause-err
returns-in_err-put_piece-clause-err g c =
    let l = c.loop-line in
    on_any_err c.from_residual.result
    (piece_fails (converted_line c.args.format) c.args.lines.now l.line-index c.line-item.result (g.O.Sink.taken c.args.sink.now) (g.O.Sink.taken l.sink) (g.O.Sink.taken c.put_piece.new.sink) l.bytes.items c.put_line.new.bytes.items
    c.loop-line-test.true l.invariant.taken (c.in-Ok.ensures ∙ ap (λ (x : TraceLine). l.bytes.items ++ converted_line c.args.format x) c.line-item.is) c.in_err-put_piece.ensures.err)

pub returns-clause-ok : goal.returns-clause-ok
returns-clause-ok g c =
    let l = c.loop-line in
    let mid = g.O.Sink.taken l.sink in
    let new = g.O.Sink.taken c.put_all.new.sink in
    last_put (converted_line c.args.format) c.args.lines.now l.line-index (g.O.Sink.taken c.args.sink.now) mid new l.bytes.items c.put_all.result
    c.loop-line-test.false l.invariant.taken (subst (λ (t : List ℕ). OnOk c.put_all.result (new ≡ with_more mid t)) c.as_slice.ensures.value c.put_all.ensures.ok)

pub returns-clause-err : goal.returns-clause-err
returns-clause-err g c =
    let l = c.loop-line in
    let mid = g.O.Sink.taken l.sink in
    let new = g.O.Sink.taken c.put_all.new.sink in
    last_fails (converted_line c.args.format) c.args.lines.now l.line-index (g.O.Sink.taken c.args.sink.now) mid new l.bytes.items c.put_all.result
    c.loop-line-test.false l.invariant.taken (subst (λ (t : List ℕ). OnErr c.put_all.result (TakesPrefix mid new t)) c.as_slice.ensures.value c.put_all.ensures.err)
