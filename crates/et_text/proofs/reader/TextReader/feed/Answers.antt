use Rattle.std.proofs.Common.{subst}
use Rattle.std.proofs.lemmas.Result.{err_from_is_err_and}
use Rattle.et_text.specs.Stream.{Reading}
use Rattle.et_text.specs.Text.{ShowsNone}
use Rattle.et_text.proofs.Pieces.{shows_none, stops_in}
use Rattle.et_text.proofs.reader.TextReader.feed.Goals as goal

pub returns-in_err-end_line-clause-err : goal.returns-in_err-end_line-clause-err
returns-in_err-end_line-clause-err c = λ none.
    let i = c.self.inside in
    let p = err_from_is_err_and c.from_residual.result c.from_residual.ensures.1 in
    let shown = subst (λ (r : Reading). ShowsNone r.bytes) c.self.view_is (shows_none i.rules i.ended i.rest.items (c.self.invariant c.in-None.is)) in
    rw (p.1, p.2) (stops_in c.in_err-end_line.field-0.0 c.args.self.now c.lines.self c.end_line.new.self c.args.piece.now c.lines.rest.now c.in-Some-first_line.line.now c.in-Some-first_line.behind.now
    c.lines.invariant.bytes c.in-Some-first_line.ensures.found.parts shown c.in_err-end_line.ensures.err)
