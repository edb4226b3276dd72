use Rattle.std.proofs.Common.{ap, ◌∙◌, refl, Some}
use Rattle.et_text.specs.Stream.{Reading, bytes_read}
use Rattle.et_text.proofs.Pieces.{takes_line, stops_line}
use Rattle.et_text.proofs.reader.TextReader.end_line.Goals as goal

pub returns-in-Ok-clause-ok : goal.returns-in-Ok-clause-ok
returns-in-Ok-clause-ok c =
    let i = c.self.inside in
    takes_line i.rules c.take_rest-taken.new.rules i.rest.items c.args.line.now c.clear.new.self.items c.in-Ok.last i.fault c.args.self.now c.self.view_is c.in-Ok.ensures.ok c.clear.ensures.items

pub returns-in-Err-clause-err : goal.returns-in-Err-clause-err
returns-in-Err-clause-err c =
    let i = c.self.inside in
    let none = ap (λ (r : Reading). r.fault) c.self.view_is ∙ c.requires.unharmed in
    stops_line c.in-Err.fault i.rules i.ended i.rest.items c.args.line.now i.fault c.args.self.now (record { bytes = bytes_read c.take_rest-taken.new.rules c.take_rest-taken.new.held.items; fault = Some c.in-Err.fault })
    c.self.view_is (c.self.invariant none) c.requires.one_line c.in-Err.ensures.err refl
