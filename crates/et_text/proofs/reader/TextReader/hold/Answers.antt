use Rattle.std.proofs.Common.{ap, ◌∙◌}
use Rattle.et_text.specs.Stream.{Reading}
use Rattle.et_text.proofs.Pieces.{holds}
use Rattle.et_text.proofs.reader.TextReader.hold.Goals as goal

pub returns-clause-ok : goal.returns-clause-ok
returns-clause-ok c =
    let i = c.self.inside in
    let none = ap (λ (r : Reading). r.fault) c.self.view_is ∙ c.requires.unharmed in
    holds i.rules i.ended i.rest.items c.args.front.now c.extend_from_slice.new.self.items i.fault c.args.self.now c.self.view_is none (c.self.invariant none) c.requires.one_line c.in_ok-extend_from_slice.ensures.items
