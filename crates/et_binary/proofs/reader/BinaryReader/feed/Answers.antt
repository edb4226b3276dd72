use Rattle.std.proofs.Common.{refl}
use Rattle.et_binary.proofs.Portions.{unpacks_by, stops_by}
use Rattle.et_binary.proofs.reader.BinaryReader.feed.Goals as goal

pub returns-in-Ok-clause-ok : goal.returns-in-Ok-clause-ok
returns-in-Ok-clause-ok c =
    let i = c.self.inside in
    unpacks_by i.rules c.unpack-unpacked.new.rules i.opened c.in-Ok.opened i.rest.items c.unpack-unpacked.new.held.items c.args.piece.now i.fault c.args.self.now c.self.view_is c.in-None.is c.in-Ok.ensures.ok

pub returns-in-Err-clause-err : goal.returns-in-Err-clause-err
returns-in-Err-clause-err c = λ none.
    let i = c.self.inside in
    stops_by c.in-Err.fault i.rules i.opened i.rest.items c.args.piece.now i.fault c.args.self.now _ c.self.view_is (c.self.invariant c.in-None.is) c.in-Err.ensures.err refl
