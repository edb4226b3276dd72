use Rattle.et_binary.proofs.Portions.{whole_by, lacks_by}
use Rattle.et_binary.proofs.reader.BinaryReader.finish.Goals as goal

pub returns-clause-ok : goal.returns-clause-ok
returns-clause-ok c =
    let i = c.self.inside in
    whole_by c.finish.result i.rules i.opened i.rest.items i.fault c.args.self c.self.view_is (c.self.invariant c.in-None.is) c.finish.ensures.ok c.finish.ensures.ended

pub returns-clause-err : goal.returns-clause-err
returns-clause-err c = λ none.
    let i = c.self.inside in
    let held = c.self.invariant c.in-None.is in
    lacks_by c.finish.result i.rules i.opened i.rest.items i.fault c.args.self c.self.view_is held (c.finish.ensures.err held.unharmed)
