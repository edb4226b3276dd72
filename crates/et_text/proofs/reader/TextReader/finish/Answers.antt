use Rattle.std.proofs.Common.{◌≡◌, ◌<◌, true, [], length, arith, subst}
use Rattle.std.proofs.lemmas.Bool.Decides.{nat_tests}
use Rattle.et_base.proofs.Lists.{none_long}
use Rattle.et_text.specs.Stream.{Reading}
use Rattle.et_text.specs.Text.{IsTraceFault}
use Rattle.et_text.proofs.Pieces.{late, whole_by, lacks_by}
use Rattle.et_text.proofs.reader.TextReader.finish.Goals as goal
use Rattle.et_text.proofs.reader.TextReader.finish.Goals.{else-self-via-then-self+else-not-is_empty, else-self-via-else-self}

pub returns-then-not-is_empty-clause-err : goal.returns-then-not-is_empty-clause-err
returns-then-not-is_empty-clause-err c = λ none.
    let i = c.self.inside in
    let some : 0 < length i.rest.items = grind (arith, nat_tests, c.if-not-is_empty.ensures) in
    subst (λ (r : Reading). IsTraceFault r.bytes 6 c.next_number-line.result) c.self.view_is
    (late i.rules i.ended i.rest.items c.next_number-line.result (c.self.invariant c.in-None.is) c.if-self.true some c.next_number-line.ensures)

pub returns-clause-ok : goal.returns-clause-ok
returns-clause-ok c =
    let i = c.self.inside in
    let empty : i.ended ≡ true → i.rest.items ≡ [] = λ e. elim c.else-self.branch [ else-self-via-then-self+else-not-is_empty w ↦ none_long i.rest.items (grind (arith, nat_tests, w.if-not-is_empty.ensures)) | else-self-via-else-self w ↦ absurd (let f = w.if-self.false in cc) ] in
    whole_by c.finish.result i.rules i.ended i.rest.items i.fault c.args.self c.self.view_is (c.self.invariant c.in-None.is) empty c.finish.ensures.ok c.finish.ensures.ended

pub returns-clause-err : goal.returns-clause-err
returns-clause-err c = λ none.
    let i = c.self.inside in
    let read = c.self.invariant c.in-None.is in
    lacks_by c.finish.result i.rules i.ended i.rest.items i.fault c.args.self c.self.view_is read (c.finish.ensures.err read.unharmed)
