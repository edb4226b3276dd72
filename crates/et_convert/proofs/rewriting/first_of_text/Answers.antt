use Rattle.et_convert.proofs.LinesLeft.{text_some, text_none, text_form}
use Rattle.et_convert.proofs.rewriting.first_of_text.Goals as goal

pub returns-in_default-clause-none : goal.returns-in_default-clause-none
returns-in_default-clause-none c = λ lines a. text_none lines c.args.bytes.now a c.in_default.ensures.none

pub unreachable-requires : goal.unreachable-requires
unreachable-requires c =
    text_form c.args.bytes.now c.in-Some.line.now c.in-Some.behind.now c.requires.lines c.in-Some.ensures.found (let e = c.in-Err-Form.field-0-is in c.in-Err-Form.ensures.form (cc))

pub returns-in-Ok-clause-some : goal.returns-in-Ok-clause-some
returns-in-Ok-clause-some c = λ lines a. text_some lines c.args.bytes.now c.in-Some.line.now c.in-Some.behind.now c.in-Ok.read a c.in-Some.ensures.found c.in-Ok.ensures.found
