use Rattle.std.proofs.lemmas.Option.{IfSome_then}
use Rattle.et_convert.proofs.LinesLeft.{record_some, record_none, record_form, if_none}
use Rattle.et_convert.proofs.rewriting.first_of_records.Goals as goal

pub unreachable-requires : goal.unreachable-requires
unreachable-requires c = record_form c.args.bytes.now c.requires.lines (let e = c.in-Err-Form.field-0-is in c.in-Err-Form.ensures.form (cc))

pub returns-in-Ok-clause-some : goal.returns-in-Ok-clause-some
returns-in-Ok-clause-some c = λ lines a. IfSome_then c.in-Ok.found c.in-Ok.ensures.found (λ x f. record_some lines c.args.bytes.now x.1.now x.0 a f)

pub returns-in-Ok-clause-none : goal.returns-in-Ok-clause-none
returns-in-Ok-clause-none c = λ lines a. if_none c.in-Ok.found (record_none lines c.args.bytes.now a) c.in-Ok.ensures.none
