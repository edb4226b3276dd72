use Rattle.std.proofs.Common.{◌<◌, length, arith, sym, ◌∙◌}
use Rattle.std.proofs.lemmas.Bool.Decides.{nat_tests}
use Rattle.et_binary.specs.Packs.BreaksRecord.{BreaksTable, BreaksEnd}
use Rattle.et_binary.proofs.records.next_record.Goals as goal

pub returns-then-ended-clause-err : goal.returns-then-ended-clause-err
returns-then-ended-clause-err c = λ past e at.
    let some : 0 < length c.args.bytes.now = grind (arith, nat_tests, c.if-is_empty.ensures) in
    record { breaks = BreaksEnd (sym e ∙ c.if-ended.true) some; at = at }

pub returns-in-Err-Form-clause-err : goal.returns-in-Err-Form-clause-err
returns-in-Err-Form-clause-err c = λ past e at. record {
  breaks = BreaksTable (sym e ∙ c.if-ended.false) (let f = c.in-Err-Form.field-0-is in c.in-Err-Form.ensures.form (cc));
  at = at;
}
