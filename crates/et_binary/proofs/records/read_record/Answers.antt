use Rattle.std.proofs.Common.{arith, sym}
use Rattle.et_binary.proofs.Beginnings.{class_unread, method_unread, malformed_first, unfinished_is_none}
use Rattle.et_binary.proofs.records.read_record.Goals as goal

pub returns-in_err-class_front-in-67-clause-early : goal.returns-in_err-class_front-in-67-clause-early
returns-in_err-class_front-in-67-clause-early c = λ u.
    let none = class_unread c.args.bytes.now c.in-len1-up.len_at_least c.in-67.is (unfinished_is_none c.args.bytes.now (λ i. omega (arith, c.type_inv.bytes i)) u) in
    absurd (let f = c.in_err-class_front-in-67.ensures.early none in cc)

pub returns-in_err-method_front-in-78-clause-early : goal.returns-in_err-method_front-in-78-clause-early
returns-in_err-method_front-in-78-clause-early c = λ u.
    let none = method_unread c.args.bytes.now c.in-len1-up.len_at_least c.in-78.is (unfinished_is_none c.args.bytes.now (λ i. omega (arith, c.type_inv.bytes i)) u) in
    absurd (let f = c.in_err-method_front-in-78.ensures.early none in cc)

pub returns-then-not-is_record_letter-clause-form : goal.returns-then-not-is_record_letter-clause-form
returns-then-not-is_record_letter-clause-form c = λ e. malformed_first c.args.bytes.now c.in-len1-up.len_at_least (sym c.if-not-is_record_letter.ensures)
