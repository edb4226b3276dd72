use Rattle.std.proofs.Common.{◌≡◌, false, length, sym, subst, ap, ◌∙◌, arith}
use Rattle.et_base.specs.Marks.{MarksAre}
use Rattle.et_code.specs.Bodies.{body_of}
use Rattle.et_code.specs.Rules.{is_code_length, code_marks}
use Rattle.et_code.proofs.Checked.{bad_length}
use Rattle.et_code.proofs.check.check_code.Goals as goal

pub returns-then-not-is_code_length : goal.returns-then-not-is_code_length
returns-then-not-is_code_length c =
    let same : length c.args.body.code.items ≡ c.len.result = omega arith in
    let bad : is_code_length (length c.args.body.code.items) ≡ false = ap is_code_length same ∙ (sym c.is_code_length.ensures ∙ c.if-not-is_code_length.true) in
    bad_length (body_of c.args.body) c.args.tags.now bad

pub new-requires : goal.new-requires
new-requires c = record {
  tags = c.args.tags.now;
  kept = subst (λ r. MarksAre (code_marks (body_of c.args.body) c.args.tags.now) r) c.in-None.is c.first_broken.ensures;
}

pub returns-in-None : goal.returns-in-None
returns-in-None c = (c.new.ensures, subst (λ r. MarksAre (code_marks (body_of c.args.body) c.args.tags.now) r) c.in-None.is c.first_broken.ensures)

pub returns-in-Some : goal.returns-in-Some
returns-in-Some c = subst (λ r. MarksAre (code_marks (body_of c.args.body) c.args.tags.now) r) c.in-Some.is c.first_broken.ensures
