use Rattle.std.proofs.Common.{inl, inr, ◌∙◌}
use Rattle.et_verify.proofs.Rowing.{plain_operands}
use Rattle.et_verify.proofs.rows.step_frame.Goals as goal

pub returns : goal.returns
returns c = record {
  done = λ at bytes is e.
      let h = c.in_ok-done-2.ensures.done at is e in
      (plain_operands bytes at c.args.row c.args.types.now.operands c.in_default.not-Rearrange ∙ h.0, h.1);
  refused = λ at bytes is e. elim (c.in_ok-done-2.ensures.refused at is e) [
    | inl x ↦ inl (plain_operands bytes at c.args.row c.args.types.now.operands c.in_default.not-Rearrange ∙ x)
    | inr y ↦ inr y
  ];
}
