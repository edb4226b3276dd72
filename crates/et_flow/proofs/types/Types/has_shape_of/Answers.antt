use Rattle.std.proofs.Common.{◌≡◌, length, sym, ap, ◌∙◌}
use Rattle.std.specs.Prelude.{reverse}
use Rattle.std.proofs.lemmas.List.{reverse-reverse}
use Rattle.et_flow.specs.Types.{TypesOf}
use Rattle.et_flow.proofs.types.Types.has_shape_of.Goals as goal

pub returns-then-count : goal.returns-then-count
returns-then-count c =
    let some : c.as_slice.result.now ≡ c.self.inside.operands.items = c.as_slice.ensures.value in
    let others : c.as_slice-then-count.result.now ≡ c.other.inside.operands.items = c.as_slice-then-count.ensures.value in
    let mine : reverse c.self.inside.operands.items ≡ c.args.self.now.operands = ap (λ (t : TypesOf). t.operands) c.self.view_is in
    let theirs : reverse c.other.inside.operands.items ≡ c.args.other.now.operands = ap (λ (t : TypesOf). t.operands) c.other.view_is in
    let long : length c.args.self.now.locals ≡ length c.args.other.now.locals =
    ap (λ (t : TypesOf). length t.locals) (sym c.self.view_is) ∙ (sym c.count.ensures ∙ (c.if-count.true ∙ (c.count-2.ensures ∙ ap (λ (t : TypesOf). length t.locals) c.other.view_is))) in (
      λ e. (sym mine ∙ (ap reverse (sym some ∙ (c.are_same.ensures.0 e ∙ others)) ∙ theirs), long),
      λ h. c.are_same.ensures.1 (some ∙ (sym (reverse-reverse c.self.inside.operands.items) ∙ (ap reverse (mine ∙ (h.0 ∙ sym theirs)) ∙ (reverse-reverse c.other.inside.operands.items ∙ sym others)))),
    )
