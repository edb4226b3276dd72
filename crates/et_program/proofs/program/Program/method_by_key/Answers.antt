use Rattle.std.proofs.Common.{◌∙◌, ℕ, Some, refl, sym, ap}
use Rattle.et_program.specs.Entries.{Linked}
use Rattle.et_program.specs.Members.{is_method, method_in}
use Rattle.et_program.specs.Order.{method_key}
use Rattle.et_program.proofs.OrderLemmas.{found_by_key}
use Rattle.et_program.proofs.program.Program.method_by_key.Goals as goal

pub returns-in_err-method : goal.returns-in_err-method
returns-in_err-method c =
    c.from_residual.ensures
    ∙ (sym c.in_err-method.was
    ∙ (found_by_key method_key (is_method c.args.name.now c.args.descriptor.now c.args.class) (c.args.name.now, c.args.descriptor.now, c.args.class) _ _ _ _ (λ x. refl) c.find.ensures c.of_member-key.ensures c.as_slice.ensures.value
    ∙ ap (λ (p : Linked). method_in p c.args.name.now c.args.descriptor.now c.args.class) c.self.view_is))

pub returns : goal.returns
returns c =
    ap (λ (k : ℕ). Some k) c.new.ensures
    ∙ (sym c.in_ok-method.was
    ∙ (found_by_key method_key (is_method c.args.name.now c.args.descriptor.now c.args.class) (c.args.name.now, c.args.descriptor.now, c.args.class) _ _ _ _ (λ x. refl) c.find.ensures c.of_member-key.ensures c.as_slice.ensures.value
    ∙ ap (λ (p : Linked). method_in p c.args.name.now c.args.descriptor.now c.args.class) c.self.view_is))
