use Rattle.std.proofs.Common.{◌∙◌, ℕ, Some, refl, sym, ap}
use Rattle.et_program.specs.Entries.{Linked}
use Rattle.et_program.specs.Members.{is_field, field_in}
use Rattle.et_program.specs.Order.{field_key}
use Rattle.et_program.proofs.OrderLemmas.{found_by_key}
use Rattle.et_program.proofs.PlaceLemmas.{field_within}
use Rattle.et_program.proofs.program.Program.field_in.Goals as goal

pub returns-in_err-field-clause-value : goal.returns-in_err-field-clause-value
returns-in_err-field-clause-value c =
    c.from_residual.ensures
    ∙ (sym c.in_err-field.was
    ∙ (found_by_key field_key (is_field c.args.name.now c.args.descriptor.now c.args.class) (c.args.name.now, c.args.descriptor.now, c.args.class) _ _ _ _ (λ x. refl) c.find.ensures c.of_member-key.ensures c.as_slice.ensures.value
    ∙ ap (λ (p : Linked). field_in p c.args.name.now c.args.descriptor.now c.args.class) c.self.view_is))

pub returns-clause-value : goal.returns-clause-value
returns-clause-value c =
    ap (λ (k : ℕ). Some k) c.new.ensures
    ∙ (sym c.in_ok-field.was
    ∙ (found_by_key field_key (is_field c.args.name.now c.args.descriptor.now c.args.class) (c.args.name.now, c.args.descriptor.now, c.args.class) _ _ _ _ (λ x. refl) c.find.ensures c.of_member-key.ensures c.as_slice.ensures.value
    ∙ ap (λ (p : Linked). field_in p c.args.name.now c.args.descriptor.now c.args.class) c.self.view_is))

pub returns-clause-within : goal.returns-clause-within
returns-clause-within c = field_within c.args.self.now c.args.name.now c.args.descriptor.now c.args.class (Some c.new.result) (returns-clause-value c)
