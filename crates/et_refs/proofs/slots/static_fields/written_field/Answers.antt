use Rattle.std.proofs.Common.{rules, ◌≡◌, Bool, Err, not, sym, ◌∙◌, ap}
use Rattle.et_event.specs.declared.errors.GuestError.TheVariants.{NoSuchFieldError}
use Rattle.et_event.specs.Moments.{Moment, begins}
use Rattle.et_event.specs.Checks.{throws_unless}
use Rattle.et_refs.specs.StaticReads.{unless_out}
use Rattle.et_refs.proofs.Chains.{refusing}
use Rattle.et_refs.proofs.slots.static_fields.written_field.Goals as goal

pub returns-in_err-field-clause-is : goal.returns-in_err-field-clause-is
returns-in_err-field-clause-is c =
    let same : c.from_residual.result ≡ Err c.in_err-field.field-0.0 = search rules in
    λ m s t go by.
    let e : Moment = record { program = c.args.program.now; before = s; thread = t } in
    refusing e _ _ c.in_err-field.field-0.0 go (c.in_err-field.ensures.is m s t (unless_out e go) by) same

pub returns-in_err-throws_unless-clause-is : goal.returns-in_err-throws_unless-clause-is
returns-in_err-throws_unless-clause-is c =
    let same : c.from_residual-in_err-throws_unless.result ≡ Err c.in_err-throws_unless.field-0.0 = search rules in
    λ m s t go by.
    let e : Moment = record { program = c.args.program.now; before = s; thread = t } in
    refusing e _ _ c.in_err-throws_unless.field-0.0 go
    (c.in_ok-field.ensures.is m s t (unless_out e go) by
    ∙ (ap (λ (b : Bool). throws_unless e (begins e) NoSuchFieldError (not b) (go c.in_ok-field.field)) (sym c.is_out.ensures) ∙ c.in_err-throws_unless.ensures.is e (go c.in_ok-field.field))) same

pub returns-clause-is : goal.returns-clause-is
returns-clause-is c =
    λ m s t go by.
    let e : Moment = record { program = c.args.program.now; before = s; thread = t } in
    c.in_ok-field.ensures.is m s t (unless_out e go) by
    ∙ (ap (λ (b : Bool). throws_unless e (begins e) NoSuchFieldError (not b) (go c.in_ok-field.field)) (sym c.is_out.ensures) ∙ c.in_ok-throws_unless.ensures.is e (go c.in_ok-field.field))
