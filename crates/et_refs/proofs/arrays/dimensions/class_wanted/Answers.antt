use Rattle.std.proofs.Common.{rules, ◌≡◌, Err, Bool, ◌∙◌, ap, sym}
use Rattle.et_event.specs.declared.errors.GuestError.TheVariants.{NegativeArraySizeException}
use Rattle.et_event.specs.Checks.{throws_unless}
use Rattle.et_event.specs.Moments.{Moment, begins}
use Rattle.et_refs.proofs.Chains.{refusing}
use Rattle.et_refs.specs.Events.{unless_negative}
use Rattle.et_refs.proofs.Resolving.{resolves, nowhere}
use Rattle.et_refs.proofs.arrays.dimensions.class_wanted.Goals as goal

pub returns-in_err-throws_unless-clause-is : goal.returns-in_err-throws_unless-clause-is
returns-in_err-throws_unless-clause-is c =
    let same : c.from_residual-in_err-throws_unless.result ≡ Err c.in_err-throws_unless.field-0.0 = search rules in
    λ s t go.
    let e : Moment = record { program = c.args.program.now; before = s; thread = t } in
    refusing e _ _ c.in_err-throws_unless.field-0.0 go
    (c.in_ok-class.ensures.is s t (unless_negative e c.args.lengths.now go)
    ∙ (ap (λ (b : Bool). throws_unless e (begins e) NegativeArraySizeException b (go c.in_ok-class.class)) (sym c.are_lengths.ensures) ∙ c.in_err-throws_unless.ensures.is e (go c.in_ok-class.class))) same

pub returns-clause-resolves : goal.returns-clause-resolves
returns-clause-resolves c = resolves c.args.program.now nowhere 0 c.in_ok-class.class c.args.named.now.name.now (c.in_ok-class.ensures.is nowhere 0)
