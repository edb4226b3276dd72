use Rattle.std.proofs.Common.{rules, ◌≡◌, Err, ◌∙◌, ap, sym}
use Rattle.et_base.specs.declared.value.Value.{Value}
use Rattle.et_base.specs.declared.value.Value.TheVariants.{Ref}
use Rattle.et_refs.specs.Changes.{put_outcome}
use Rattle.et_refs.specs.TypeTests.{left_by}
use Rattle.et_refs.specs.declared.types.casts.TypeTest.{TypeTest}
use Rattle.et_refs.proofs.Chains.{refusing, truth_left}
use Rattle.et_refs.proofs.types.casts.tested_object.Goals as goal

pub returns-in_err-throws_unless-in-CheckCast-clause-is : goal.returns-in_err-throws_unless-in-CheckCast-clause-is
returns-in_err-throws_unless-in-CheckCast-clause-is c =
    let same : c.from_residual.result ≡ Err c.in_err-throws_unless-in-CheckCast.field-0.0 = search rules in
    λ e at below. refusing e _ _ c.in_err-throws_unless-in-CheckCast.field-0.0 (put_outcome e at below)
    (ap (λ (test : TypeTest). left_by test e at below c.args.object c.args.holds) c.in-CheckCast.is ∙ c.in_err-throws_unless-in-CheckCast.ensures.is e (put_outcome e at below (Ref c.args.object))) same

pub returns-in_ok-throws_unless-in-CheckCast-clause-is : goal.returns-in_ok-throws_unless-in-CheckCast-clause-is
returns-in_ok-throws_unless-in-CheckCast-clause-is c = λ e at below.
    ap (λ (test : TypeTest). left_by test e at below c.args.object c.args.holds) c.in-CheckCast.is ∙ c.in_ok-throws_unless-in-CheckCast.ensures.is e (put_outcome e at below (Ref c.args.object))

pub returns-in-InstanceOf-clause-is : goal.returns-in-InstanceOf-clause-is
returns-in-InstanceOf-clause-is c = λ e at below.
    ap (λ (test : TypeTest). left_by test e at below c.args.object c.args.holds) c.in-InstanceOf.is
    ∙ (truth_left e at below c.args.holds ∙ ap (λ (v : Value). put_outcome e at below v) (sym c.truth.ensures))
