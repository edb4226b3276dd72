use Rattle.std.proofs.Common.{rules, ◌≡◌, ℕ, Bool, true, Err, ◌∙◌, ap}
use Rattle.std.specs.Prelude.{int_le, pos}
use Rattle.et_event.specs.declared.errors.GuestError.TheVariants.{NegativeArraySizeException}
use Rattle.et_event.specs.Moments.{begins}
use Rattle.et_event.specs.Checks.{throws_unless}
use Rattle.et_event.specs.Sites.{natural_of}
use Rattle.et_refs.specs.Changes.{new_array_outcome}
use Rattle.et_refs.proofs.Chains.{refusing, sized}
use Rattle.et_refs.proofs.arrays.sized.Goals as goal

pub returns-in_err-throws_unless : goal.returns-in_err-throws_unless
returns-in_err-throws_unless c =
    let n = c.args.elements in
    let class = c.args.class in
    let same : c.from_residual.result ≡ Err c.in_err-throws_unless.field-0.0 = search rules in
    let eq : int_le (pos 0) n ≡ c.is_length.result = search rules in
    λ e at. refusing e _ _ c.in_err-throws_unless.field-0.0 (new_array_outcome e at)
    (ap (λ (b : Bool). throws_unless e (begins e) NegativeArraySizeException b (sized e at class (natural_of n))) eq ∙ c.in_err-throws_unless.ensures.is e (sized e at class (natural_of n))) same

pub returns : goal.returns
returns c =
    let n = c.args.elements in
    let class = c.args.class in
    let eq : int_le (pos 0) n ≡ true = search rules in
    let size : natural_of n ≡ c.natural.result = search rules in
    λ e at. ap (λ (b : Bool). throws_unless e (begins e) NegativeArraySizeException b (sized e at class (natural_of n))) eq ∙ ap (λ (k : ℕ). sized e at class k) size
