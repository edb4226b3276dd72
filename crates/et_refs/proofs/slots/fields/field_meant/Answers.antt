use Rattle.std.proofs.Common.{rules, ◌≡◌, Err, Bool, true, false, refl, sym, ◌∙◌, ap, subst}
use Rattle.std.specs.Prelude.{ℕ, ◌<◌, length, Result, IfOk}
use Rattle.et_program.specs.declared.errors.LinkError.{LinkError}
use Rattle.et_event.specs.declared.errors.GuestError.{GuestError}
use Rattle.et_event.specs.declared.errors.GuestError.TheVariants.{IncompatibleClassChangeError}
use Rattle.et_event.specs.Moments.{Moment, begins, throws}
use Rattle.et_event.specs.Checks.{throws_unless}
use Rattle.et_event.specs.Heap.{is_static_at}
use Rattle.et_refs.specs.NamedFields.{as_wanted}
use Rattle.et_refs.proofs.Chains.{refusing}
use Rattle.et_refs.proofs.Referred.{field_resolves, field_same}
use Rattle.et_refs.proofs.slots.fields.field_meant.Goals as goal

flag_as_wanted : (wants static : Bool) → as_wanted wants static ≡ true → static ≡ wants
flag_as_wanted true static h = h
flag_as_wanted false false h = refl
flag_as_wanted false true h = cc

pub returns-in-Err-clause-is : goal.returns-in-Err-clause-is
returns-in-Err-clause-is c =
    let p = c.args.program.now in
    λ m s t go by.
    let e : Moment = record { program = p; before = s; thread = t } in
    field_resolves e m c.args.named.now.answer _ (λ f. throws_unless e (begins e) IncompatibleClassChangeError (as_wanted c.args.wants_static (is_static_at p f)) (go f)) by.answer c.in-Err.is
    ∙ ap (λ (error : GuestError). throws e error (begins e)) (sym c.of.ensures)

pub returns-in_err-throws_unless-clause-is : goal.returns-in_err-throws_unless-clause-is
returns-in_err-throws_unless-clause-is c =
    let p = c.args.program.now in
    let same : c.from_residual.result ≡ Err c.in_err-throws_unless.field-0.0 = search rules in
    let wanted : as_wanted c.args.wants_static (is_static_at p c.in-Ok.field) ≡ c.is_wanted-wanted.result = search rules in
    λ m s t go by.
    let e : Moment = record { program = p; before = s; thread = t } in
    let last = λ (f : ℕ). throws_unless e (begins e) IncompatibleClassChangeError (as_wanted c.args.wants_static (is_static_at p f)) (go f) in
    refusing e _ _ c.in_err-throws_unless.field-0.0 go
    (field_resolves e m c.args.named.now.answer _ last by.answer c.in-Ok.is
    ∙ (ap (λ (b : Bool). throws_unless e (begins e) IncompatibleClassChangeError b (go c.in-Ok.field)) wanted ∙ c.in_err-throws_unless.ensures.is e (go c.in-Ok.field))) same

pub returns-clause-is : goal.returns-clause-is
returns-clause-is c =
    let p = c.args.program.now in
    let wanted : as_wanted c.args.wants_static (is_static_at p c.in-Ok.field) ≡ c.is_wanted-wanted.result = search rules in
    λ m s t go by.
    let e : Moment = record { program = p; before = s; thread = t } in
    let last = λ (f : ℕ). throws_unless e (begins e) IncompatibleClassChangeError (as_wanted c.args.wants_static (is_static_at p f)) (go f) in
    field_resolves e m c.args.named.now.answer _ last by.answer c.in-Ok.is
    ∙ (ap (λ (b : Bool). throws_unless e (begins e) IncompatibleClassChangeError b (go c.in-Ok.field)) wanted ∙ c.in_ok-throws_unless.ensures.is e (go c.in-Ok.field))

pub returns-clause-field : goal.returns-clause-field
returns-clause-field c =
    let p = c.args.program.now in
    let wanted : as_wanted c.args.wants_static (is_static_at p c.in-Ok.field) ≡ true = search rules in
    record {
      within = subst (λ (r : Result ℕ LinkError). IfOk r (λ f. f < length p.fields)) c.in-Ok.is c.requires.1.within;
      flag = flag_as_wanted c.args.wants_static (is_static_at p c.in-Ok.field) wanted;
      descriptor = field_same p c.requires.0 c.args.named.now.answer _ c.requires.1.answer c.in-Ok.is ∙ c.requires.1.descriptor;
    }
