use Rattle.std.proofs.Common.{rules, ◌≡◌, Err, Bool, sym, ◌∙◌, ap}
use Rattle.et_state.specs.State.{kept_of}
use Rattle.et_event.specs.declared.errors.GuestError.TheVariants.{InstantiationError}
use Rattle.et_event.specs.Checks.{throws_unless}
use Rattle.et_event.specs.Moments.{moment, begins}
use Rattle.et_refs.proofs.Chains.{refusing}
use Rattle.et_refs.specs.Accesses.{wanted_outcome}
use Rattle.et_refs.proofs.ClassChains.{made_of, makes_class, makes_named, makes_fitting}
use Rattle.et_refs.proofs.types.instances.new_object.Goals as goal

pub returns-in_err-class-clause-is : goal.returns-in_err-class-clause-is
returns-in_err-class-clause-is c =
    let e = moment c.args.program.now c.args.machine.now c.args.thread in
    let at = c.args.place.now.site in
    let name = c.in-Ok.named.name.now in
    let same : c.from_residual-in_err-class.result ≡ Err c.in_err-class.field-0.0 = search rules in
    refusing e _ _ c.in_err-class.field-0.0 (wanted_outcome e at)
    (c.in-Ok.ensures.is e (makes_fitting e at) ∙ (c.in_ok-width_fits.ensures.is e (makes_named e at name) ∙ c.in_err-class.ensures.is (kept_of c.args.machine.now) c.args.thread (makes_class e at))) same

pub returns-in_err-throws_unless-clause-is : goal.returns-in_err-throws_unless-clause-is
returns-in_err-throws_unless-clause-is c =
    let e = moment c.args.program.now c.args.machine.now c.args.thread in
    let at = c.args.place.now.site in
    let name = c.in-Ok.named.name.now in
    let class = c.in_ok-class.class in
    let same : c.from_residual-in_err-throws_unless.result ≡ Err c.in_err-throws_unless.field-0.0 = search rules in
    refusing e _ _ c.in_err-throws_unless.field-0.0 (wanted_outcome e at)
    (c.in-Ok.ensures.is e (makes_fitting e at) ∙ (c.in_ok-width_fits.ensures.is e (makes_named e at name) ∙ (c.in_ok-class.ensures.is (kept_of c.args.machine.now) c.args.thread (makes_class e at)
    ∙ (ap (λ (b : Bool). throws_unless e (begins e) InstantiationError b (made_of e at class)) (sym c.may_be_made.ensures) ∙ c.in_err-throws_unless.ensures.is e (made_of e at class))))) same

pub returns-clause-is : goal.returns-clause-is
returns-clause-is c =
    let e = moment c.args.program.now c.args.machine.now c.args.thread in
    let at = c.args.place.now.site in
    let name = c.in-Ok.named.name.now in
    let class = c.in_ok-class.class in
    c.in-Ok.ensures.is e (makes_fitting e at) ∙ (c.in_ok-width_fits.ensures.is e (makes_named e at name) ∙ (c.in_ok-class.ensures.is (kept_of c.args.machine.now) c.args.thread (makes_class e at)
    ∙ (ap (λ (b : Bool). throws_unless e (begins e) InstantiationError b (made_of e at class)) (sym c.may_be_made.ensures) ∙ c.in_ok-throws_unless.ensures.is e (made_of e at class))))

pub resolve_named-requires : goal.resolve_named-requires
resolve_named-requires c = c.in-Ok.ensures.named c.args.program.now c.requires.refers.class c.requires.refers.pool
