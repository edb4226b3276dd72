use Rattle.std.proofs.Common.{◌≡◌, sym, ◌∙◌, ap, subst}
use Rattle.std.specs.Prelude.{Result, IfOk}
use Rattle.et_program.specs.Entries.{method_at}
use Rattle.et_program.specs.declared.errors.LinkError.{LinkError}
use Rattle.et_program.specs.declared.lookup.referring.NamedMethod.{NamedMethod}
use Rattle.et_event.specs.declared.errors.GuestError.{GuestError}
use Rattle.et_event.specs.Moments.{begins, throws}
use Rattle.et_event.specs.Sites.{names_interface}
use Rattle.et_builtins.proofs.Referred.{going, finding, method_resolves, method_finds, method_same}
use Rattle.et_builtins.proofs.plans.resolve.Goals as goal

pub returns-in-Ok-clause-value : goal.returns-in-Ok-clause-value
returns-in-Ok-clause-value c = λ e m go same is.
    method_resolves e c.args.program.now m (names_interface c.args.site.now) c.method_named.result go same (c.method_named.ensures.value m is)
    ∙ ap (λ (r : Result NamedMethod LinkError). going e r go) c.in-Ok.is

pub returns-in-Err-clause-value : goal.returns-in-Err-clause-value
returns-in-Err-clause-value c = λ e m go same is.
    method_resolves e c.args.program.now m (names_interface c.args.site.now) c.method_named.result go same (c.method_named.ensures.value m is)
    ∙ (ap (λ (r : Result NamedMethod LinkError). going e r go) c.in-Err.is ∙ ap (λ (error : GuestError). throws e error (begins e)) (sym c.of.ensures))

pub returns-in-Ok-clause-found : goal.returns-in-Ok-clause-found
returns-in-Ok-clause-found c = λ m go is.
    method_finds c.args.program.now m (names_interface c.args.site.now) c.method_named.result go (c.method_named.ensures.value m is)
    ∙ ap (λ (r : Result NamedMethod LinkError). finding r go) c.in-Ok.is

pub returns-in-Err-clause-found : goal.returns-in-Err-clause-found
returns-in-Err-clause-found c = λ m go is.
    method_finds c.args.program.now m (names_interface c.args.site.now) c.method_named.result go (c.method_named.ensures.value m is)
    ∙ ap (λ (r : Result NamedMethod LinkError). finding r go) c.in-Err.is

pub returns-in-Ok-clause-same : goal.returns-in-Ok-clause-same
returns-in-Ok-clause-same c = λ m is.
    subst (λ (r : Result NamedMethod LinkError). IfOk r (λ (x : NamedMethod). (method_at c.args.program.now x.method).descriptor ≡ m.descriptor)) c.in-Ok.is
    (method_same c.args.program.now m (names_interface c.args.site.now) c.method_named.result (c.method_named.ensures.value m is))
