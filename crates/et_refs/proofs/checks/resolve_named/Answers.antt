use Rattle.std.proofs.Common.{sym, ◌∙◌, ap}
use Rattle.std.specs.Prelude.{Result, ℕ}
use Rattle.et_program.specs.declared.errors.LinkError.{LinkError}
use Rattle.et_event.specs.declared.errors.GuestError.{GuestError}
use Rattle.et_event.specs.Checks.{resolved}
use Rattle.et_event.specs.Moments.{Moment, begins, throws}
use Rattle.et_refs.proofs.ReferredClasses.{class_answer, class_there}
use Rattle.et_refs.proofs.checks.resolve_named.Goals as goal

pub returns-in-Some-Ok-clause-is : goal.returns-in-Some-Ok-clause-is
returns-in-Some-Ok-clause-is c = λ s t go.
    let e : Moment = record { program = c.args.program.now; before = s; thread = t } in
    let x = c.args.named.now in
    ap (λ (r : Result ℕ LinkError). resolved e (begins e) r go) (class_answer c.args.program.now x.class x.index x.name.now _ c.requires.entry c.in-Some-Ok.ensures.value ∙ c.in-Some-Ok.field-0-is)

pub returns-in-Some-Err-clause-is : goal.returns-in-Some-Err-clause-is
returns-in-Some-Err-clause-is c = λ s t go.
    let e : Moment = record { program = c.args.program.now; before = s; thread = t } in
    let x = c.args.named.now in
    ap (λ (r : Result ℕ LinkError). resolved e (begins e) r go) (class_answer c.args.program.now x.class x.index x.name.now _ c.requires.entry c.in-Some-Err.ensures.value ∙ c.in-Some-Err.field-0-is)
    ∙ ap (λ (error : GuestError). throws e error (begins e)) (sym c.of.ensures)

pub unreachable-requires : goal.unreachable-requires
unreachable-requires c = class_there c.args.program.now c.args.named.now.class c.args.named.now.index c.args.named.now.name.now c.requires.entry c.in-None.ensures.value
