use Rattle.std.proofs.Common.{◌≡◌, ℕ, ◌+◌, ◌*◌, List, [], ◌∷◌, ◌++◌, ◌∙◌, ap, subst, append_assoc}
use Rattle.std.proofs.lemmas.Result.{on_ok_weaker}
use Rattle.et_base.specs.declared.value.Value.TheVariants.{Null, Ref}
use Rattle.et_state.specs.declared.records.Record.{Record}
use Rattle.et_state.specs.declared.records.Record.TheVariants.{Alloc, Update}
use Rattle.et_event.specs.Telling.{TellsUpdate}
use Rattle.et_event.proofs.Updating.{tells_reference}
use Rattle.et_throw.proofs.records.tell_error.Goals as goal

error_told : (event next t o class slots cause : ℕ) (out out₁ out₂ : List Record) → event ≡ next → out₁ ≡ out ++ Alloc event t o class (16 + 8 * slots) 0 ∷ [] → TellsUpdate event t o 1 Null (Ref cause) out₁ out₂
    → out₂ ≡ out ++ (Alloc next t o class (16 + 8 * slots) 0 ∷ Update next t o 1 0 cause ∷ [])
error_told event next t o class slots cause out out₁ out₂ same made told =
    subst (λ (n : ℕ). out₂ ≡ out ++ (Alloc n t o class (16 + 8 * slots) 0 ∷ Update n t o 1 0 cause ∷ [])) same
    (tells_reference event t o 1 cause Null out₁ out₂ told
    ∙ (ap (λ (l : List Record). l ++ Update event t o 1 0 cause ∷ []) made ∙ append_assoc out (Alloc event t o class (16 + 8 * slots) 0 ∷ []) (Update event t o 1 0 cause ∷ [])))

pub returns : goal.returns
returns c =
    let event : ℕ = c.clock-event.result + 1 in
    on_ok_weaker c.tell_update.result
    (λ (told : TellsUpdate event c.args.thread c.args.error 1 Null (Ref c.args.cause) c.tell_instance.new.out c.tell_update.new.out).
    error_told event (c.args.machine.now.guest.clock + 1) c.args.thread c.args.error c.args.class c.args.slots c.args.cause c.args.out.now c.tell_instance.new.out c.tell_update.new.out (ap (λ (n : ℕ). n + 1) c.clock-event.ensures) c.in_ok-tell_instance.ensures.ok told)
    c.tell_update.ensures.ok
