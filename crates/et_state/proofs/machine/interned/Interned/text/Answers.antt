use Rattle.std.proofs.Common.{◌≡◌, ℕ, ◌<◌, ◌^◌, ◌∙◌, List, length, Option, sym, ap, Some, subst}
use Rattle.std.specs.Prelude.{All, IfSome}
use Rattle.std.specs.Option.{option_copied}
use Rattle.et_state.proofs.Strings.{text-missing, text-found, text-short}
use Rattle.et_state.proofs.machine.interned.Interned.text.Goals as goal

pub returns-in_err-i-clause-value : goal.returns-in_err-i-clause-value
returns-in_err-i-clause-value c =
    ap option_copied c.from_residual.ensures ∙ sym (text-missing c.self.inside.objects.entries _ _ _ _ c.number.ensures.value c.self.invariant.ordered c.self.view_is c.in_err-i.ensures.index)

pub returns-clause-value : goal.returns-clause-value
returns-clause-value c =
    ap Some c.as_slice.ensures.value ∙ sym (text-found c.self.inside.objects.entries _ _ _ _ _ _ c.number.ensures.value c.self.invariant.ordered c.self.view_is c.in_ok-i.ensures.index c.in_ok-text.ensures.entry)

pub returns-clause-short : goal.returns-clause-short
returns-clause-short c =
    subst (λ (t : Option (List ℕ)). IfSome t (λ bytes. length bytes < 2 ^ 16)) (sym (returns-clause-value c))
    (text-short c.args.self.now c.args.o (subst (All (λ (s : List ℕ × ℕ). length s.0 < 2 ^ 16)) c.self.view_is c.self.invariant.short))
