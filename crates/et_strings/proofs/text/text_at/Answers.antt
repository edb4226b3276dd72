use Rattle.std.proofs.Common.{ℕ, ◌<◌, ◌≤◌, ◌^◌, List, Option, arith, length, sym, ap, subst, ◌∙◌}
use Rattle.std.specs.Option.{option_copied}
use Rattle.std.specs.Prelude.{IfSome}
use Rattle.et_state.specs.Spoken.{constant_or}
use Rattle.et_state.specs.Texts.{given_text, longest_text}
use Rattle.et_strings.proofs.Entries.{given-short}
use Rattle.et_strings.proofs.Plain.{units-few}
use Rattle.et_strings.proofs.text.text_at.Goals as goal

pub returns-in-Some-clause-value : goal.returns-in-Some-clause-value
returns-in-Some-clause-value c = ap (λ (t : Option (List ℕ)). constant_or t (given_text c.args.texts.now c.args.o)) (ap option_copied (sym c.in-Some.is) ∙ c.text_of.ensures.value)

pub returns-in-Some-clause-short : goal.returns-in-Some-clause-short
returns-in-Some-clause-short c =
    let bytes = c.in-Some.bytes.now in
    let short : length bytes < 2 ^ 16 = subst (λ (t : Option (List ℕ)). IfSome t (λ b. length b < 2 ^ 16)) (ap option_copied c.in-Some.is) c.text_of.ensures.short in
    omega (arith, units-few bytes)

pub returns-in-None-clause-value : goal.returns-in-None-clause-value
returns-in-None-clause-value c = c.get.ensures ∙ ap (λ (t : Option (List ℕ)). constant_or t (given_text c.args.texts.now c.args.o)) (ap option_copied (sym c.in-None.is) ∙ c.text_of.ensures.value)

pub returns-in-None-clause-short : goal.returns-in-None-clause-short
returns-in-None-clause-short c = subst (λ (u : List ℕ). length u ≤ longest_text) (sym c.get.ensures) (given-short c.args.texts.now c.args.o c.requires)
