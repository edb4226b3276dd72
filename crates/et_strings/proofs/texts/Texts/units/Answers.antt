use Rattle.std.proofs.Common.{◌+◌, ◌≡◌, length, subst}
use Rattle.et_state.specs.Texts.{Texts, given_text, with_text, text_units}
use Rattle.et_strings.proofs.Entries.{spelled, ordered-spelled, units-given}
use Rattle.et_strings.proofs.texts.Texts.units.Goals as goal

pub returns-clause-given : goal.returns-clause-given
returns-clause-given c = λ o text.
    subst (λ (x : Texts). text_units (with_text o text x) + length (given_text x o) ≡ text_units x + length text) c.self.view_is
    (units-given o text (spelled c.self.inside.own.entries) (ordered-spelled c.self.inside.own.entries c.self.invariant.ordered))
