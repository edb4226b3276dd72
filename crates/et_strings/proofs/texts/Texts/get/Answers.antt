use Rattle.std.proofs.Common.{Some, None, sym, ap, ◌∙◌}
use Rattle.std.specs.Option.{option_copied}
use Rattle.et_state.specs.Texts.{given_text}
use Rattle.et_strings.proofs.Entries.{found}
use Rattle.et_strings.proofs.texts.Texts.get.Goals as goal

pub returns-in-Some : goal.returns-in-Some
returns-in-Some c =
    c.as_slice.ensures.value
    ∙ (found c.self.inside.own.entries c.args.self.now c.number.result (Some c.in-Some.units.now) c.self.view_is (ap option_copied (sym c.in-Some.is) ∙ c.get.ensures.value)
    ∙ ap (given_text c.args.self.now) c.number.ensures.value)

pub returns-in-None : goal.returns-in-None
returns-in-None c =
    found c.self.inside.own.entries c.args.self.now c.number.result None c.self.view_is (ap option_copied (sym c.in-None.is) ∙ c.get.ensures.value)
    ∙ ap (given_text c.args.self.now) c.number.ensures.value
