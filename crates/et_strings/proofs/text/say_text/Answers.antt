use Rattle.std.proofs.Common.{◌++◌, List, ℕ, ap, sym, ◌∙◌}
use Rattle.et_event.specs.TextRows.{written_units}
use Rattle.et_strings.specs.TextUnits.{units_in}
use Rattle.et_strings.specs.declared.text.Text.{Text}
use Rattle.et_strings.proofs.Plain.{plain-said}
use Rattle.et_strings.proofs.text.say_text.Goals as goal

pub returns-in_ok-extend_from_slice-in-Constant : goal.returns-in_ok-extend_from_slice-in-Constant
returns-in_ok-extend_from_slice-in-Constant c =
    let bytes = c.in-Constant.bytes.now in
    c.in_ok-extend_from_slice-in-Constant.ensures.items
    ∙ (ap (λ (b : List ℕ). c.args.said.now.items ++ b) (sym (plain-said bytes (sym c.is_plain.ensures ∙ c.if-is_plain.true)))
    ∙ ap (λ (t : Text). c.args.said.now.items ++ written_units (units_in t)) (sym c.in-Constant.is))
