use Rattle.std.proofs.Common.{◌≡◌, ◌++◌, List, ℕ, of_z, rules, SFits, to_z, sym, ap, ◌∙◌}
use Rattle.std.specs.Fmt.{signed_decimal}
use Rattle.std.specs.Int.{w64}
use Rattle.et_event.specs.TextRows.{shown, written_units}
use Rattle.et_state.specs.Spoken.{spoken}
use Rattle.et_state.specs.State.{kept_of}
use Rattle.et_strings.proofs.Plain.{number_plain, plain-written}
use Rattle.et_strings.proofs.writing.say.Goals as goal

pub returns-in_ok-extend_from_slice-in-Number : goal.returns-in_ok-extend_from_slice-in-Number
returns-in_ok-extend_from_slice-in-Number c =
    let s = spoken c.args.texts.now (kept_of c.args.machine.now) in
    let number : to_z w64 (of_z w64 c.in-Number.n) ≡ c.in-Number.n = search rules in
    let fits : SFits w64 c.in-Number.n = search rules in
    let bytes : c.as_bytes.result.now ≡ signed_decimal c.in-Number.n = c.as_bytes.ensures.value ∙ (c.format.ensures.text ∙ ap signed_decimal number) in
    let written : signed_decimal c.in-Number.n ≡ written_units (shown s c.args.kind c.args.value) = sym (plain-written (signed_decimal c.in-Number.n) (number_plain c.in-Number.n fits.sfits)) ∙ ap written_units (c.in-Number.ensures.units s) in
    c.in_ok-extend_from_slice-in-Number.ensures.items ∙ ap (λ (b : List ℕ). c.args.said.now.items ++ b) (bytes ∙ written)

pub returns-in_ok-extend_from_slice-in-Word : goal.returns-in_ok-extend_from_slice-in-Word
returns-in_ok-extend_from_slice-in-Word c =
    let s = spoken c.args.texts.now (kept_of c.args.machine.now) in
    let written : c.in-Word.word.now ≡ written_units (shown s c.args.kind c.args.value) = sym (plain-written c.in-Word.word.now c.in-Word.ensures.plain.0) ∙ ap written_units (c.in-Word.ensures.units s) in
    c.in_ok-extend_from_slice-in-Word.ensures.items ∙ ap (λ (b : List ℕ). c.args.said.now.items ++ b) written
