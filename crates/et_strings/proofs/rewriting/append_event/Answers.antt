use Rattle.std.proofs.Common.{◌≡◌, arith, length, of_z, rules, SFits, to_z, ap, ◌∙◌}
use Rattle.std.specs.Fmt.{signed_decimal}
use Rattle.std.specs.Int.{w64}
use Rattle.et_event.specs.TextRows.{shown}
use Rattle.et_event.proofs.Answering.{if_ok}
use Rattle.et_pool.specs.Text.{units_of}
use Rattle.et_state.specs.Spoken.{spoken}
use Rattle.et_state.specs.State.{kept_of}
use Rattle.et_strings.proofs.Plain.{number_plain, plain-units, units-few}
use Rattle.et_strings.proofs.rewriting.append_event.Goals as goal

pub append_text-requires-in-Number-clause-short : goal.append_text-requires-in-Number-clause-short
append_text-requires-in-Number-clause-short c = omega (arith, units-few c.as_bytes.result.now, ap length c.as_bytes.ensures.value, c.format.ensures.short)

pub append_text-requires-in-Word-clause-short : goal.append_text-requires-in-Word-clause-short
append_text-requires-in-Word-clause-short c = omega (arith, units-few c.in-Word.word.now, c.in-Word.ensures.plain.1)

pub returns-in-Number : goal.returns-in-Number
returns-in-Number c =
    let s = spoken c.args.texts.now (kept_of c.args.machine.now) in
    let number : to_z w64 (of_z w64 c.in-Number.n) ≡ c.in-Number.n = search rules in
    let fits : SFits w64 c.in-Number.n = search rules in
    let bytes : c.as_bytes.result.now ≡ signed_decimal c.in-Number.n = c.as_bytes.ensures.value ∙ (c.format.ensures.text ∙ ap signed_decimal number) in
    let units : units_of c.as_bytes.result.now ≡ shown s c.args.kind c.args.call.now.argument =
    ap units_of bytes ∙ (plain-units (signed_decimal c.in-Number.n) (number_plain c.in-Number.n fits.sfits) ∙ c.in-Number.ensures.units s) in
    if_ok c.append_text-in-Number.result (λ end h. h c.args.kind units) c.append_text-in-Number.ensures

pub returns-in-Word : goal.returns-in-Word
returns-in-Word c =
    let s = spoken c.args.texts.now (kept_of c.args.machine.now) in
    let units : units_of c.in-Word.word.now ≡ shown s c.args.kind c.args.call.now.argument = plain-units c.in-Word.word.now c.in-Word.ensures.plain.0 ∙ c.in-Word.ensures.units s in
    if_ok c.append_text-in-Word.result (λ end h. h c.args.kind units) c.append_text-in-Word.ensures
