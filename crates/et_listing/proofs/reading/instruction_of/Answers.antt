use Rattle.std.proofs.Common.{◌≡◌, position, Some, ap, ◌∙◌}
use Rattle.et_listing.specs.Words.{same_word}
use Rattle.et_listing.specs.Mnemonics.{mnemonics}
use Rattle.et_listing.specs.Lines.{word_at, with_mnemonic}
use Rattle.et_listing.proofs.reading.instruction_of.Goals as goal

pub returns-in-Some : goal.returns-in-Some
returns-in-Some c =
    let words = c.args.words.now in
    let found : Some c.in-Some.opcode ≡ position (λ name. same_word (word_at words 0) name) mnemonics =
    c.in-Some.ensures
    ∙ (ap (λ w. position (λ name. same_word w name) c.args.names.now.keys) c.word_at.ensures
    ∙ ap (λ keys. position (λ name. same_word (word_at words 0) name) keys) c.requires) in
    c.with_opcode.ensures ∙ ap (with_mnemonic words) found
