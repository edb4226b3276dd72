use Rattle.std.proofs.Common.{◌≡◌, [], take}
use Rattle.indexmap.specs.IndexSet.{insert_all}
use Rattle.et_listing.specs.Words.{same_word}
use Rattle.et_listing.proofs.mnemonic.mnemonics.Given as goal

abbrev pub invariant-loop-word : goal.invariant-loop-word
invariant-loop-word l = l.names.keys ≡ insert_all same_word [] (take l.word-index l.word-items)
