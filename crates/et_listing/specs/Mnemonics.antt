-- Mnemonics: each stands at its opcode in NAMES, and its operands in SHAPES.
use Rattle.std.specs.Prelude.{ℕ, List, [], slice_index_or}
use Rattle.indexmap.specs.IndexSet.{insert_all}
use Rattle.et_listing.specs.declared.mnemonic.Shape.{Shape}
use Rattle.et_listing.specs.declared.mnemonic.Shape.TheVariants.{Refused}
use Rattle.et_listing.specs.declared.mnemonic.TheConstants.{NAMES, SHAPES}
use Rattle.et_listing.specs.Words.{words, same_word}

-- the words of NAMES, each once
unfoldable pub mnemonics : List (List ℕ)
mnemonics = insert_all same_word [] (words NAMES.now)

unfoldable pub mnemonic_shape : ℕ → Shape
mnemonic_shape opcode = slice_index_or SHAPES opcode Refused
