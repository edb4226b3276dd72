-- Behind the last opcode stands no mnemonic.
use Rattle.std.proofs.Common.{◌≡◌, ℕ, ◌≤◌, arith}
use Rattle.std.proofs.lemmas.List.{get_or_past}
use Rattle.et_listing.specs.declared.mnemonic.Shape.TheVariants.{Refused}
use Rattle.et_listing.specs.declared.mnemonic.TheConstants.{SHAPES}
use Rattle.et_listing.specs.Mnemonics.{mnemonic_shape}

pub shape_past : (opcode : ℕ) → 256 ≤ opcode → mnemonic_shape opcode ≡ Refused
unfolding mnemonic_shape
shape_past opcode le = get_or_past SHAPES opcode Refused (omega arith)
