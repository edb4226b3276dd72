-- What arguments are shown as.
use Rattle.std.specs.Prelude.{◌≡◌, ℕ, ◌≤◌, true, List, [], ◌∷◌, length}
use Rattle.std.specs.Fmt.{signed_decimal}
use Rattle.std.specs.List.{list_all}
use Rattle.et_pool.specs.Text.{is_one_byte}
use Rattle.et_state.specs.Spoken.{text_of}
use Rattle.et_state.specs.State.{Kept}
use Rattle.et_strings.specs.declared.shown.Piece.{Piece}
use Rattle.et_strings.specs.declared.shown.Piece.TheVariants.{Text, Number, Single, Word}

-- the units of a piece
abbrev pub units_of_piece : Kept → Piece → List ℕ
units_of_piece s (Text o) = text_of s o
units_of_piece s (Number n) = signed_decimal n
units_of_piece s (Single u) = u ∷ []
units_of_piece s (Word word) = word.now

-- a word is short, and each of its bytes is the unit that it stands for
abbrev pub IsPlainPiece : Piece → Type 0
IsPlainPiece (Word word) = (list_all is_one_byte word.now ≡ true) × (length word.now ≤ 5)
IsPlainPiece other = Unit {0}
