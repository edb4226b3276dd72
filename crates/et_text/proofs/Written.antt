-- A line that is written by its fields is the line of text.
use Rattle.std.proofs.Common.{◌≡◌, ℕ, List, [], ◌∷◌, ◌++◌, length, refl, ap, arith}
use Rattle.std.specs.List.{flat_map}
use Rattle.et_base.specs.declared.line.TraceLine.{TraceLine}
use Rattle.et_base.specs.declared.line.TraceLine.TheVariants.{Header, Method}
use Rattle.et_text.specs.Fields.{numbers_of, line_bytes}
use Rattle.et_text.specs.Ranges.{HasNames}
use Rattle.et_text.specs.Spelling.{field_text, number_field, line_body}
use Rattle.et_text.specs.declared.fields.Width.{Width}

-- a width is of no account in a text
pub numbers_spelled : (widths : List Width) (numbers : List ℕ) → length widths ≡ length numbers → flat_map field_text (numbers_of widths numbers) ≡ flat_map number_field numbers
numbers_spelled [] [] e = refl
numbers_spelled [] (n ∷ numbers) e = absurd (omega arith)
numbers_spelled (w ∷ widths) [] e = absurd (omega arith)
numbers_spelled (w ∷ widths) (n ∷ numbers) e = ap (λ (t : List ℕ). number_field n ++ t) (numbers_spelled widths numbers (omega arith))

pub line_spelled : (line : TraceLine) → line_bytes (λ v interval. line_body (Header v interval)) field_text line ≡ line_body line
line_spelled (Header v interval) = refl
line_spelled line = refl

-- each name can be spelled
pub any_names : (line : TraceLine) → HasNames (λ name. Unit {0}) line
any_names (Method number class name descriptor) = (tt, tt)
any_names line = tt
