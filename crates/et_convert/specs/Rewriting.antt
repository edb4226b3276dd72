-- A trace that is read once more, to be rewritten. The contracts of private functions alone speak of it.
use Rattle.std.specs.Prelude.{◌≡◌, ℕ, List, ◌∷◌, All}
use Rattle.std.specs.List.{flat_map}
use Rattle.et_base.specs.declared.format.Format.{Format}
use Rattle.et_base.specs.declared.format.Format.TheVariants as formats
use Rattle.et_base.specs.declared.line.TraceLine.{TraceLine}
use Rattle.et_text.specs.Ranges.{IsInRange, HasShortNames, header_version}
use Rattle.et_text.specs.Spelling.{text}
use Rattle.et_binary.specs.Packing.{packing}

-- the bytes of lines that stand behind the opening
abbrev pub bytes_of : Format → List TraceLine → List ℕ
bytes_of formats.Text lines = text lines
bytes_of formats.Binary lines = flat_map packing lines

-- these lines are left, and the bytes are theirs
pub record AreLeft (format : Format) (lines : List TraceLine) (bytes : List ℕ) : Type 0 where
  pub ranges : All (IsInRange (header_version format)) lines
  pub bytes_are : bytes ≡ bytes_of format lines

-- one of them stands first, and the others behind it
pub record StandsFirst (format : Format) (lines : List TraceLine) (line : TraceLine) (behind : List ℕ) : Type 0 where
  pub more : List TraceLine
  pub first : lines ≡ line ∷ more
  pub left : AreLeft format more behind

-- there are such lines
abbrev pub HasLines : Format → List ℕ → Type 0
HasLines format bytes = (lines : List TraceLine) × AreLeft format lines bytes × All HasShortNames lines
