-- THE SPELLINGS OF A TRACE, which the first byte tells apart.
use Rattle.std.specs.Prelude.{ℕ, ◌==◌, if◌then◌else◌, List, [], ◌∷◌, reverse}
use Rattle.et_base.specs.declared.format.Format.{Format}
use Rattle.et_base.specs.declared.format.Format.TheVariants as formats
use Rattle.et_base.specs.declared.line.TraceLine.{TraceLine}
use Rattle.et_text.specs.Text.{IsTextOf, IsTraceFault}
use Rattle.et_text.specs.declared.fault.TraceFault.{TraceFault}
use Rattle.et_text.specs.declared.fault.TraceFault.TheVariants as faults
use Rattle.et_binary.specs.Packing.{first_byte}
use Rattle.et_binary.specs.Packs.{IsPackOf, IsPackFault}

-- bytes that begin with FE are binary; all others, and no bytes, are a text
abbrev pub format_in : List ℕ → Format
format_in [] = formats.Text
format_in (b ∷ bytes) = if b == first_byte then formats.Binary else formats.Text

-- the bytes spell this good list by the rules of a format
abbrev pub SpellsIn : Format → List TraceLine → List ℕ → Type 0
SpellsIn formats.Text lines bytes = IsTextOf lines bytes
SpellsIn formats.Binary lines bytes = IsPackOf lines bytes

-- .. or they have this fault: its kind and the number of its line or record
abbrev pub HasFaultIn : Format → List ℕ → ℕ → ℕ → Type 0
HasFaultIn formats.Text bytes kind number = IsTraceFault bytes kind number
HasFaultIn formats.Binary bytes kind number = IsPackFault bytes kind number

-- both by the rules of the format that the bytes are in
abbrev pub SpellsTrace : List TraceLine → List ℕ → Type 0
SpellsTrace lines bytes = SpellsIn (format_in bytes) lines bytes

abbrev pub HasSpellingFault : List ℕ → ℕ → ℕ → Type 0
HasSpellingFault bytes kind number = HasFaultIn (format_in bytes) bytes kind number

-- THE ANSWER of the bytes: they spell a good list, or they have a fault
pub data HasSpellingAnswer (bytes : List ℕ) : Type 0 where
  IsSpelledTrace : (lines : List TraceLine) → SpellsTrace lines bytes → HasSpellingAnswer bytes
  IsRefusedTrace : (kind number : ℕ) → HasSpellingFault bytes kind number → HasSpellingAnswer bytes

-- the bytes spell a good list, and the follower was handed its lines
pub record IsTraceFollowed {F : Type 0} (follows : F → List TraceLine → Type 0) (follower : F) (bytes : List ℕ) : Type 0 where
  pub lines : List TraceLine
  pub spells : SpellsTrace lines bytes
  pub followed : follows follower (reverse lines)

-- the answer of a reader is the fault of the bytes by the rules of a format; want of memory says nothing
abbrev pub IsAnswerIn : Format → List ℕ → TraceFault → Type 0
IsAnswerIn format bytes (faults.At kind number) = HasFaultIn format bytes kind number
IsAnswerIn format bytes faults.NoMemory = Unit {0}
