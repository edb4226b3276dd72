-- The pack of a trace, and its first fault.
use Rattle.std.specs.Prelude.{◌≡◌, ◌≢◌, ℕ, ◌+◌, ◌<◌, ◌^◌, ◌⊎◌, true, false, List, ◌∷◌, ◌++◌, length, reverse, Some, All}
use Rattle.std.specs.List.{AllByRecursion}
use Rattle.std.specs.Int.{byte_len}
use Rattle.et_base.specs.declared.line.TraceLine.{TraceLine}
use Rattle.et_base.specs.declared.line.TraceLine.TheVariants.{Header}
use Rattle.et_text.specs.Spelling.{LineField, Number, Text, letter}
use Rattle.et_text.specs.Ranges.{IsInRange, IsShort}
use Rattle.et_text.specs.Rules.{form, after, unended, has_ended, next_fault, AreFine, IsGood}
use Rattle.et_binary.specs.Packing.{packed_fields, packing, opening, pack}

-- RECORDS, whose numbers may be out of their ranges

-- the field has room: a number in its width, a length in 32 bits
abbrev pub FitsWidth : LineField → Type 0
FitsWidth (Number w n) = n < 256 ^ byte_len w
FitsWidth (Text name) = IsShort name × All (λ b. b < 256) name

-- the version of a header is 2
abbrev pub SaysTwo : TraceLine → Type 0
SaysTwo (Header v interval) = v ≡ 2
SaysTwo _ = Unit {0}

-- these bytes are the record of the line
pub record IsPacked (line : TraceLine) (bytes : List ℕ) : Type 0 where
  pub version : SaysTwo line
  pub room : AllByRecursion FitsWidth (packed_fields line)
  pub packed : bytes ≡ packing line

-- no line has this letter
abbrev pub IsNoLetter : ℕ → Type 0
IsNoLetter b = (line : TraceLine) → b ≡ letter line → ⊥

-- the bytes begin with no letter of the table, or with a whole record that has a number out of its range or an empty name
pub data IsMalformed (bytes : List ℕ) : Type 0 where
  HasNoLetter : (b : ℕ) (behind : List ℕ) → bytes ≡ b ∷ behind → IsNoLetter b → IsMalformed bytes
  IsOutOfRange : (line : TraceLine) (first behind : List ℕ) → bytes ≡ first ++ behind → IsPacked line first → (IsInRange 2 line → ⊥) → IsMalformed bytes

-- no record is whole in the bytes, but the letter is one of the table where it is there
pub record IsUnfinished (bytes : List ℕ) : Type 0 where
  pub letter_fits : (b : ℕ) (behind : List ℕ) → bytes ≡ b ∷ behind → IsNoLetter b → ⊥
  pub not_whole : (line : TraceLine) (first behind : List ℕ) → bytes ≡ first ++ behind → IsPacked line first → ⊥

-- FAULTS

-- the bytes from a record on break this rule after the lines so far
pub data BreaksRecord (past : List TraceLine) (bytes : List ℕ) : (kind : ℕ) → Type 0 where
  BreaksTable : has_ended past ≡ false → IsMalformed bytes → BreaksRecord past bytes form
  BreaksOrder : (kind : ℕ) (line : TraceLine) (behind : List ℕ) → IsInRange 2 line → bytes ≡ packing line ++ behind → next_fault past line ≡ Some kind → BreaksRecord past bytes kind
  BreaksEnd : has_ended past ≡ true → 0 < length bytes → BreaksRecord past bytes after

-- the lines so far, the newest first, are fine, and the rest of the bytes stands behind their records
pub record IsUnpackedTo (past : List TraceLine) (rest bytes : List ℕ) : Type 0 where
  pub fine : AreFine 2 past
  pub parts : bytes ≡ pack (reverse past) ++ rest

-- the bytes, however they go on, have this fault: one of the first four is wrong, or a record is the first to break a rule
pub data ShowsPackFault (bytes : List ℕ) : (kind number : ℕ) → Type 0 where
  ShowsOpening : (front : List ℕ) (wanted found : ℕ) (wanting behind : List ℕ) → opening ≡ front ++ wanted ∷ wanting → bytes ≡ front ++ found ∷ behind → found ≢ wanted → ShowsPackFault bytes form 1
  ShowsRecord : (past : List TraceLine) (rest : List ℕ) (kind number : ℕ) → IsUnpackedTo past rest bytes → BreaksRecord past rest kind → number ≡ length past + 1 → ShowsPackFault bytes kind number

-- no byte and no record breaks a rule
abbrev pub ShowsNoPackFault : List ℕ → Type 0
ShowsNoPackFault bytes = (kind number : ℕ) → ShowsPackFault bytes kind number → ⊥

-- the bytes end within the first four, or before a Z record is whole
pub data LacksRecord (bytes : List ℕ) : (number : ℕ) → Type 0 where
  EndsInOpening : (more : List ℕ) → opening ≡ bytes ++ more → 0 < length more → LacksRecord bytes 1
  EndsInRecord : (past : List TraceLine) (rest : List ℕ) (number : ℕ) → IsUnpackedTo past rest bytes → has_ended past ≡ false → IsUnfinished rest → number ≡ length past + 1 → LacksRecord bytes number

-- THE FAULT of the bytes: its kind and the number of its record
abbrev pub IsPackFault : List ℕ → ℕ → ℕ → Type 0
IsPackFault bytes kind number = ShowsPackFault bytes kind number ⊎ ((kind ≡ unended) × LacksRecord bytes number)

-- the bytes are the pack of this good list
pub record IsPackOf (lines : List TraceLine) (bytes : List ℕ) : Type 0 where
  pub good : IsGood 2 lines
  pub whole : bytes ≡ pack lines

-- THE ANSWER of the bytes: they are the pack of a good list, or they have a fault
pub data HasPackAnswer (bytes : List ℕ) : Type 0 where
  IsTracePack : (lines : List TraceLine) → IsPackOf lines bytes → HasPackAnswer bytes
  IsRefusedPack : (kind number : ℕ) → IsPackFault bytes kind number → HasPackAnswer bytes
