-- The text of a trace, and its first fault.
use Rattle.std.specs.Prelude.{◌≡◌, ℕ, ◌+◌, ◌<◌, ◌⊎◌, true, false, List, ◌∷◌, ◌++◌, length, reverse, Some, All, ◌≢◌}
use Rattle.et_base.specs.declared.line.TraceLine.{TraceLine}
use Rattle.et_text.specs.Ranges.{IsInRange}
use Rattle.et_text.specs.Spelling.{line_body, text}
use Rattle.et_text.specs.Rules.{form, after, unended, has_ended, next_fault, AreFine, IsGood}

-- these bytes, without an LF, are the line
pub record IsLineSpelled (line : TraceLine) (bytes : List ℕ) : Type 0 where
  pub range : IsInRange 1 line
  pub spelled : bytes ≡ line_body line

-- no LF (10) is among the bytes
abbrev pub IsOneLine : List ℕ → Type 0
IsOneLine bytes = All (λ b. b ≢ 10) bytes

-- the bytes of a whole line break this rule after the lines so far: they are no line, or the line is refused
pub data BreaksText (past : List TraceLine) (bytes : List ℕ) : (kind : ℕ) → Type 0 where
  BreaksForm : has_ended past ≡ false → ((line : TraceLine) → IsLineSpelled line bytes → ⊥) → BreaksText past bytes form
  BreaksRule : (kind : ℕ) (line : TraceLine) → IsLineSpelled line bytes → next_fault past line ≡ Some kind → BreaksText past bytes kind
  BreaksAfter : has_ended past ≡ true → BreaksText past bytes after

-- the lines so far, the newest first, are fine, and the rest of the bytes stands behind them
pub record IsReadTo (past : List TraceLine) (rest bytes : List ℕ) : Type 0 where
  pub fine : AreFine 1 past
  pub parts : bytes ≡ text (reverse past) ++ rest

-- a whole line is the first one that breaks a rule: this kind at this number
pub record ShowsFault (bytes : List ℕ) (kind number : ℕ) : Type 0 where
  pub past : List TraceLine
  pub line : List ℕ
  pub behind : List ℕ
  pub read : IsReadTo past (line ++ 10 ∷ behind) bytes
  pub one_line : IsOneLine line
  pub breaks : BreaksText past line kind
  pub at : number ≡ length past + 1

-- no whole line breaks a rule
abbrev pub ShowsNone : List ℕ → Type 0
ShowsNone bytes = (kind number : ℕ) → ShowsFault bytes kind number → ⊥

-- the bytes end before a Z line, or behind it without an LF
pub data EndsWrong (past : List TraceLine) (rest : List ℕ) : (kind : ℕ) → Type 0 where
  EndsEarly : has_ended past ≡ false → EndsWrong past rest unended
  EndsLate : has_ended past ≡ true → 0 < length rest → EndsWrong past rest after

pub record EndsWithFault (bytes : List ℕ) (kind number : ℕ) : Type 0 where
  pub past : List TraceLine
  pub rest : List ℕ
  pub read : IsReadTo past rest bytes
  pub one_line : IsOneLine rest
  pub ends : EndsWrong past rest kind
  pub at : number ≡ length past + 1

-- THE FAULT of the bytes: its kind and the number of its line
abbrev pub IsTraceFault : List ℕ → ℕ → ℕ → Type 0
IsTraceFault bytes kind number = ShowsFault bytes kind number ⊎ EndsWithFault bytes kind number

-- the bytes are the text of this good list
pub record IsTextOf (lines : List TraceLine) (bytes : List ℕ) : Type 0 where
  pub good : IsGood 1 lines
  pub whole : bytes ≡ text lines

-- THE ANSWER of the bytes: they are the text of a good list, or they have a fault
pub data HasAnswer (bytes : List ℕ) : Type 0 where
  IsTrace : (lines : List TraceLine) → IsTextOf lines bytes → HasAnswer bytes
  IsRefused : (kind number : ℕ) → IsTraceFault bytes kind number → HasAnswer bytes
