-- Lines that are followed as they come. In each list of lines here the newest stands first.
use Rattle.std.specs.Prelude.{◌≡◌, ℕ, ◌+◌, false, List, ◌∷◌, length, reverse, Some, None}
use Rattle.et_base.specs.declared.line.TraceLine.{TraceLine}
use Rattle.et_text.specs.Rules.{unended, has_ended, next_fault, AreFine}
use Rattle.et_text.specs.Text.{IsOneLine, IsLineSpelled, IsTextOf, IsReadTo, BreaksText, IsTraceFault}
use Rattle.et_text.specs.Stream.{FirstLine}
use Rattle.et_text.specs.StandsFor.{StandsForLines}
use Rattle.et_text.specs.declared.handing.Following.{Following}
use Rattle.et_text.specs.declared.fault.TraceFault.{TraceFault}
use Rattle.et_text.specs.declared.fault.TraceFault.TheVariants as faults

-- the lines break no rule, what they say is kept, and the follower was handed them
pub record IsFollowed {F : Type 0} (follows : F → List TraceLine → Type 0) (version : ℕ) (lines : Following F) (past : List TraceLine) : Type 0 where
  pub stands : StandsForLines lines.standing past
  pub fine : AreFine version past
  pub at : lines.number ≡ length past + 1
  pub followed : follows lines.follower past

-- so does the next line, and the follower was handed it
pub record IsLineFollowed {F : Type 0} (follows : F → List TraceLine → Type 0) (version : ℕ) (new : Following F) (past : List TraceLine) (line : TraceLine) : Type 0 where
  pub keeps : next_fault past line ≡ None
  pub followed : IsFollowed follows version new (line ∷ past)

-- the line is the first that breaks a rule
pub record BreaksNext (past : List TraceLine) (line : TraceLine) (kind number : ℕ) : Type 0 where
  pub breaks : next_fault past line ≡ Some kind
  pub at : number ≡ length past + 1

-- why a line is not taken. Want of memory says nothing of it.
abbrev pub RefusesNext : List TraceLine → TraceLine → TraceFault → Type 0
RefusesNext past line faults.NoMemory = Unit {0}
RefusesNext past line (faults.At kind number) = BreaksNext past line kind number

-- the lines end before a Z line, and to say so takes no memory
abbrev pub LacksFinish : List TraceLine → TraceFault → Type 0
LacksFinish past fault = (has_ended past ≡ false) × (fault ≡ faults.At unended (length past + 1))

-- A LINE OF A TEXT

-- the bytes are a line that breaks no rule, and the follower was handed it
pub record FollowsBytes {F : Type 0} (follows : F → List TraceLine → Type 0) (new : Following F) (past : List TraceLine) (bytes : List ℕ) : Type 0 where
  pub line : TraceLine
  pub spelled : IsLineSpelled line bytes
  pub taken : IsLineFollowed follows 1 new past line

-- the bytes break a rule
pub record BreaksBytes (past : List TraceLine) (bytes : List ℕ) (kind number : ℕ) : Type 0 where
  pub breaks : BreaksText past bytes kind
  pub at : number ≡ length past + 1

abbrev pub RefusesBytesNext : List TraceLine → List ℕ → TraceFault → Type 0
RefusesBytesNext past bytes faults.NoMemory = Unit {0}
RefusesBytesNext past bytes (faults.At kind number) = BreaksBytes past bytes kind number

-- THE FIRST LINE OF BYTES

-- the first line breaks no rule, and the follower was handed it
pub record FollowsFirst {F : Type 0} (follows : F → List TraceLine → Type 0) (new : Following F) (past : List TraceLine) (bytes behind : List ℕ) : Type 0 where
  pub line : List ℕ
  pub first : FirstLine bytes line behind
  pub taken : FollowsBytes follows new past line

-- no line is whole, and nothing was handed on
pub record LeavesBytes {F : Type 0} (follows : F → List TraceLine → Type 0) (new : Following F) (past : List TraceLine) (bytes : List ℕ) : Type 0 where
  pub one_line : IsOneLine bytes
  pub kept : IsFollowed follows 1 new past

-- the first line breaks a rule
pub record BreaksFirst (past : List TraceLine) (bytes : List ℕ) (kind number : ℕ) : Type 0 where
  pub line : List ℕ
  pub behind : List ℕ
  pub first : FirstLine bytes line behind
  pub breaks : BreaksBytes past line kind number

abbrev pub RefusesFirst : List TraceLine → List ℕ → TraceFault → Type 0
RefusesFirst past bytes faults.NoMemory = Unit {0}
RefusesFirst past bytes (faults.At kind number) = BreaksFirst past bytes kind number

-- A WHOLE TEXT

-- the lines at the front of the bytes were followed
pub record IsFollowedTo {F : Type 0} (follows : F → List TraceLine → Type 0) (lines : Following F) (rest bytes : List ℕ) : Type 0 where
  pub past : List TraceLine
  pub followed : IsFollowed follows 1 lines past
  pub read : IsReadTo past rest bytes

-- the bytes are a good text, and the follower was handed its lines
pub record IsTextFollowed {F : Type 0} (follows : F → List TraceLine → Type 0) (follower : F) (bytes : List ℕ) : Type 0 where
  pub lines : List TraceLine
  pub is_text : IsTextOf lines bytes
  pub followed : follows follower (reverse lines)

-- the fault is that of the bytes. Want of memory says nothing of them.
abbrev pub IsFaultOfText : List ℕ → TraceFault → Type 0
IsFaultOfText bytes faults.NoMemory = Unit {0}
IsFaultOfText bytes (faults.At kind number) = IsTraceFault bytes kind number
