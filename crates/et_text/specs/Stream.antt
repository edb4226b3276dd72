-- A text that comes in pieces.
use Rattle.std.specs.Prelude.{◌≡◌, ℕ, ◌+◌, Bool, List, ◌∷◌, ◌++◌, length, reverse, Option, Some, None}
use Rattle.et_base.specs.declared.line.TraceLine.{TraceLine}
use Rattle.et_text.specs.Rules.{has_ended, AreFine}
use Rattle.et_text.specs.Spelling.{text}
use Rattle.et_text.specs.Text.{IsOneLine, IsLineSpelled, BreaksText, ShowsFault, ShowsNone, IsTraceFault}
use Rattle.et_text.specs.Taken.{Taken, TakesLine}
use Rattle.et_text.specs.declared.fault.TraceFault.{TraceFault}
use Rattle.et_text.specs.declared.fault.TraceFault.TheVariants as faults

-- all bytes so far, while no fault came, and the fault that came, if one did
pub record Reading : Type 0 where
  pub bytes : List ℕ
  pub fault : Option TraceFault

-- the piece came, and no whole line of the bytes so far breaks a rule
pub record GrowsBy (old new : Reading) (piece : List ℕ) : Type 0 where
  pub unharmed : old.fault ≡ None
  pub grown : new ≡ record old { bytes = old.bytes ++ piece }
  pub shows_none : ShowsNone new.bytes

-- a line that the piece ends is the first that breaks a rule, and this fault is kept
pub record Fails (old new : Reading) (piece : List ℕ) (kind number : ℕ) : Type 0 where
  pub shown_none : ShowsNone old.bytes
  pub shows : ShowsFault (old.bytes ++ piece) kind number
  pub kept : new.fault ≡ Some (faults.At kind number)

-- why the piece is not taken: one of its lines breaks a rule, or memory ran out, which is kept too
abbrev pub StopsReading : Reading → Reading → List ℕ → TraceFault → Type 0
StopsReading old new piece faults.NoMemory = new.fault ≡ Some faults.NoMemory
StopsReading old new piece (faults.At kind number) = Fails old new piece kind number

-- the bytes have this fault. To say so takes no memory.
abbrev pub HasTextFault : List ℕ → TraceFault → Type 0
HasTextFault bytes faults.NoMemory = ⊥
HasTextFault bytes (faults.At kind number) = IsTraceFault bytes kind number

-- WHAT A READER KEEPS

-- the bytes so far: the lines that were taken, and the bytes behind them
abbrev pub bytes_read : Taken → List ℕ → List ℕ
bytes_read taken rest = text taken.lines ++ rest

pub record AreRead (taken : Taken) (ended : Bool) (rest : List ℕ) : Type 0 where
  pub unharmed : taken.fault ≡ None
  pub fine : AreFine 1 (reverse taken.lines)
  pub ended_is : ended ≡ has_ended (reverse taken.lines)
  pub one_line : IsOneLine rest

-- so it is while no fault came
abbrev pub KeepsReading : Option TraceFault → Taken → Bool → List ℕ → Type 0
KeepsReading fault taken ended rest = fault ≡ None → AreRead taken ended rest

-- ONE LINE

-- the bytes are a line that breaks no rule; last says whether it is the last one
pub record TakesBytes (old new : Taken) (bytes : List ℕ) (last : Bool) : Type 0 where
  pub line : TraceLine
  pub spelled : IsLineSpelled line bytes
  pub takes : TakesLine old new line
  pub fine : AreFine 1 (reverse new.lines)
  pub last_is : last ≡ has_ended (reverse new.lines)

-- the bytes break a rule
pub record RefusesBytes (old : Taken) (bytes : List ℕ) (kind number : ℕ) : Type 0 where
  pub breaks : BreaksText (reverse old.lines) bytes kind
  pub at : number ≡ length old.lines + 1

abbrev pub RefusesLine : Taken → List ℕ → TraceFault → Type 0
RefusesLine old bytes faults.NoMemory = Unit {0}
RefusesLine old bytes (faults.At kind number) = RefusesBytes old bytes kind number

-- where the first line of the bytes ends, and what stands behind its LF
pub record FirstLine (bytes line behind : List ℕ) : Type 0 where
  pub parts : bytes ≡ line ++ 10 ∷ behind
  pub one_line : IsOneLine line
