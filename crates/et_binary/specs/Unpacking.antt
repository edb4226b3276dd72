-- A pack that comes in pieces.
use Rattle.std.specs.Prelude.{◌≡◌, ℕ, ◌+◌, ◌<◌, Bool, true, false, List, [], ◌++◌, length, reverse, if◌then◌else◌, Option, Some, None}
use Rattle.et_base.specs.declared.line.TraceLine.{TraceLine}
use Rattle.et_text.specs.Ranges.{IsInRange}
use Rattle.et_text.specs.Rules.{has_ended, AreFine}
use Rattle.et_text.specs.Stream.{Reading}
use Rattle.et_text.specs.Taken.{Taken, TakesLine}
use Rattle.et_text.specs.declared.fault.TraceFault.{TraceFault}
use Rattle.et_text.specs.declared.fault.TraceFault.TheVariants as faults
use Rattle.et_binary.specs.Packing.{packing, opening, pack}
use Rattle.et_binary.specs.Packs.{IsUnfinished, BreaksRecord, ShowsPackFault, ShowsNoPackFault, IsPackFault}

-- the piece came, and nothing in the bytes so far breaks a rule
pub record Unpacks (old new : Reading) (piece : List ℕ) : Type 0 where
  pub unharmed : old.fault ≡ None
  pub grown : new ≡ record old { bytes = old.bytes ++ piece }
  pub shows_none : ShowsNoPackFault new.bytes

-- the piece is the first that shows a fault, and this fault is kept
pub record FailsPack (old new : Reading) (piece : List ℕ) (kind number : ℕ) : Type 0 where
  pub shown_none : ShowsNoPackFault old.bytes
  pub shows : ShowsPackFault (old.bytes ++ piece) kind number
  pub kept : new.fault ≡ Some (faults.At kind number)

-- why the piece is not taken: it shows a fault, or memory ran out, which is kept too
abbrev pub StopsUnpacking : Reading → Reading → List ℕ → TraceFault → Type 0
StopsUnpacking old new piece faults.NoMemory = new.fault ≡ Some faults.NoMemory
StopsUnpacking old new piece (faults.At kind number) = FailsPack old new piece kind number

-- the bytes have this fault. To say so takes no memory.
abbrev pub HasPackFault : List ℕ → TraceFault → Type 0
HasPackFault bytes faults.NoMemory = ⊥
HasPackFault bytes (faults.At kind number) = IsPackFault bytes kind number

-- WHAT A READER KEEPS

-- the bytes so far: the records that were taken, behind the opening once it was taken, and the bytes behind them
abbrev pub unpacked_bytes : Bool → Taken → List ℕ → List ℕ
unpacked_bytes opened taken rest = (if opened then pack taken.lines else []) ++ rest

-- the bytes that are held back: a front of the opening, or of a record
abbrev pub IsHeldBack : Bool → List TraceLine → List ℕ → Type 0
IsHeldBack false lines rest = (lines ≡ []) × (more : List ℕ) × (opening ≡ rest ++ more) × (0 < length more)
IsHeldBack true lines rest = IsUnfinished rest × (has_ended (reverse lines) ≡ true → rest ≡ [])

pub record AreUnpacked (taken : Taken) (opened : Bool) (rest : List ℕ) : Type 0 where
  pub unharmed : taken.fault ≡ None
  pub fine : AreFine 2 (reverse taken.lines)
  pub held : IsHeldBack opened taken.lines rest

-- so it is while no fault came
abbrev pub KeepsUnpacking : Option TraceFault → Taken → Bool → List ℕ → Type 0
KeepsUnpacking fault taken opened rest = fault ≡ None → AreUnpacked taken opened rest

-- ONE RECORD

-- the bytes begin with the record of the line
pub record IsFront (line : TraceLine) (behind bytes : List ℕ) : Type 0 where
  pub range : IsInRange 2 line
  pub parts : bytes ≡ packing line ++ behind

-- .. which breaks no rule
pub record TakesRecord (old new : Taken) (bytes behind : List ℕ) : Type 0 where
  pub line : TraceLine
  pub front : IsFront line behind bytes
  pub takes : TakesLine old new line

-- nothing is taken, since no record is whole
pub record LeavesRecord (old new : Taken) (bytes : List ℕ) : Type 0 where
  pub same : new ≡ old
  pub unfinished : IsUnfinished bytes
  pub ended : has_ended (reverse old.lines) ≡ true → bytes ≡ []

-- the bytes break a rule
pub record RefusesRecord (old : Taken) (bytes : List ℕ) (kind number : ℕ) : Type 0 where
  pub breaks : BreaksRecord (reverse old.lines) bytes kind
  pub at : number ≡ length old.lines + 1

abbrev pub RefusesFront : Taken → List ℕ → TraceFault → Type 0
RefusesFront old bytes faults.NoMemory = Unit {0}
RefusesFront old bytes (faults.At kind number) = RefusesRecord old bytes kind number

-- ALL THAT IS WHOLE

-- all whole records were taken from the bytes
pub record TakesAll (old new : Taken) (opened opens : Bool) (bytes left : List ℕ) : Type 0 where
  pub parts : unpacked_bytes opens new left ≡ unpacked_bytes opened old bytes
  pub kept : AreUnpacked new opens left

-- the bytes so far show a fault
abbrev pub ShowsIn : List ℕ → TraceFault → Type 0
ShowsIn bytes faults.NoMemory = Unit {0}
ShowsIn bytes (faults.At kind number) = ShowsPackFault bytes kind number

-- before that: nothing broke a rule, and without the opening no line was taken
pub record MayGoOn (taken : Taken) (opened : Bool) : Type 0 where
  pub unharmed : taken.fault ≡ None
  pub fine : AreFine 2 (reverse taken.lines)
  pub empty : opened ≡ false → taken.lines ≡ []
