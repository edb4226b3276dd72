-- The lines that were taken, and what came of the last one.
use Rattle.std.specs.Prelude.{◌≡◌, ◌+◌, ◌⊎◌, true, false, List, [], ◌∷◌, ◌++◌, ℕ, length, reverse, Option, Some, None}
use Rattle.et_base.specs.declared.line.TraceLine.{TraceLine}
use Rattle.et_text.specs.Ranges.{IsVersion, IsInRange, HasShortNames}
use Rattle.et_text.specs.Rules.{unended, has_begun, has_ended, version_of, next_fault, AreFine}
use Rattle.et_text.specs.declared.fault.TraceFault.{TraceFault}
use Rattle.et_text.specs.declared.fault.TraceFault.TheVariants as faults
use Rattle.et_text.specs.declared.standing.Standing.{Standing}
use Rattle.et_text.specs.StandsFor.{StandsForLines}

-- the lines that were taken, the oldest first, and the fault that came, if one did
pub record Taken : Type 0 where
  pub lines : List TraceLine
  pub fault : Option TraceFault

-- the lines break no rule, and what they say is kept
pub record AreKept (standing : Standing) (lines : List TraceLine) : Type 0 where
  pub stands : StandsForLines standing (reverse lines)
  pub fine : AreFine (version_of (reverse lines)) (reverse lines)
  pub known : has_begun (reverse lines) ≡ true → IsVersion (version_of (reverse lines))

-- so it is while no fault came
abbrev pub KeepsTextRules : Option TraceFault → Standing → List TraceLine → Type 0
KeepsTextRules fault standing lines = fault ≡ None → AreKept standing lines

-- the fields of the line are in range in a trace of some version
abbrev pub IsInSomeRange : TraceLine → Type 0
IsInSomeRange line = IsInRange 1 line ⊎ IsInRange 2 line

-- behind a header of version 2 the line's names are short
abbrev pub IsShortBehind : List TraceLine → TraceLine → Type 0
IsShortBehind lines line = version_of (reverse lines) ≡ 2 → HasShortNames line

-- the line breaks no rule, and is taken
pub record TakesLine (old new : Taken) (line : TraceLine) : Type 0 where
  pub unharmed : old.fault ≡ None
  pub follows : next_fault (reverse old.lines) line ≡ None
  pub taken : new ≡ record old { lines = old.lines ++ line ∷ [] }

-- the line is the first that breaks a rule, and this fault is kept
pub record BreaksRule (old new : Taken) (line : TraceLine) (kind number : ℕ) : Type 0 where
  pub breaks : next_fault (reverse old.lines) line ≡ Some kind
  pub at : number ≡ length old.lines + 1
  pub kept : new ≡ record old { fault = Some (faults.At kind number) }

-- why the line is not taken: it breaks a rule, or memory ran out, which is kept too
abbrev pub Refuses : Taken → Taken → TraceLine → TraceFault → Type 0
Refuses old new line faults.NoMemory = new.fault ≡ Some faults.NoMemory
Refuses old new line (faults.At kind number) = BreaksRule old new line kind number

-- the lines end before a Z line, and to say so takes no memory
abbrev pub LacksEnd : List TraceLine → TraceFault → Type 0
LacksEnd lines fault = (has_ended (reverse lines) ≡ false) × (fault ≡ faults.At unended (length lines + 1))
