-- Records whose lines are followed as they come. In each list of lines here the newest stands first.
use Rattle.std.specs.Prelude.{◌≡◌, ℕ, ◌+◌, true, List, [], length, reverse}
use Rattle.et_base.specs.declared.line.TraceLine.{TraceLine}
use Rattle.et_text.specs.Rules.{has_ended}
use Rattle.et_text.specs.Followed.{IsFollowed, IsLineFollowed}
use Rattle.et_text.specs.declared.handing.Following.{Following}
use Rattle.et_text.specs.declared.fault.TraceFault.{TraceFault}
use Rattle.et_text.specs.declared.fault.TraceFault.TheVariants as faults
use Rattle.et_binary.specs.Packs.{IsUnfinished, BreaksRecord, IsPackFault, IsPackOf}
use Rattle.et_binary.specs.Unpacking.{IsFront}

-- the bytes begin with the record of a line that breaks no rule, and the follower was handed it
pub record FollowsFront {F : Type 0} (follows : F → List TraceLine → Type 0) (new : Following F) (past : List TraceLine) (bytes behind : List ℕ) : Type 0 where
  pub line : TraceLine
  pub front : IsFront line behind bytes
  pub taken : IsLineFollowed follows 2 new past line

-- nothing is taken, since no record is whole
pub record LeavesFront {F : Type 0} (follows : F → List TraceLine → Type 0) (new : Following F) (past : List TraceLine) (bytes : List ℕ) : Type 0 where
  pub followed : IsFollowed follows 2 new past
  pub unfinished : IsUnfinished bytes
  pub ended : has_ended past ≡ true → bytes ≡ []

-- the bytes break a rule
pub record BreaksFront (past : List TraceLine) (bytes : List ℕ) (kind number : ℕ) : Type 0 where
  pub breaks : BreaksRecord past bytes kind
  pub at : number ≡ length past + 1

abbrev pub RefusesFrontNext : List TraceLine → List ℕ → TraceFault → Type 0
RefusesFrontNext past bytes faults.NoMemory = Unit {0}
RefusesFrontNext past bytes (faults.At kind number) = BreaksFront past bytes kind number

-- the bytes are a good pack, and the follower was handed its lines
pub record IsPackFollowed {F : Type 0} (follows : F → List TraceLine → Type 0) (follower : F) (bytes : List ℕ) : Type 0 where
  pub lines : List TraceLine
  pub is_pack : IsPackOf lines bytes
  pub followed : follows follower (reverse lines)

-- the fault is that of the bytes. Want of memory says nothing of them.
abbrev pub IsFaultOfPack : List ℕ → TraceFault → Type 0
IsFaultOfPack bytes faults.NoMemory = Unit {0}
IsFaultOfPack bytes (faults.At kind number) = IsPackFault bytes kind number
