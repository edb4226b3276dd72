-- The lines of a trace that were followed as the bytes of a file were read.
use Rattle.std.specs.Prelude.{◌≡◌, ℕ, List, reverse, Result, Ok, Err}
use Rattle.et_base.specs.declared.line.TraceLine.{TraceLine}
use Rattle.et_text.specs.Rules.{IsGoodTrace}
use Rattle.et_convert.specs.Spellings.{SpellsTrace}
use Rattle.et_files.specs.Faults.{Fault}
use Rattle.et_files.specs.Told.{IsCause, cause_of}
use Rattle.et_files.specs.declared.refusal.Refusal.{Refusal}

-- these are the lines of the bytes, and the follower was handed them
pub record FollowsBytes {F : Type 0} (follows : F → List TraceLine → Type 0) (bytes : List ℕ) (lines : List TraceLine) (follower : F) : Type 0 where
  pub spells : SpellsTrace lines bytes
  pub followed : follows follower (reverse lines)

-- they are a trace, and the follower was handed it
pub record FollowsTrace {F : Type 0} (follows : F → List TraceLine → Type 0) (lines : List TraceLine) (follower : F) : Type 0 where
  pub good : IsGoodTrace lines
  pub followed : follows follower (reverse lines)

-- what is answered stands so to what was found, or the refusal says why not
abbrev pub TellsOf : {A B : Type 0} → (read : Type 0) → (B → A → Type 0) → Result B Fault → Result A Refusal → Type 0
TellsOf read Stands found (Ok a) = (b : _) × (found ≡ Ok b) × Stands b a
TellsOf read Stands found (Err r) = IsCause read found (cause_of r)
