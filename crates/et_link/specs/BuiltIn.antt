-- The code that stands in the table of built-in classes as bytes.
use Rattle.std.specs.Prelude.{ℕ, List, map, All, IfSome, None, Option}
use Rattle.et_base.specs.Marks.{MarksAre}
use Rattle.et_pool.specs.Entries.{Item}
use Rattle.et_pool.specs.Pools.{IsPool}
use Rattle.et_pool.specs.Looks.{tag_of_slot}
use Rattle.et_code.specs.Rules.{code_marks}
use Rattle.et_boot.specs.Classes.{BootClassOf, BootMethodOf, BootCodeOf}
use Rattle.et_program.specs.MembersOf.{boot_body}

-- code keeps all rules, where these are the tags of the pool
abbrev pub IsKeptBy : List ℕ → BootCodeOf → Type 0
IsKeptBy tags code = MarksAre (code_marks (boot_body code) tags) None

-- a method has no code, or such code
abbrev pub HasKeptCode : List ℕ → BootMethodOf → Type 0
HasKeptCode tags m = IfSome m.code (IsKeptBy tags)

-- with the pool that the bytes of a class are, the code of its methods keeps all rules
abbrev pub KeepsBuiltInCode : BootClassOf → Type 0
KeepsBuiltInCode c = (slots : List (Option Item)) (after : ℕ) → IsPool c.pool 0 slots after → All (HasKeptCode (map tag_of_slot slots)) c.methods
