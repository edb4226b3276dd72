-- THE TARGETS OF CODE: the first place, those of branches and switches, and the handlers, by a flag for each place.
use Rattle.std.specs.Prelude.{◌≡◌, ℕ, ◌<◌, Bool, true, List, length, map, Ok, Contains, Option, option_map}
use Rattle.std.specs.Result.{result_ok}
use Rattle.et_code.specs.declared.body.TableRow.{TableRow}
use Rattle.et_code.specs.declared.instr.Instr.{Instr}
use Rattle.et_code.specs.Decoding.{instruction_at}
use Rattle.et_code.specs.Rules.{flag, offsets}
use Rattle.et_event.specs.Sites.{target}

-- the place behind the instruction at one
abbrev pub place_behind : List ℕ → ℕ → Option ℕ
place_behind code pc = option_map (λ x. x.1) (result_ok (instruction_at code pc))

-- no flag is taken away
abbrev pub KeepsFlags : List Bool → List Bool → Type 0
KeepsFlags old new = (q : ℕ) → flag old q ≡ true → flag new q ≡ true

-- these places are flagged, where there are flags for them
abbrev pub AreFlagged : List Bool → List ℕ → Type 0
AreFlagged flags places = (q : ℕ) → Contains places q → q < length flags → flag flags q ≡ true

pub record HasTargets (starts : List Bool) (code : List ℕ) (table : List TableRow) (flags : List Bool) : Type 0 where
  pub long : length flags ≡ length code
  pub first : 0 < length flags → flag flags 0 ≡ true
  pub targets : (pc : ℕ) (i : Instr) (next : ℕ) → pc < length code → flag starts pc ≡ true → instruction_at code pc ≡ Ok (i, next) → AreFlagged flags (map (target pc) (offsets code i))
  pub handlers : AreFlagged flags (map (λ (r : TableRow). r.handler) table)
