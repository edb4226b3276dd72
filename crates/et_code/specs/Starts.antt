-- Instruction starts (JVMS 4.9.1: the opcode of the first instruction stands at place 0, and each other one behind the
-- last operand byte of the one before).
use Rattle.std.specs.Prelude.{◌≡◌, ℕ, zero, suc, ◌<◌, List, [], ◌∷◌, length, Bool, Result, Ok, Err, nat_lt, ◌==◌, if◌then◌else◌}
use Rattle.std.specs.List.{list_any}
use Rattle.et_code.specs.declared.instr.Instr.{Instr}
use Rattle.et_code.specs.declared.instr.CodeFault.{CodeFault}
use Rattle.et_code.specs.Decoding.{instruction_at}

-- an instruction begins at a place: at the first one, and behind an instruction wherever the code goes on. Behind a
-- place at which none was decoded, none begins.
pub data IsStart (code : List ℕ) : ℕ → Type 0 where
  Begins : 0 < length code → IsStart code 0
  Follows : (pc : ℕ) (i : Instr) (next : ℕ) → IsStart code pc → instruction_at code pc ≡ Ok (i, next) → next < length code → IsStart code next

-- the rest behind an instruction, and nothing where none was decoded
abbrev pub bytes_behind : (ℕ → List ℕ) → Result (Instr × ℕ) CodeFault → List ℕ
bytes_behind rest (Ok x) = rest x.1
bytes_behind rest (Err f) = []

-- the starts from one on, in their order; there are at most `most`
unfoldable pub starts_from : List ℕ → ℕ → ℕ → List ℕ
starts_from code zero pc = []
starts_from code (suc most) pc = if nat_lt pc (length code) then pc ∷ bytes_behind (starts_from code most) (instruction_at code pc) else []

-- all the places at which an instruction begins: those of `IsStart`, by the law `starts_are_all`
abbrev pub starts : List ℕ → List ℕ
starts code = starts_from code (length code) 0

abbrev pub is_start : List ℕ → ℕ → Bool
is_start code pc = list_any (λ s. s == pc) (starts code)
