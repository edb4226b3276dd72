-- What it means that code keeps the rules, in facts about instruction starts and rows.
use Rattle.std.specs.Prelude.{◌≡◌, ℕ, List, length, All, true, false, Ok}
use Rattle.et_code.specs.declared.instr.Instr.{Instr}
use Rattle.et_code.specs.Decoding.{instruction_at}
use Rattle.et_code.specs.Bodies.{Body}
use Rattle.et_code.specs.Starts.{IsStart, is_start}
use Rattle.et_code.specs.Rules.{fits_locals, tag_in, may_name, is_left_out, is_array_kind, makes_float_array, has_targets, has_rising_keys, row_holds, is_code_length}

-- the instruction at pc keeps the rules
pub record KeepsInstruction (b : Body) (tags : List ℕ) (pc : ℕ) (i : Instr) : Type 0 where
  pub locals : fits_locals b.max_locals i ≡ true
  pub named : may_name i.opcode (tag_in tags i.first) ≡ true
  pub loaded : is_left_out i.opcode (tag_in tags i.first) ≡ false
  pub kind : is_array_kind i ≡ true
  pub element : makes_float_array i ≡ false
  pub targets : has_targets b.code (is_start b.code) pc i ≡ true
  pub keys : has_rising_keys b.code i ≡ true

-- an instruction stands at pc, and keeps the rules
pub record HasInstruction (b : Body) (tags : List ℕ) (pc : ℕ) : Type 0 where
  pub instruction : Instr
  pub next : ℕ
  pub decoded : instruction_at b.code pc ≡ Ok (instruction, next)
  pub keeps : KeepsInstruction b tags pc instruction

pub record IsKeptCode (b : Body) (tags : List ℕ) : Type 0 where
  pub sized : is_code_length (length b.code) ≡ true
  pub instructions : (pc : ℕ) → IsStart b.code pc → HasInstruction b tags pc
  pub rows : All (λ row. row_holds (length b.code) tags (is_start b.code) row ≡ true) b.table
