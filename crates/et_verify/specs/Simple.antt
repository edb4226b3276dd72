-- SIMPLE INSTRUCTIONS: those without an operand, or with one unsigned number, that neither branch nor switch. Most are.
use Rattle.std.specs.Prelude.{◌≡◌, ℕ, ◌<◌, ◌==◌, ◌||◌, Bool, false}
use Rattle.et_code.specs.declared.form.Form.TheVariants.{Plain, U1, U2}
use Rattle.et_code.specs.declared.opcode.TheConstants.{TABLESWITCH, LOOKUPSWITCH}
use Rattle.et_code.specs.Forms.{form_of}
use Rattle.et_code.specs.Rules.{is_branch}

-- the instruction may go on elsewhere than behind it
abbrev pub turns : ℕ → Bool
turns opcode = is_branch opcode || (opcode == TABLESWITCH) || (opcode == LOOKUPSWITCH)

-- so many bytes are an instruction with this opcode, where they are some
pub record IsSimple (opcode bytes : ℕ) : Type 0 where
  pub one : bytes ≡ 1 → form_of opcode ≡ Plain
  pub two : bytes ≡ 2 → form_of opcode ≡ U1
  pub three : bytes ≡ 3 → form_of opcode ≡ U2
  pub straight : 0 < bytes → turns opcode ≡ false
