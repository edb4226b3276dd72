-- The opcodes of the switches.
use Rattle.std.proofs.Common.{◌≡◌, ℕ, ◌==◌, ◌||◌, ◌⊎◌, Bool, true, false, List, Some, refl, inl, inr}
use Rattle.std.specs.Prelude.{if◌then◌else◌, Ok}
use Rattle.std.specs.List.{list_all}
use Rattle.std.proofs.lemmas.Bool.{or_cases, eqb-true}
use Rattle.et_code.specs.declared.instr.Instr.{Instr}
use Rattle.et_code.specs.Decoding.{instruction_at}
use Rattle.et_code.specs.Switches.{IsSwitch}
use Rattle.et_event.specs.declared.rows.Row.{Row}
use Rattle.et_event.specs.declared.rows.Row.TheVariants as row
use Rattle.et_event.specs.declared.rows.FrameRow.TheVariants as frame_row
use Rattle.et_event.specs.Table.{rows, row_of}
use Rattle.et_event.proofs.RowsAmong.{among}

abbrev is_switch : Row → Bool
is_switch (row.Frame frame_row.Switch) = true
is_switch other = false

-- what is a switch has the opcode of one
abbrev fine : ℕ × Row → Bool
fine e = if is_switch e.1 then (e.0 == 0xaa) || (e.0 == 0xab) else true

all_fine : list_all fine rows ≡ true
all_fine = refl

pub opcode_of_switch : (opcode : ℕ) → row_of opcode ≡ Some (row.Frame frame_row.Switch) → (opcode ≡ 0xaa) ⊎ (opcode ≡ 0xab)
unfolding row_of
opcode_of_switch opcode e =
    elim (or_cases (opcode == 0xaa) (opcode == 0xab) (among fine rows opcode (row.Frame frame_row.Switch) all_fine e)) [ inl h ↦ inl (eqb-true opcode 0xaa h) | inr h ↦ inr (eqb-true opcode 0xab h) ]

pub switch : (code : List ℕ) (pc : ℕ) (x : Instr × ℕ) → instruction_at code pc ≡ Ok x → row_of x.0.opcode ≡ Some (row.Frame frame_row.Switch) → IsSwitch code x.0
switch code pc x decoded e = record { pc = pc; next = x.1; decoded = decoded; kind = opcode_of_switch x.0.opcode e }
