-- The instruction at which a thread stands.
use Rattle.std.specs.Prelude.{◌≡◌, ℕ, ◌<◌, ◌^◌, Bool, true, false, Option, Some, None, Ok, length}
use Rattle.et_code.specs.Rules.{KeepsRules}
use Rattle.et_code.specs.Switches.{IsSwitch}
use Rattle.et_program.specs.Entries.{Linked}
use Rattle.et_state.specs.Threads.{FrameState}
use Rattle.et_event.specs.declared.rows.Row.{Row}
use Rattle.et_event.specs.declared.rows.Row.TheVariants as rows
use Rattle.et_event.specs.declared.rows.FrameRow.TheVariants as frame_rows
use Rattle.et_event.specs.Families.{row_at}
use Rattle.et_event.specs.Sites.{site_of, code_of_frame, decoded_at, natural_of}
use Rattle.et_event.specs.Sound.{RunsMethod}
use Rattle.et_event.specs.Table.{row_of}
use Rattle.et_event.specs.declared.places.Place.{Place}

-- the frame runs a method
pub record Runs (p : Linked) (f : FrameState) : Type 0 where
  pub method : ℕ
  pub named : f.method ≡ Some method
  pub runs : RunsMethod p f method

-- the row changes nothing but the topmost frame
abbrev pub is_frame : Row → Bool
is_frame (rows.Frame r) = true
is_frame other = false

-- an instruction that has a row stands at the pc of the frame, and this is its place
pub record IsPlace (p : Linked) (f : FrameState) (place : Place) : Type 0 where
  pub decoded : decoded_at p f ≡ Ok (place.site.instr, place.site.next)
  pub row : row_of place.site.instr.opcode ≡ Some place.row
  pub site : place.site ≡ site_of p f (place.site.instr, place.site.next)
  pub class : place.site.class < length p.classes
  -- the code keeps the rules of the standard (JVMS 4.9.1)
  pub rules : KeepsRules (code_of_frame p f)
  pub switch : place.row ≡ rows.Frame frame_rows.Switch → IsSwitch place.site.code place.site.instr
  -- the pc, the number of locals and an index into the pool have 16 bits (JVMS 4.7.3, 4.11)
  pub pc : f.pc < 2 ^ 16
  pub locals : length f.locals < 2 ^ 16
  pub index : is_frame place.row ≡ false → natural_of place.site.instr.first < 2 ^ 16

-- a place is found exactly where one stands there
abbrev pub IsFound : Linked → FrameState → Option Place → Type 0
IsFound p f (Some place) = IsPlace p f place
IsFound p f None = row_at (decoded_at p f) ≡ None
