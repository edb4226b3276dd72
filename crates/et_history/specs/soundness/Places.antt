-- A thread stands at an instruction of a row.
use Rattle.std.specs.Prelude.{◌≡◌, ℕ, Some, Ok}
use Rattle.et_code.specs.declared.instr.Instr.{Instr}
use Rattle.et_event.specs.declared.rows.Row.{Row}
use Rattle.et_event.specs.Moments.{Moment, current_frame}
use Rattle.et_event.specs.Sites.{Site, site_of, decoded_at}
use Rattle.et_event.specs.Table.{row_of}
use Rattle.et_history.specs.soundness.WellFormed.{StandsAt}

-- in a sound state a thread does an instruction of this row
pub record IsAtRow (e : Moment) (at : Site) (r : Row) : Type 0 where
  pub stands : StandsAt e at
  pub decoded : Instr × ℕ
  pub is : decoded_at e.program (current_frame e) ≡ Ok decoded
  pub row : row_of decoded.0.opcode ≡ Some r
  pub site : at ≡ site_of e.program (current_frame e) decoded
