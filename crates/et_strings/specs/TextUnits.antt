-- What contracts see of a text.
use Rattle.std.specs.Prelude.{ℕ, ℤ, List, Option, Some, None, if◌then◌else◌, length, slice_index_or}
use Rattle.et_event.specs.Kinds.{in_bounds}
use Rattle.et_event.specs.Sites.{natural_of}
use Rattle.et_pool.specs.Text.{units_of}
use Rattle.et_strings.specs.declared.text.Text.{Text}
use Rattle.et_strings.specs.declared.text.Text.TheVariants.{Constant, Made}

-- its units: those that the bytes of a constant stand for, or those that it has
abbrev pub units_in : Text → List ℕ
units_in (Constant bytes) = units_of bytes.now
units_in (Made units) = units.now

-- the one of a number, from 0
abbrev pub unit_numbered : List ℕ → ℤ → Option ℕ
unit_numbered units i = if in_bounds i (length units) then Some (slice_index_or units (natural_of i) 0) else None
