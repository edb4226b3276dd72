-- The rows that are plain.
use Rattle.std.specs.Prelude.{Bool, true, false}
use Rattle.et_event.specs.declared.rows.Row.{Row}
use Rattle.et_event.specs.declared.rows.Row.TheVariants as row

-- the instructions that read and change nothing but the topmost frame, the constants of the pool, and division
abbrev pub is_plain : Row → Bool
is_plain (row.Frame r) = true
is_plain row.PoolConstant = true
is_plain (row.Divide n o) = true
is_plain (row.Heap r) = false
is_plain (row.Call r) = false
is_plain row.Throw = false
is_plain (row.Monitor r) = false
