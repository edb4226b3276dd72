-- The items of a Code attribute (JVMS 4.7.3).
use Rattle.std.specs.Prelude.{ℕ, List}
use Rattle.et_code.specs.declared.body.TableRow.{TableRow}
use Rattle.et_code.specs.declared.body.RawCode.{RawCode}

-- code as contracts see it
pub record Body : Type 0 where
  pub max_stack : ℕ
  pub max_locals : ℕ
  pub code : List ℕ
  pub table : List TableRow

abbrev pub body_of : RawCode → Body
body_of raw = record { max_stack = raw.max_stack; max_locals = raw.max_locals; code = raw.code.items; table = raw.table.items }
