-- A sink in memory that gathers.
use Rattle.std.specs.Prelude.{ℕ, List, take}
use Rattle.et_io.specs.Calls.{Calls}
use Rattle.et_io.specs.Sink.{Mark, taken_bytes}

-- the marks of the puts so far, how many of the bytes were handed on, and the calls
pub record GatheringSinkInMemory : Type 0 where
  pub taken : List Mark
  pub count_handed : ℕ
  pub calls : Calls

-- the bytes handed on so far
abbrev pub handed_bytes : GatheringSinkInMemory → List ℕ
handed_bytes sink = take sink.count_handed (taken_bytes sink.taken)
