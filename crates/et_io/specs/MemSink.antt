-- A sink in memory.
use Rattle.std.specs.Prelude.{◌≡◌, ◌↔◌, ℕ, ◌≤◌, min, IsTrue, List, length, Some}
use Rattle.et_io.specs.declared.sink.Put.{Put}
use Rattle.et_io.specs.declared.sink.Put.TheVariants.{Took, Failed, NoMemory}
use Rattle.et_io.specs.Calls.{Calls, next_fails, after_call}
use Rattle.et_io.specs.Faults.{count_after}
use Rattle.et_io.specs.Sink.{Mark, Takes, is_put_failed}

-- the marks of the puts so far, how many bytes a call takes at most, and the calls
pub record SinkInMemory : Type 0 where
  pub taken : List Mark
  pub most : ℕ
  pub calls : Calls

-- a put that takes anything takes as much as it may
abbrev pub TakesMost : Put → List ℕ → ℕ → Type 0
TakesMost (Took n) piece most = n ≡ min (length piece) most
TakesMost Failed piece most = Unit {0}
TakesMost NoMemory piece most = Unit {0}

-- A PUT OF A SINK IN MEMORY is one call, which fails exactly where the next call is to fail
pub record PutsAsTold (answer : Put) (piece : List ℕ) (old new : List Mark) (before after : Calls) : Type 0 where
  pub takes : Takes answer (Some old) (Some new) piece
  pub failed : after.faults ≡ count_after (is_put_failed answer) before.faults
  pub never_falls : before.faults ≤ after.faults
  pub fails : (answer ≡ Failed) ↔ IsTrue (next_fails before)
  pub calls : after ≡ after_call before
