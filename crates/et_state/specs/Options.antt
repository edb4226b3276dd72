-- What a run is given.
use Rattle.std.specs.Prelude.{ℕ, ◌<◌, ◌≤◌, ◌/◌, ◌%◌, ◌^◌, All, length, slice_index}
use Rattle.et_state.specs.declared.options.Schedule.{Schedule}
use Rattle.et_state.specs.declared.options.Schedule.TheVariants.{Quantum, Words}
use Rattle.et_state.specs.declared.options.Options.{Options}

-- the number that a schedule has for an event
abbrev pub pick_of : Schedule → ℕ → ℕ
pick_of (Quantum quantum) e = e / quantum
pick_of (Words words) e = slice_index words (e % length words)

-- the numbers of a schedule are in range
abbrev pub IsSchedule : Schedule → Type 0
IsSchedule (Quantum quantum) = (1 ≤ quantum) × (quantum ≤ 2 ^ 40)
IsSchedule (Words words) = (1 ≤ length words) × (length words ≤ 1024) × All (λ w. w < 64) words

-- the options are in range
pub record AreOptions (options : Options) : Type 0 where
  pub interval : options.interval ≤ 2 ^ 40
  pub limit : options.limit ≤ 2 ^ 40
  pub schedule : IsSchedule options.schedule
