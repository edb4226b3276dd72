-- What a run keeps so that an event needs no division.
use Rattle.std.specs.Prelude.{◌≡◌, ℕ, ◌+◌, ◌*◌, ◌%◌, ◌<◌, ◌≤◌, true, false, length}
use Rattle.et_state.specs.History.{is_flush_point}
use Rattle.et_state.specs.Options.{pick_of}
use Rattle.et_state.specs.declared.options.Options.{Options}
use Rattle.et_state.specs.declared.options.Schedule.{Schedule}
use Rattle.et_state.specs.declared.options.Schedule.TheVariants.{Quantum, Words}
use Rattle.et_loop.specs.declared.schedule.Round.{Round}
use Rattle.et_loop.specs.declared.schedule.Found.{Found}
use Rattle.et_loop.specs.declared.guest.TimeSlice.{TimeSlice}
use Rattle.et_loop.specs.declared.schedule.Rota.{Rota}

-- the first event from e on after which a flush is due
pub record IsFirstDue (interval e next : ℕ) : Type 0 where
  pub from : e ≤ next
  pub is_due : is_flush_point interval next ≡ true
  pub is_first : (k : ℕ) → e ≤ k → k < next → is_flush_point interval k ≡ false

-- .. where there is one
abbrev pub IsNextFlush : (interval e next : ℕ) → Type 0
IsNextFlush interval e next = 0 < interval → IsFirstDue interval e next

-- how many events a round of the schedule has: a quantum, or one for each word
abbrev pub round_of : Schedule → ℕ
round_of (Quantum quantum) = quantum
round_of (Words words) = length words

-- the round of so many events that follows those that are over begins with event e or before it
pub record IsBegun (events e : ℕ) (round : Round) : Type 0 where
  pub starts : round.start ≡ round.over * events
  pub from : round.start ≤ e

-- .. and event e is in it
pub record IsRound (events e : ℕ) (round : Round) : Type 0 where
  pub starts : round.start ≡ round.over * events
  pub from : round.start ≤ e
  pub within : e < round.start + events

-- the place is that of the number among so many
pub record IsPlaceFound (found : Found) : Type 0 where
  pub some : 0 < found.count
  pub place : found.place ≡ found.number % found.count

-- the rota was asked for no event behind event e
pub record IsRota (schedule : Schedule) (e : ℕ) (rota : Rota) : Type 0 where
  pub round : IsBegun (round_of schedule) e rota.round
  pub found : IsPlaceFound rota.found

-- Of the events after event e, at most this many may be done at once by the thread at the place, among so many: the schedule
-- gives each of them to that place, none is behind the limit, and no flush is due before one of them if there are several.
pub record IsSlice (options : Options) (e count : ℕ) (slice : TimeSlice) : Type 0 where
  pub some : 0 < slice.events
  pub place : slice.place < count
  pub turn : (k : ℕ) → k < slice.events → pick_of options.schedule (e + 1 + k) % count ≡ slice.place
  pub limit : e + slice.events ≤ options.limit
  pub flushes : 1 < slice.events → (k : ℕ) → k < slice.events → is_flush_point options.interval (e + k) ≡ false
