-- What an event call answers, and what it leaves.
use Rattle.std.specs.Prelude.{◌≡◌, ℕ, ◌+◌, List, ◌++◌}
use Rattle.et_state.specs.declared.records.Record.{Record}
use Rattle.et_state.specs.declared.ends.EventEnd.{EventEnd}
use Rattle.et_state.specs.declared.ends.EventEnd.TheVariants as ends
use Rattle.et_state.specs.Outcome.{Outcome}
use Rattle.et_state.specs.Outcome as outcome

-- The answer is the one of the outcome. The state s became s', and the records `out` became `out'`: the records of
-- the event stand behind those that were there. Where the event was not done, both are as before.
abbrev pub Answers : {S : Type 0} → Outcome S → EventEnd → S → S → List Record → List Record → Type 0
Answers (outcome.Goes next records) ends.Done s s' out out' = (s' ≡ next) × (out' ≡ out ++ records)
Answers (outcome.Waits next) ends.Waited s s' out out' = (s' ≡ next) × (out' ≡ out)
Answers (outcome.IllTyped m p) (ends.IllTyped method pc) s s' out out' = (method ≡ m) × (pc ≡ p) × (s' ≡ s) × (out' ≡ out)
Answers outcome.ObjectLimit ends.ObjectLimit s s' out out' = (s' ≡ s) × (out' ≡ out)
Answers _ _ s s' out out' = ⊥

-- where the event was done, the clock went on by one
abbrev pub TicksWhereDone : EventEnd → ℕ → ℕ → Type 0
TicksWhereDone ends.Done old new = new ≡ old + 1
TicksWhereDone ends.Waited old new = new ≡ old + 1
TicksWhereDone (ends.IllTyped method pc) old new = Unit {0}
TicksWhereDone ends.ObjectLimit old new = Unit {0}
TicksWhereDone (ends.Native method) old new = Unit {0}

-- where an event was done, the bytes that it prints stand behind those that were there
abbrev pub SaysWhereDone : EventEnd → List ℕ → List ℕ → List ℕ → Type 0
SaysWhereDone ends.Done bytes old new = new ≡ old ++ bytes
SaysWhereDone ends.Waited bytes old new = new ≡ old ++ bytes
SaysWhereDone (ends.IllTyped method pc) bytes old new = new ≡ old
SaysWhereDone ends.ObjectLimit bytes old new = new ≡ old
SaysWhereDone (ends.Native method) bytes old new = new ≡ old
