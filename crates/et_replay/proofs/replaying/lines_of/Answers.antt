use Rattle.et_replay.proofs.Seating.{first_sits}
use Rattle.et_replay.proofs.replaying.lines_of.Goals as goal

pub run-requires-clause-sit : goal.run-requires-clause-sit
run-requires-clause-sit g c = let t = c.requires.told in (t.0, rw c.deref_mut.ensures.value (first_sits _ (λ s. s.model) (λ s. s.report) _ _ t.0 c.in_ok-seats.ensures t.1), t.2)

pub returns : goal.returns
returns g c = λ reached decides told z. c.run.ensures reached decides told (rw c.deref_mut.ensures.value (first_sits _ (λ s. s.model) (λ s. s.report) _ _ told c.in_ok-seats.ensures z))
