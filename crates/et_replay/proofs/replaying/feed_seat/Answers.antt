use Rattle.et_replay.proofs.Seating.{gone_stays}
use Rattle.et_replay.proofs.replaying.feed_seat.Goals as goal

pub returns-in_default : goal.returns-in_default
returns-in_default g c = λ policy objects past s. gone_stays _ _ _ policy objects _ past c.in_default.is s
