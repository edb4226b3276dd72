use Rattle.et_replay.specs.Seats.{Sits, Told}
use Rattle.et_replay.proofs.Seating.{HalfDone}
use Rattle.et_replay.proofs.replaying.feed_all.Given as goal

abbrev pub invariant-loop-seat : goal.invariant-loop-seat
invariant-loop-seat g l = HalfDone (λ past seat (p : Told). Sits (λ b. (goal.HeapModel-dyn g (b.vtable, b.value)).stands_for b.value) seat.model seat.report p.0 p.1 past) l.item l.fn.seats l.seats l.seat-index
