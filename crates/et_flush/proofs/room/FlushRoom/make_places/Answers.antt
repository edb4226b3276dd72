use Rattle.std.proofs.Common.{arith}
use Rattle.et_flush.proofs.Working.{places_least}
use Rattle.et_flush.proofs.room.FlushRoom.make_places.Goals as goal

pub reserve-requires : goal.reserve-requires
reserve-requires c = places_least 0 0 c.self.inside.numbers c.self.inside.places c.self.inside.work (omega arith) (omega arith) c.self.invariant.work

pub invariant_of-self : goal.invariant_of-self
invariant_of-self c = record {
  few = c.self.invariant.few;
  work = c.reserve.ensures.kept c.self.inside.numbers c.self.inside.places (omega (arith, c.min-places.ensures, c.widened.ensures.kept, c.widened-numbers.ensures.kept, c.self.invariant.few)) c.self.invariant.work;
}
