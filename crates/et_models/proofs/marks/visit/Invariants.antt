use Rattle.std.proofs.Common.{◌≢◌}
use Rattle.std.specs.List.{All}
use Rattle.et_models.specs.declared.places.Place.TheVariants.{Nursery}
use Rattle.et_models.specs.Places.{place_at}
use Rattle.et_models.specs.Marking.{Refers, MarksFrom}
use Rattle.et_models.proofs.marks.visit.Given as goal

abbrev pub invariant-loop-slot : goal.invariant-loop-slot
invariant-loop-slot l = record {
  marks : MarksFrom (Refers l.slots) l.fn.places l.fn.work.items l.places l.work.items;
  done : All (λ p. place_at l.places p.1.now ≢ Nursery) l.yielded;
}
