use Rattle.std.proofs.Common.{◌≡◌, ◌≢◌, ℕ, ◌<◌, false, get_or}
use Rattle.et_models.specs.declared.places.Place.TheVariants.{Nursery}
use Rattle.et_models.specs.Tables.{flag_at}
use Rattle.et_models.specs.Places.{place_at}
use Rattle.et_models.specs.Marking.{MarksFrom, IsSeed}
use Rattle.et_models.proofs.marks.seed.Given as goal

abbrev pub invariant-loop-object : goal.invariant-loop-object
invariant-loop-object l = record {
  marks : MarksFrom (IsSeed l.nursery l.dead) l.fn.places l.fn.work.items l.places l.work.items;
  done : (k : ℕ) → k < l.object-index → flag_at l.dead (get_or l.nursery k 0) ≡ false → place_at l.places (get_or l.nursery k 0) ≢ Nursery;
}
