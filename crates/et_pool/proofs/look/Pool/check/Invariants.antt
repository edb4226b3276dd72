use Rattle.std.proofs.Common.{◌≡◌, ◌≤◌, ◌-◌, length}
use Rattle.et_pool.specs.Entries.{view_slots}
use Rattle.et_pool.specs.Looks.{AllFit, item_place}
use Rattle.et_pool.proofs.look.Pool.check.Given as goal

abbrev pub invariant-slots : goal.invariant-slots
invariant-slots l = record {
  within : l.i ≤ length (view_slots l.self-inside.slots.items);
  fit : AllFit (view_slots l.self-inside.slots.items) l.i;
  place : l.place ≡ item_place l.self-inside.at (view_slots l.self-inside.slots.items) l.i;
}

abbrev pub decreases-slots : goal.decreases-slots
decreases-slots l = length l.self-inside.slots.items - l.i
