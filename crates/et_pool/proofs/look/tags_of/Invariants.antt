use Rattle.std.proofs.Common.{◌≡◌, take, map}
use Rattle.et_pool.specs.Entries.{view_slots}
use Rattle.et_pool.specs.Looks.{tag_of_slot}
use Rattle.et_pool.proofs.look.tags_of.Given as goal

abbrev pub invariant-entries : goal.invariant-entries
invariant-entries l = l.tags.items ≡ map tag_of_slot (view_slots (take l.slot-index l.slots))
