use Rattle.std.proofs.Common.{◌≡◌, ◌+◌, length, drop}
use Rattle.et_replay.specs.Items.{made_objects}
use Rattle.et_top.proofs.models.count_made.Given as goal

abbrev pub invariant-items : goal.invariant-items
invariant-items l = l.count + length (made_objects (drop l.item-index l.items)) ≡ length (made_objects l.items)
