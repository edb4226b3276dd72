use Rattle.std.proofs.Common.{◌≡◌, ◌+◌, length, drop}
use Rattle.et_replay.specs.Items.{made_objects}
use Rattle.et_replay.proofs.item.count_objects.Given as goal

abbrev pub invariant-loop-item : goal.invariant-loop-item
invariant-loop-item l = l.objects + length (made_objects (drop l.item-index l.items)) ≡ length (made_objects l.items)
