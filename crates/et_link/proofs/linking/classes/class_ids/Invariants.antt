use Rattle.std.proofs.Common.{◌≡◌, take}
use Rattle.et_link.proofs.linking.classes.class_ids.Given as goal

abbrev pub invariant-loop-place : goal.invariant-loop-place
invariant-loop-place l = l.ids.items ≡ take l.place-index l.places
