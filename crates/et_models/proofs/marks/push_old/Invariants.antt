use Rattle.std.proofs.Common.{◌≡◌, ◌++◌, take, filter}
use Rattle.et_models.specs.Places.{place_at, is_old}
use Rattle.et_models.proofs.marks.push_old.Given as goal

abbrev pub invariant-loop-object : goal.invariant-loop-object
invariant-loop-object l = l.list.items ≡ l.fn.list.items ++ filter (λ o. is_old (place_at l.places o)) (take l.object-index l.objects)
