use Rattle.std.proofs.Common.{◌≡◌, ◌++◌, take, filter}
use Rattle.et_models.specs.Places.{place_at, is_kept}
use Rattle.et_models.proofs.marks.push_kept.Given as goal

abbrev pub invariant-loop-object : goal.invariant-loop-object
invariant-loop-object l = l.kept.items ≡ l.fn.kept.items ++ filter (λ o. is_kept (place_at l.places o)) (take l.object-index l.objects)
