use Rattle.std.proofs.Common.{◌≡◌, take}
use Rattle.std.specs.List.{sum_by}
use Rattle.et_models.specs.Tables.{size_at}
use Rattle.et_models.proofs.tables.bytes_of.Given as goal

abbrev pub invariant-loop-object : goal.invariant-loop-object
invariant-loop-object l = l.bytes ≡ sum_by (size_at l.sizes) (take l.object-index l.objects)
