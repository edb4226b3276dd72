use Rattle.std.proofs.Common.{arith}
use Rattle.std.proofs.lemmas.List.Sums.{sum_by_more_le}
use Rattle.et_models.specs.Tables.{size_at}
use Rattle.et_models.proofs.tables.bytes_of.Goals as goal

pub overflow_add-bytes : goal.overflow_add-bytes
overflow_add-bytes c =
    let more = sum_by_more_le (size_at c.args.sizes.now) c.args.objects.now c.loop-object.object-index 0 c.loop-object-test.true in
    omega (arith, more)
