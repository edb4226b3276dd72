use Rattle.std.proofs.Common.{ℕ, nat_lt, rules}
use Rattle.std.proofs.lemmas.List.Sorted.{IsPartitionPoint-from_clause}
use Rattle.et_program.proofs.tables.order.count_below.Goals as goal

pub returns-clause-point : goal.returns-clause-point
returns-clause-point c = λ parted.
    IsPartitionPoint-from_clause (λ (e : ℕ × ℕ). nat_lt e.0 c.args.class) c.args.entries.now c.partition_point.result c.partition_point.ensures.partitioned parted (λ a r f k. search rules)
