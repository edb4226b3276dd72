use Rattle.std.proofs.Common.{◌≡◌, ℕ, nat_lt, true, false, rules, arith}
use Rattle.std.specs.List.Sorted.{IsPartitionPoint}
use Rattle.std.proofs.lemmas.Bool.{ltb-true, ltb-false}
use Rattle.std.proofs.lemmas.List.Sorted.{IsPartitionPoint-from_clause, IsPartitionedBy-ltb}
use Rattle.et_graph.proofs.pairs.first_from.Goals as goal

point_of : (c : goal.After-partition_point) → IsPartitionPoint (λ (p : ℕ × ℕ). nat_lt p.0 c.args.object ≡ true) (λ (p : ℕ × ℕ). nat_lt p.0 c.args.object ≡ false) c.args.pairs.now c.partition_point.result
point_of c =
    IsPartitionPoint-from_clause (λ (p : ℕ × ℕ). nat_lt p.0 c.args.object) c.args.pairs.now c.partition_point.result c.partition_point.ensures.partitioned
    (IsPartitionedBy-ltb (λ (p : ℕ × ℕ). p.0) c.args.pairs.now c.args.object c.requires) (λ a r q k. search rules)

pub returns-clause-before : goal.returns-clause-before
returns-clause-before c = λ k d lt. ltb-true _ _ ((point_of c).0 k d (omega arith) lt)

pub returns-clause-after : goal.returns-clause-after
returns-clause-after c = λ k d le lt. ltb-false _ _ ((point_of c).1 k d le lt)
