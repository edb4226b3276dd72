use Rattle.std.proofs.Common.{◌-◌, ◌^◌, rules, arith}
use Rattle.std.proofs.lemmas.List.Sorted.{IsNonDecreasingBy-from_sort_by_key}
use Rattle.et_graph.specs.declared.objects.Death.{Death}
use Rattle.et_flush.proofs.Ordering.{order_is}
use Rattle.et_flush.proofs.order.order_sources.Goals as goal

pub returns-clause-order : goal.returns-clause-order
returns-clause-order c =
    order_is c.args.times.now c.args.reached.now c.list_sources.new.order.items c.sort_unstable_by_key.new.self.items (λ k d lt. omega (arith, c.requires.below k d lt)) c.list_sources.ensures.sources c.sort_unstable_by_key.ensures.permutation
    (IsNonDecreasingBy-from_sort_by_key (λ (s : Death). 2 ^ 64 - 1 - s.time) _ c.sort_unstable_by_key.ensures.sorted (λ a r q k. search rules))
