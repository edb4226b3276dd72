use Rattle.std.proofs.Common.{◌-◌, ◌^◌, List, rules, subst}
use Rattle.std.specs.List.Sorted.{IsPermutation}
use Rattle.std.proofs.lemmas.List.Sorted.{IsNonDecreasingBy-from_sort_by_key}
use Rattle.et_graph.specs.declared.objects.Death.{Death}
use Rattle.et_graph.proofs.Sources.{order_is}
use Rattle.et_graph.proofs.search.order_sources.Goals as goal

pub returns-clause-order : goal.returns-clause-order
returns-clause-order c =
    order_is c.args.times.now c.sort_unstable_by_key.new.self.items c.requires.below
    (subst (λ (xs : List Death). IsPermutation xs c.sort_unstable_by_key.new.self.items) c.list_sources.ensures.sources c.sort_unstable_by_key.ensures.permutation)
    (IsNonDecreasingBy-from_sort_by_key (λ (s : Death). 2 ^ 64 - 1 - s.time) _ c.sort_unstable_by_key.ensures.sorted (λ a r q k. search rules))
