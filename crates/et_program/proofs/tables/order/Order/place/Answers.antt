use Rattle.std.proofs.Common.{◌≡◌, ◌∙◌, ℕ, List, sym, ap, subst, rules}
use Rattle.std.proofs.lemmas.List.Sorted.{IsPartitionPoint-from_clause}
use Rattle.et_program.specs.Order.{KeyOf, keys_of, shown_key, IsOrder, is_before, place_of}
use Rattle.et_program.proofs.OrderLemmas.{falls_once, place_is}
use Rattle.et_program.proofs.tables.order.Order.place.Goals as goal

-- the entries that are searched are those of the order
order_of : (keys : List KeyOf) (entries seen : List (ℕ × ℕ)) → seen ≡ entries → IsOrder keys entries → IsOrder keys seen
order_of keys entries seen same order = subst (λ (l : List (ℕ × ℕ)). IsOrder keys l) (sym same) order

pub returns : goal.returns
returns c =
    place_is (keys_of c.args.table) c.deref.result.now (order_of (keys_of c.args.table) c.args.self.now.entries.items c.deref.result.now c.deref.ensures.value c.requires) (shown_key c.args.key) c.partition_point.result c.partition_point.ensures.bound
    (IsPartitionPoint-from_clause (is_before (keys_of c.args.table) (shown_key c.args.key)) c.deref.result.now c.partition_point.result c.partition_point.ensures.partitioned
    (falls_once (keys_of c.args.table) c.deref.result.now (order_of (keys_of c.args.table) c.args.self.now.entries.items c.deref.result.now c.deref.ensures.value c.requires) (shown_key c.args.key)) (λ a r f k. search rules))
    ∙ ap (λ (l : List (ℕ × ℕ)). place_of (keys_of c.args.table) l (shown_key c.args.key)) c.deref.ensures.value
