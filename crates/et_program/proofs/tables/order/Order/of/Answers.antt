use Rattle.std.proofs.Common.{◌≡◌, ℕ, length, is_lt, ap, subst, rules, arith}
use Rattle.std.proofs.lemmas.Fn.{always_returns_same}
use Rattle.et_program.specs.Order.{KeyOf, keys_of, entry_cmp}
use Rattle.et_program.proofs.OrderLemmas.{IsListed, listed_more, entry_weak, sorted_order}
use Rattle.et_program.proofs.tables.order.Order.of.Goals as goal

pub loop-number-preserved : goal.loop-number-preserved
loop-number-preserved c =
    listed_more (keys_of c.args.table) c.loop-number.entries.items c.push.new.self.items c.key.result.class c.loop-number.number c.loop-number.invariant (ap (λ (k : KeyOf). k.2) c.key.ensures) c.in_ok-push.ensures.items

pub returns : goal.returns
returns c =
    let all : c.loop-number.number ≡ length (keys_of c.args.table) = omega (arith, c.len-count.ensures, c.loop-number-test.false, c.loop-number.auto.number-end) in
    sorted_order (keys_of c.args.table) c.loop-number.entries.items c.sort_unstable_by.new.self.items (subst (λ (n : ℕ). IsListed (keys_of c.args.table) c.loop-number.entries.items n) all c.loop-number.invariant) c.sort_unstable_by.ensures.permutation
    (c.sort_unstable_by.ensures.sorted (λ (e f : ℕ × ℕ). is_lt (entry_cmp (keys_of c.args.table) e f)) (entry_weak (keys_of c.args.table))
    (always_returns_same _ (λ a r. is_lt r ≡ is_lt (entry_cmp (keys_of c.args.table) a.0.now a.1.0.now)) _
    (λ a r f k. let says : r ≡ entry_cmp (keys_of c.args.table) a.0.now a.1.0.now = search rules in (ap is_lt says, search rules))))
