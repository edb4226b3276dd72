use Rattle.std.proofs.Common.{◌≡◌, ℕ, ◌+◌, ◌-◌, ◌<◌, Bool, false, List, length, drop, sym, ◌∙◌, ap, subst, arith}
use Rattle.std.specs.Prelude.{All}
use Rattle.std.specs.List.{slice_index_or}
use Rattle.std.proofs.lemmas.List.Elements.{All-push}
use Rattle.et_hierarchy.specs.Ancestry.{ancestry_at, added_all}
use Rattle.et_hierarchy.specs.Initialization.{with_interfaces}
use Rattle.et_hierarchy.specs.Orders.{order_down, IsStop}
use Rattle.et_hierarchy.proofs.OrderParts.{super_at, super_read, down_turn, stop_here, stops_on}
use Rattle.et_hierarchy.proofs.order.add_supers.Goals as goal

pub add_class-requires-clause-class : goal.add_class-requires-clause-class
add_class-requires-clause-class c =
    let i : ℕ = c.loop-i.i - 1 in
    let k : ℕ = c.args.class in
    let less : i < length (ancestry_at c.args.rows.now k).supers = omega (arith, c.loop-i.auto.i, c.requires.missing, c.loop-i-test.true) in
    let here : c.number.result ≡ slice_index_or (ancestry_at c.args.rows.now k).supers i 0 = super_read _ _ i _ _ c.supers_of-supers.ensures less c.index-supers-i.is c.number.ensures.value in
    subst (λ n. n < length c.args.table.now) (sym here) (super_at c.args.table.now c.args.rows.now c.requires.rows c.requires.within k i c.requires.class less).0

pub loop-i-preserved : goal.loop-i-preserved
loop-i-preserved c =
    let needs : ℕ → Bool = λ k. slice_index_or c.args.needs.now k false in
    let table = c.args.table.now in
    let rows = c.args.rows.now in
    let i : ℕ = c.loop-i.i - 1 in
    let k : ℕ = c.args.class in
    let supers : List ℕ = (ancestry_at rows k).supers in
    let same : c.supers_of-supers.result.now ≡ supers = c.supers_of-supers.ensures in
    let less : i < length supers = omega (arith, c.loop-i.auto.i, c.requires.missing, c.loop-i-test.true) in
    let here : c.number.result ≡ slice_index_or supers i 0 = super_read _ _ i _ _ same less c.index-supers-i.is c.number.ensures.value in
    let on : c.loop-i.i ≡ i + 1 = omega (arith, c.loop-i-test.true) in
    let old : c.loop-i.work.order ≡ order_down needs table rows (drop (i + 1) supers) =
    c.loop-i.invariant.order ∙ (ap (λ (xs : List ℕ). order_down needs table rows (drop c.loop-i.i xs)) same ∙ ap (λ n. order_down needs table rows (drop n supers)) on) in
    let added : c.add_class.new.work.order ≡ added_all c.loop-i.work.order (with_interfaces needs table rows (slice_index_or supers i 0)) =
    c.in_ok-add_class.ensures ∙ ap (λ n. added_all c.loop-i.work.order (with_interfaces needs table rows n)) here in
    let order : c.add_class.new.work.order ≡ order_down needs table rows (drop i supers) = down_turn needs table rows c.requires.rows c.requires.within k i c.requires.class less c.loop-i.work.order c.add_class.new.work.order old added in
    record {
      order = order ∙ ap (λ (xs : List ℕ). order_down needs table rows (drop i xs)) (sym same);
      stops =
          subst (All (IsStop needs table rows c.add_class.new.work.order)) (sym c.in_ok-push.ensures.items)
          (All-push (IsStop needs table rows c.add_class.new.work.order) c.loop-i.stops.items _
          (stops_on needs table rows c.loop-i.work.order c.add_class.new.work.order (with_interfaces needs table rows (slice_index_or supers i 0)) c.loop-i.stops.items added c.loop-i.invariant.stops)
          (stop_here needs table rows c.requires.rows c.requires.within k i c.requires.class less c.add_class.new.work.order c.index-supers-i.result _ (sym c.number.ensures.value ∙ here) (ap length c.as_slice-end.ensures) order));
    }
