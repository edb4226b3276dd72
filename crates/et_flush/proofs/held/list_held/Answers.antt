use Rattle.std.proofs.Common.{ℕ, ◌+◌, ◌≤◌, subst, sym, refl, arith}
use Rattle.et_heap.specs.Objects.{IsHeld, IsNextHeld}
use Rattle.et_heap.proofs.HeapLists.{held_within}
use Rattle.et_flush.proofs.Holding.{AreHeldBelow, below_none, below_next, next_counted, all_below, held_few}
use Rattle.et_flush.proofs.held.list_held.Goals as goal

pub loop-from-init : goal.loop-from-init
loop-from-init c = record {
  listed = below_none c.args.heap.now c.clear.new.self.items c.clear.ensures.items c.requires.none;
  room = omega (arith, c.clear.ensures.capacity);
}

pub push-requires : goal.push-requires
push-requires c =
    let next : IsNextHeld c.args.heap.now c.loop-from.from c.in-Some.object = subst (λ (n : ℕ). IsNextHeld c.args.heap.now n c.in-Some.object) c.new.ensures c.in-Some.ensures.some in
    record { room = omega (arith, c.loop-from.held.ok.0, next_counted c.args.heap.now c.loop-from.from c.in-Some.object c.loop-from.held.items c.loop-from.invariant.listed next, c.loop-from.invariant.room, c.requires.room) }

pub loop-from-preserved : goal.loop-from-preserved
loop-from-preserved c =
    let next : IsNextHeld c.args.heap.now c.loop-from.from c.in-Some.object = subst (λ (n : ℕ). IsNextHeld c.args.heap.now n c.in-Some.object) c.new.ensures c.in-Some.ensures.some in
    record {
      listed =
          subst (λ (n : ℕ). AreHeldBelow c.args.heap.now (n + 1) c.push.new.v.items) (sym c.number-from.ensures.value)
          (below_next c.args.heap.now c.loop-from.from c.in-Some.object c.loop-from.held.items c.push.new.v.items c.loop-from.invariant.listed next c.push.ensures.items);
      room = omega (arith, c.push.ensures.grows);
    }

pub returns-clause-few : goal.returns-clause-few
returns-clause-few c =
    let past : (u : ℕ) → c.loop-from.from ≤ u → IsHeld c.args.heap.now u → ⊥ = λ u le h. omega (arith, held_within c.args.heap.now u h, c.loop-from-test.false, c.count-last.ensures.value) in
    omega (arith, held_few c.args.heap.now c.loop-from.held.items (all_below c.args.heap.now c.loop-from.from c.loop-from.held.items c.loop-from.invariant.listed past) c.requires.none, c.count-last.ensures.value, c.count-last.ensures.few)

pub returns-in-None-clause-few : goal.returns-in-None-clause-few
returns-in-None-clause-few c =
    let past : (u : ℕ) → c.loop-from.from ≤ u → IsHeld c.args.heap.now u → ⊥ = λ u le h. c.in-None.ensures.none refl u (omega (arith, c.new.ensures, le)) h in
    omega (arith, held_few c.args.heap.now c.loop-from.held.items (all_below c.args.heap.now c.loop-from.from c.loop-from.held.items c.loop-from.invariant.listed past) c.requires.none, c.count-last.ensures.value, c.count-last.ensures.few)
