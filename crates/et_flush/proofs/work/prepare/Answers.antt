use Rattle.std.proofs.Common.{ℕ, List, Contains, length, ap, subst, arith}
use Rattle.et_heap.specs.Objects.{IsHeld}
use Rattle.et_heap.proofs.HeapLists.{held_within}
use Rattle.et_flush.proofs.Targets.{held_above}
use Rattle.et_flush.proofs.Holding.{all_counted}
use Rattle.et_flush.proofs.work.prepare.Goals as goal

pub list_ranks-requires-clause-within : goal.list_ranks-requires-clause-within
list_ranks-requires-clause-within c = λ o d.
    let h : IsHeld c.args.heap.now o = (c.list_held.ensures.held.exact o).0 (subst (λ (xs : List ℕ). Contains xs o) c.deref.ensures.value d) in
    let above = held_above c.args.heap.now o c.requires.none h in
    let last = held_within c.args.heap.now o h in
    let room = c.requires.places.runs in
    (above, omega (arith, above, last, room))

pub write_times-requires-clause-stamped : goal.write_times-requires-clause-stamped
write_times-requires-clause-stamped c = λ o d. c.requires.stamped o ((c.list_held.ensures.held.exact o).0 (subst (λ (xs : List ℕ). Contains xs o) c.deref-2.ensures.value d))

pub write_times-requires-clause-room : goal.write_times-requires-clause-room
write_times-requires-clause-room c = omega (arith, ap length c.deref-2.ensures.value, all_counted c.args.heap.now c.list_held.new.held.items c.list_held.ensures.held, c.requires.places.times)

pub clear_flags-requires : goal.clear_flags-requires
clear_flags-requires c = omega (arith, c.len.ensures, all_counted c.args.heap.now c.list_held.new.held.items c.list_held.ensures.held, c.requires.places.reached)

pub clear_flags-requires-2 : goal.clear_flags-requires-2
clear_flags-requires-2 c = omega (arith, c.len-2.ensures, all_counted c.args.heap.now c.list_held.new.held.items c.list_held.ensures.held, c.requires.places.seen)

pub list_ranks-requires-clause-room : goal.list_ranks-requires-clause-room
list_ranks-requires-clause-room c = record {
  blocks = c.requires.places.ranks.blocks;
  ranks = omega (arith, ap length c.deref.ensures.value, all_counted c.args.heap.now c.list_held.new.held.items c.list_held.ensures.held, c.requires.places.ranks.ranks);
}
