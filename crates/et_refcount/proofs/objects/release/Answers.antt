use Rattle.std.specs.Map.Iter.{deref_pair}
use Rattle.std.proofs.lemmas.Map.Iter.{rest_more, rest_all}
use Rattle.et_refcount.proofs.Releasing.{releasing_begins, releasing_needs, releasing_step, releasing_ends}
use Rattle.et_refcount.proofs.objects.release.Goals as goal

pub loop-slot-init : goal.loop-slot-init
loop-slot-init c = releasing_begins c.args.own.now.entries c.into_iter-slot-iterator.result c.args.dead.now c.args.counts.now c.args.work.now.items c.into_iter-slot-iterator.ensures.into_iter_gives.0

pub drop_reference-requires : goal.drop_reference-requires
drop_reference-requires c =
    let s = c.loop-slot in
    releasing_needs c.args.own.now.entries c.args.dead.now c.args.counts.now c.args.work.now.items (c.in-Some._slot.now, c.in-Some.target.now) s._slot-iterator c.next.new.self s.counts s.work.items
    (rest_more deref_pair s._slot-iterator c.next.new.self c.next.result (c.in-Some._slot, c.in-Some.target) c.in-Some.is c.next.ensures.steps) c.requires s.invariant

pub loop-slot-preserved : goal.loop-slot-preserved
loop-slot-preserved c =
    let s = c.loop-slot in
    let more = rest_more deref_pair s._slot-iterator c.next.new.self c.next.result (c.in-Some._slot, c.in-Some.target) c.in-Some.is c.next.ensures.steps in
    let one = releasing_needs c.args.own.now.entries c.args.dead.now c.args.counts.now c.args.work.now.items (c.in-Some._slot.now, c.in-Some.target.now) s._slot-iterator c.next.new.self s.counts s.work.items more c.requires s.invariant in
    releasing_step c.args.own.now.entries c.args.dead.now c.args.counts.now c.args.work.now.items (c.in-Some._slot.now, c.in-Some.target.now) s._slot-iterator c.next.new.self s.counts s.work.items c.drop_reference.new.counts c.drop_reference.new.work.items
    more one c.in_ok-drop_reference.ensures.counts c.in_ok-drop_reference.ensures.work s.invariant

pub returns : goal.returns
returns c =
    let s = c.loop-slot in
    releasing_ends c.args.own.now.entries c.args.dead.now c.args.counts.now c.args.work.now.items s._slot-iterator s.counts s.work.items
    (rest_all deref_pair s._slot-iterator c.next.new.self c.next.result c.in-None.is c.next.ensures.steps) s.invariant
