use Rattle.std.proofs.Common.{◌≡◌, length, ◌∙◌, ap, arith}
use Rattle.std.specs.Vec.{with_items}
use Rattle.std.proofs.lemmas.List.{with_items_is}
use Rattle.et_graph.specs.Times.{unset_count}
use Rattle.et_flush.proofs.Working.{unset_within, ready_search}
use Rattle.et_flush.proofs.work.find_reached.Goals as goal

pub reach-requires-clause-ready : goal.reach-requires-clause-ready
reach-requires-clause-ready g c =
    let w = c.requires.ready in
    ready_search (length c.args.work.now.held.items) c.deref_mut.result.now c.deref_mut-2.result.now c.args.work.now.waiting (ap length c.deref_mut.ensures.value ∙ w.times) (ap length c.deref_mut-2.ensures.value ∙ w.reached) w.idle c.requires.room

pub returns-clause-visits : goal.returns-clause-visits
returns-clause-visits g c =
    let is : (with_items c.args.work.now.reached c.reach.new.seen).items ≡ c.reach.new.seen = with_items_is c.args.work.now.reached c.reach.new.seen (c.reach.auto.seen ∙ c.deref_mut-2.ensures.len) in
    omega (arith, ap unset_count is, c.reach.ensures.counted, unset_within c.deref_mut-2.result.now, ap length c.deref_mut-2.ensures.value, c.requires.ready.reached)
