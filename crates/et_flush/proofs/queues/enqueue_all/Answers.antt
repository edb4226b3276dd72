use Rattle.std.proofs.Common.{ℕ, List, refl, sym, ◌∙◌, ap, arith}
use Rattle.std.proofs.lemmas.List.{drop_all, get_or_default}
use Rattle.et_heap.specs.Objects.{IsHeld}
use Rattle.et_flush.specs.Flushes.{all_enqueued}
use Rattle.et_flush.proofs.Tying.{can_enqueue, enqueued_pairs, enqueued_held, enqueued_step}
use Rattle.et_flush.proofs.queues.enqueue_all.Goals as goal

pub loop-reference-init : goal.loop-reference-init
loop-reference-init g c = record { heap = refl; held = c.requires.held; pairs = c.requires.pairs; visits = omega arith }

pub enqueue-requires-clause-held : goal.enqueue-requires-clause-held
enqueue-requires-clause-held g c = c.loop-reference.invariant.held c.reference-item.result (c.loop-reference.reference-index, c.loop-reference-test.true, sym c.reference-item.is)

pub enqueue-requires-clause-queue : goal.enqueue-requires-clause-queue
enqueue-requires-clause-queue g c = can_enqueue c.loop-reference.heap c.reference-item.result c.loop-reference.invariant.pairs

pub loop-reference-preserved : goal.loop-reference-preserved
loop-reference-preserved g c =
    let r : ℕ = c.reference-item.result in
    let i : ℕ = c.loop-reference.reference-index in
    let held : IsHeld c.loop-reference.heap r = c.loop-reference.invariant.held r (i, c.loop-reference-test.true, sym c.reference-item.is) in
    record {
      heap = enqueued_step c.args.references.now i r 0 c.loop-reference.heap c.enqueue.new.self (all_enqueued c.args.references.now c.args.heap.now) c.loop-reference-test.true (c.reference-item.is ∙ get_or_default c.args.references.now i r 0 c.loop-reference-test.true) c.loop-reference.invariant.heap c.enqueue.ensures.new;
      held = λ o d. enqueued_held c.loop-reference.heap c.enqueue.new.self r held c.loop-reference.invariant.pairs c.enqueue.ensures.new o (c.loop-reference.invariant.held o d);
      pairs = enqueued_pairs c.loop-reference.heap c.enqueue.new.self r held c.loop-reference.invariant.pairs c.enqueue.ensures.new;
      visits = omega (arith, c.loop-reference.invariant.visits, c.enqueue.ensures.visits);
    }

pub returns-clause-heap : goal.returns-clause-heap
returns-clause-heap g c =
    sym (ap (λ (rs : List ℕ). all_enqueued rs c.loop-reference.heap) (drop_all c.loop-reference.reference-index c.args.references.now (omega (arith, c.loop-reference-test.false)))) ∙ c.loop-reference.invariant.heap

pub returns-clause-visits : goal.returns-clause-visits
returns-clause-visits g c = omega (arith, c.loop-reference.invariant.visits, c.loop-reference-test.false, c.loop-reference.auto)
