use Rattle.std.proofs.Common.{◌≡◌, Some, ap, sym, ◌∙◌}
use Rattle.et_heap.specs.Objects.{object_at}
use Rattle.et_heap.specs.Stored.{as_stored}
use Rattle.et_heap.proofs.States.{there, shows, all-there}
use Rattle.et_heap.proofs.Lists.{last-waits, put-in-heap}
use Rattle.et_heap.proofs.heap.Heap.enqueue.Goals as goal

pub link-requires-clause-queue : goal.link-requires-clause-queue
link-requires-clause-queue g c =
    let queue : (object_at c.args.self.now c.args.reference).queue ≡ Some c.in-Some.queue =
    sym (ap (λ x. x.queue) (shows _ _ c.args.reference c.self.view_is)) ∙ (sym (ap (λ y. (as_stored y).state.queue) c.object-object.ensures) ∙ (sym c.queue.ensures ∙ c.in-Some.is)) in
    there _ _ _ c.self.view_is (c.requires.queue.held c.in-Some.queue queue)

pub link-requires-clause-last : goal.link-requires-clause-last
link-requires-clause-last g c = λ l is.
    let queue : (object_at c.args.self.now c.args.reference).queue ≡ Some c.in-Some.queue =
    sym (ap (λ x. x.queue) (shows _ _ c.args.reference c.self.view_is)) ∙ (sym (ap (λ y. (as_stored y).state.queue) c.object-object.ensures) ∙ (sym c.queue.ensures ∙ c.in-Some.is)) in
    let whole = all-there _ _ c.in-Some.queue c.self.view_is (c.requires.queue.whole c.in-Some.queue queue) in
    whole l (last-waits _ c.in-Some.queue l c.self.invariant whole is)

pub invariant_of-self : goal.invariant_of-self
invariant_of-self g c =
    let queue : (object_at c.args.self.now c.args.reference).queue ≡ Some c.in-Some.queue =
    sym (ap (λ x. x.queue) (shows _ _ c.args.reference c.self.view_is)) ∙ (sym (ap (λ y. (as_stored y).state.queue) c.object-object.ensures) ∙ (sym c.queue.ensures ∙ c.in-Some.is)) in
    let free = sym (ap (λ y. (as_stored y).state.waits) c.object-object.ensures) ∙ (sym c.waits.ensures ∙ c.if-waits.false) in
    (put-in-heap _ c.self.inside.store _ c.in-Some.queue c.args.reference c.self.view_is c.requires.held c.requires.queue queue free c.self.invariant c.link.ensures).0

pub returns-in-Some-clause-new : goal.returns-in-Some-clause-new
returns-in-Some-clause-new g c =
    let queue : (object_at c.args.self.now c.args.reference).queue ≡ Some c.in-Some.queue =
    sym (ap (λ x. x.queue) (shows _ _ c.args.reference c.self.view_is)) ∙ (sym (ap (λ y. (as_stored y).state.queue) c.object-object.ensures) ∙ (sym c.queue.ensures ∙ c.in-Some.is)) in
    let free = sym (ap (λ y. (as_stored y).state.waits) c.object-object.ensures) ∙ (sym c.waits.ensures ∙ c.if-waits.false) in
    (put-in-heap _ c.self.inside.store _ c.in-Some.queue c.args.reference c.self.view_is c.requires.held c.requires.queue queue free c.self.invariant c.link.ensures).1
