use Rattle.std.proofs.Common.{ap, subst, sym, ◌∙◌}
use Rattle.et_heap.specs.Objects.{referent_value}
use Rattle.et_heap.specs.Queues.{first_value, take_first, polled}
use Rattle.et_heap.specs.Stored.{states_of}
use Rattle.et_heap.specs.Links.{AreLinked}
use Rattle.et_heap.proofs.States.{there, shows, all-there, object-shown}
use Rattle.et_heap.proofs.Lists.{last-waits, first-waits, poll}
use Rattle.et_heap.proofs.heap.Heap.poll.Goals as goal

pub unlink-requires : goal.unlink-requires
unlink-requires g c =
    let whole = all-there _ _ c.args.queue c.self.view_is c.requires.whole in
    record {
      queue = there _ _ _ c.self.view_is c.requires.held;
      last = λ l is. whole l (last-waits _ c.args.queue l c.self.invariant whole is);
      first = λ l f is next. whole f (first-waits _ c.args.queue l f c.self.invariant whole is next);
    }

pub invariant_of-self : goal.invariant_of-self
invariant_of-self g c =
    let P = c.self.inside.store in
    let taken = poll P c.args.queue (there _ _ _ c.self.view_is c.requires.held) (all-there _ _ c.args.queue c.self.view_is c.requires.whole) c.self.invariant in
    subst AreLinked (sym c.unlink.ensures.new) taken.linked

pub returns-clause-value : goal.returns-clause-value
returns-clause-value g c =
    let P = c.self.inside.store in
    let taken = poll P c.args.queue (there _ _ _ c.self.view_is c.requires.held) (all-there _ _ c.args.queue c.self.view_is c.requires.whole) c.self.invariant in
    c.value_of_reference.ensures ∙ (ap referent_value c.unlink.ensures.first ∙ (taken.value ∙ ap (λ x. first_value x.waiting) (shows _ _ c.args.queue c.self.view_is)))

pub returns-clause-new : goal.returns-clause-new
returns-clause-new g c =
    let P = c.self.inside.store in
    let taken = poll P c.args.queue (there _ _ _ c.self.view_is c.requires.held) (all-there _ _ c.args.queue c.self.view_is c.requires.whole) c.self.invariant in
    ap states_of c.unlink.ensures.new ∙ (taken.state ∙ (ap (λ x. take_first x.waiting c.args.queue (states_of P)) (sym (object-shown P c.args.queue)) ∙ ap (polled c.args.queue) c.self.view_is))
