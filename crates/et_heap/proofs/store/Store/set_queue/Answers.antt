use Rattle.std.proofs.Common.{refl, ap, sym, ◌∙◌}
use Rattle.et_heap.specs.Objects.{with_queue, referent_of, referent_value}
use Rattle.et_heap.specs.Stored.{as_stored, on_state}
use Rattle.et_heap.proofs.Writes.{place_same, place_changed, change_kept}
use Rattle.et_heap.proofs.store.Store.set_queue.Goals as goal

pub returns-clause-old : goal.returns-clause-old
returns-clause-old c = c.set_queue.ensures.old ∙ ap (λ p. referent_value (as_stored p).state.queue) (sym (place_same _ _ _ _ _ _ c.self.view_is c.self.invariant c.requires c.page_of.ensures c.place_of.ensures c.index_mut-page.ensures.value))

pub returns-clause-new : goal.returns-clause-new
returns-clause-new c = place_changed (on_state (with_queue (referent_of c.args.v))) _ _ _ _ _ _ _ c.self.view_is c.self.invariant c.requires c.page_of.ensures c.place_of.ensures c.index_mut-page.ensures.value c.set_queue.ensures.new

pub invariant_of-self : goal.invariant_of-self
invariant_of-self c = change_kept (on_state (with_queue (referent_of c.args.v))) _ _ _ _ _ _ _ c.self.view_is c.self.invariant c.requires c.page_of.ensures c.place_of.ensures c.index_mut-page.ensures.value c.set_queue.ensures.new refl refl
