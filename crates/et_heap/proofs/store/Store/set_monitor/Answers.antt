use Rattle.std.proofs.Common.{refl, ap, sym, ◌∙◌}
use Rattle.et_heap.specs.Objects.{with_monitor}
use Rattle.et_heap.specs.Stored.{as_stored, on_state}
use Rattle.et_heap.proofs.Writes.{place_same, place_changed, change_kept}
use Rattle.et_heap.proofs.store.Store.set_monitor.Goals as goal

pub returns-clause-old : goal.returns-clause-old
returns-clause-old c = c.set_monitor.ensures.old ∙ ap (λ p. (as_stored p).state.monitor) (sym (place_same _ _ _ _ _ _ c.self.view_is c.self.invariant c.requires c.page_of.ensures c.place_of.ensures c.index_mut-page.ensures.value))

pub returns-clause-new : goal.returns-clause-new
returns-clause-new c = place_changed (on_state (with_monitor c.args.m)) _ _ _ _ _ _ _ c.self.view_is c.self.invariant c.requires c.page_of.ensures c.place_of.ensures c.index_mut-page.ensures.value c.set_monitor.ensures.new

pub invariant_of-self : goal.invariant_of-self
invariant_of-self c = change_kept (on_state (with_monitor c.args.m)) _ _ _ _ _ _ _ c.self.view_is c.self.invariant c.requires c.page_of.ensures c.place_of.ensures c.index_mut-page.ensures.value c.set_monitor.ensures.new refl refl
