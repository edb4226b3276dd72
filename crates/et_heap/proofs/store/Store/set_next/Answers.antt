use Rattle.std.proofs.Common.{refl}
use Rattle.et_heap.specs.Stored.{with_next}
use Rattle.et_heap.proofs.Writes.{place_changed, change_kept}
use Rattle.et_heap.proofs.store.Store.set_next.Goals as goal

pub returns : goal.returns
returns c = place_changed (with_next c.args.next) _ _ _ _ _ _ _ c.self.view_is c.self.invariant c.requires c.page_of.ensures c.place_of.ensures c.index_mut-page.ensures.value c.set_next.ensures

pub invariant_of-self : goal.invariant_of-self
invariant_of-self c = change_kept (with_next c.args.next) _ _ _ _ _ _ _ c.self.view_is c.self.invariant c.requires c.page_of.ensures c.place_of.ensures c.index_mut-page.ensures.value c.set_next.ensures refl refl
