use Rattle.std.proofs.Common.{refl}
use Rattle.et_heap.specs.Stored.{with_last}
use Rattle.et_heap.proofs.Writes.{place_changed, change_kept}
use Rattle.et_heap.proofs.store.Store.push_last.Goals as goal

pub returns : goal.returns
returns c = place_changed (with_last c.args.reference) _ _ _ _ _ _ _ c.self.view_is c.self.invariant c.requires c.page_of.ensures c.place_of.ensures c.index_mut-page.ensures.value c.push_last.ensures

pub invariant_of-self : goal.invariant_of-self
invariant_of-self c = change_kept (with_last c.args.reference) _ _ _ _ _ _ _ c.self.view_is c.self.invariant c.requires c.page_of.ensures c.place_of.ensures c.index_mut-page.ensures.value c.push_last.ensures refl refl
