use Rattle.std.proofs.Common.{refl}
use Rattle.et_heap.specs.Stored.{without_first}
use Rattle.et_heap.proofs.Writes.{place_changed, change_kept}
use Rattle.et_heap.proofs.store.Store.drop_first.Goals as goal

pub returns : goal.returns
returns c = place_changed (without_first c.args.last) _ _ _ _ _ _ _ c.self.view_is c.self.invariant c.requires c.page_of.ensures c.place_of.ensures c.index_mut-page.ensures.value c.drop_first.ensures

pub invariant_of-self : goal.invariant_of-self
invariant_of-self c = change_kept (without_first c.args.last) _ _ _ _ _ _ _ c.self.view_is c.self.invariant c.requires c.page_of.ensures c.place_of.ensures c.index_mut-page.ensures.value c.drop_first.ensures refl refl
