use Rattle.et_heap.specs.Stored.{without_first}
use Rattle.et_heap.proofs.Pages.{kept_changed}
use Rattle.et_heap.proofs.page.Page.drop_first.Goals as goal

pub returns : goal.returns
returns c = kept_changed _ _ _ _ _ (without_first c.args.last) c.self.view_is c.requires c.index_mut-object.ensures.value c.drop_first.ensures
