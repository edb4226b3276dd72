use Rattle.et_heap.specs.Stored.{with_last}
use Rattle.et_heap.proofs.Pages.{kept_changed}
use Rattle.et_heap.proofs.page.Page.push_last.Goals as goal

pub returns : goal.returns
returns c = kept_changed _ _ _ _ _ (with_last c.args.reference) c.self.view_is c.requires c.index_mut-object.ensures.value c.push_last.ensures
