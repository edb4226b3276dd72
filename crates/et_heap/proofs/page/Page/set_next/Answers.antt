use Rattle.et_heap.specs.Stored.{with_next}
use Rattle.et_heap.proofs.Pages.{kept_changed}
use Rattle.et_heap.proofs.page.Page.set_next.Goals as goal

pub returns : goal.returns
returns c = kept_changed _ _ _ _ _ (with_next c.args.next) c.self.view_is c.requires c.index_mut-object.ensures.value c.set_next.ensures
