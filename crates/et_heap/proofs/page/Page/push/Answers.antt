use Rattle.std.proofs.Common.{arith}
use Rattle.et_heap.proofs.Places.{stored_count-le}
use Rattle.et_heap.proofs.Pages.{kept-push}
use Rattle.et_heap.proofs.page.Page.push.Goals as goal

pub overflow_add-self : goal.overflow_add-self
overflow_add-self c = omega (arith, stored_count-le c.self.inside.kept.items)

pub returns-clause-ok : goal.returns-clause-ok
returns-clause-ok c = kept-push _ _ _ _ c.self.view_is c.requires.room c.in_ok-push.ensures.items
