use Rattle.std.proofs.Common.{sym}
use Rattle.et_heap.proofs.Pages.{length-heap}
use Rattle.et_heap.proofs.store.Store.count.Goals as goal

pub returns-clause-value : goal.returns-clause-value
returns-clause-value c = sym (length-heap _ c.self.inside.pages.items _ c.self.view_is c.self.invariant.paged)
