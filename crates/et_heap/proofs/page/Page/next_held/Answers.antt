use Rattle.std.proofs.Common.{sym, ◌∙◌}
use Rattle.et_heap.proofs.Pages.{kept-none}
use Rattle.et_heap.proofs.page.Page.next_held.Goals as goal

pub returns-then-self-eq0-clause-none : goal.returns-then-self-eq0-clause-none
returns-then-self-eq0-clause-none c = λ _ u le held. kept-none _ _ u c.self.view_is (sym c.self.invariant.counted ∙ c.if-self-eq0.true) held
