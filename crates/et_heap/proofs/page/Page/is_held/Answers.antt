use Rattle.std.proofs.Common.{arith, rules, tests}
use Rattle.et_heap.proofs.Pages.{kept_within}
use Rattle.et_heap.proofs.page.Page.is_held.Goals as goal

pub returns-else-place-len : goal.returns-else-place-len
returns-else-place-len c = (
  λ t. search (rules, tests),
  λ held. absurd (omega (arith, c.self.inside.kept.ok.0, kept_within _ _ _ c.self.view_is held)),
)
