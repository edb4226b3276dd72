use Rattle.std.proofs.Common.{ap, ◌∙◌}
use Rattle.et_heap.specs.Objects.{with_monitor}
use Rattle.et_heap.specs.Stored.{on_state}
use Rattle.et_heap.proofs.Pages.{kept_found, kept_changed}
use Rattle.et_heap.proofs.page.Page.set_monitor.Goals as goal

pub returns-clause-old : goal.returns-clause-old
returns-clause-old c =
    let is = kept_found _ _ _ _ c.self.view_is c.requires c.index_mut-object.ensures.value in
    c.set_monitor.ensures.old ∙ ap (λ x. x.state.monitor) is

pub returns-clause-new : goal.returns-clause-new
returns-clause-new c = kept_changed _ _ _ _ _ (on_state (with_monitor c.args.m)) c.self.view_is c.requires c.index_mut-object.ensures.value c.set_monitor.ensures.new
