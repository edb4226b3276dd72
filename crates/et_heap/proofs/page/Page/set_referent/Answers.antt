use Rattle.std.proofs.Common.{ap, ◌∙◌}
use Rattle.et_heap.specs.Objects.{with_referent, referent_of, referent_value}
use Rattle.et_heap.specs.Stored.{on_state}
use Rattle.et_heap.proofs.Pages.{kept_found, kept_changed}
use Rattle.et_heap.proofs.page.Page.set_referent.Goals as goal

pub returns-clause-old : goal.returns-clause-old
returns-clause-old c =
    let is = kept_found _ _ _ _ c.self.view_is c.requires c.index_mut-object.ensures.value in
    c.set_referent.ensures.old ∙ ap (λ x. referent_value x.state.referent) is

pub returns-clause-new : goal.returns-clause-new
returns-clause-new c = kept_changed _ _ _ _ _ (on_state (with_referent (referent_of c.args.v))) c.self.view_is c.requires c.index_mut-object.ensures.value c.set_referent.ensures.new
