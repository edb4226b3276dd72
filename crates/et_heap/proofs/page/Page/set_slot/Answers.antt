use Rattle.std.proofs.Common.{◌<◌, length, sym, ap, subst, ◌∙◌}
use Rattle.et_heap.specs.Objects.{with_slot, slot_of}
use Rattle.et_heap.specs.Stored.{on_state}
use Rattle.et_heap.proofs.Pages.{kept_found, kept_stands, kept_changed}
use Rattle.et_heap.proofs.page.Page.set_slot.Goals as goal

pub returns-clause-old : goal.returns-clause-old
returns-clause-old c =
    let is = kept_found _ _ _ _ c.self.view_is c.requires.held c.index_mut-object.ensures.value in
    c.set_slot.ensures.old ∙ ap (λ x. slot_of x.state c.args.i) is

pub returns-clause-new : goal.returns-clause-new
returns-clause-new c = kept_changed _ _ _ _ _ (on_state (with_slot c.args.i c.args.v)) c.self.view_is c.requires.held c.index_mut-object.ensures.value c.set_slot.ensures.new

pub set_slot-requires : goal.set_slot-requires
set_slot-requires c =
    let is = kept_found _ _ _ _ c.self.view_is c.requires.held c.index_mut-object.ensures.value in
    record {
      held = kept_stands _ _ _ _ c.self.view_is c.requires.held c.index_mut-object.ensures.value;
      slot = subst (λ x. c.args.i < length x.state.slots) (sym is) c.requires.slot;
    }
