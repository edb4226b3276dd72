use Rattle.std.proofs.Common.{◌<◌, length, length-set, refl, ap, sym, ◌∙◌, subst}
use Rattle.et_heap.specs.Objects.{with_slot, slot_of}
use Rattle.et_heap.specs.Stored.{as_stored, on_state}
use Rattle.et_heap.proofs.Writes.{place_same, place_held, place_changed, change_kept}
use Rattle.et_heap.proofs.store.Store.set_slot.Goals as goal

pub set_slot-requires : goal.set_slot-requires
set_slot-requires c =
    let same = place_same _ _ _ _ _ _ c.self.view_is c.self.invariant c.requires.held c.page_of.ensures c.place_of.ensures c.index_mut-page.ensures.value in
    record {
      held = place_held _ _ _ _ _ _ c.self.view_is c.self.invariant c.requires.held c.page_of.ensures c.place_of.ensures c.index_mut-page.ensures.value;
      slot = subst (λ p. c.args.i < length (as_stored p).state.slots) same c.requires.slot;
    }

pub returns-clause-old : goal.returns-clause-old
returns-clause-old c = c.set_slot.ensures.old ∙ ap (λ p. slot_of (as_stored p).state c.args.i) (sym (place_same _ _ _ _ _ _ c.self.view_is c.self.invariant c.requires.held c.page_of.ensures c.place_of.ensures c.index_mut-page.ensures.value))

pub returns-clause-new : goal.returns-clause-new
returns-clause-new c = place_changed (on_state (with_slot c.args.i c.args.v)) _ _ _ _ _ _ _ c.self.view_is c.self.invariant c.requires.held c.page_of.ensures c.place_of.ensures c.index_mut-page.ensures.value c.set_slot.ensures.new

pub invariant_of-self : goal.invariant_of-self
invariant_of-self c = change_kept (on_state (with_slot c.args.i c.args.v)) _ _ _ _ _ _ _ c.self.view_is c.self.invariant c.requires.held c.page_of.ensures c.place_of.ensures c.index_mut-page.ensures.value c.set_slot.ensures.new (length-set _ _ _) refl
