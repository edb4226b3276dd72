use Rattle.std.proofs.Common.{◌≡◌, ◌∷◌, length, None, ap, subst, sym, ◌∙◌, arith}
use Rattle.et_heap.specs.Objects.{referent_value}
use Rattle.et_heap.specs.Stored.{as_stored, IsStored, stored_at, stored_slots, stored_count, stored_referents}
use Rattle.et_heap.specs.Pages.{all_places}
use Rattle.et_heap.proofs.Places.{stored_count-without, stored_slots-without, stored_referents-set}
use Rattle.et_heap.proofs.Pages.{page-written, written-view}
use Rattle.et_heap.proofs.Writes.{referents_counted}
use Rattle.et_heap.proofs.store.Store.take_out.Goals as goal

pub invariant_of-self : goal.invariant_of-self
invariant_of-self c =
    let written = page-written _ _ _ _ _ _ _ _ _ c.self.view_is c.self.invariant.paged c.requires c.page_of.ensures c.place_of.ensures c.index_mut-page.ensures.value c.take_out.ensures in
    let xs = all_places c.self.inside.pages.items in
    let o = c.args.o in
    let held : IsStored (None ∷ xs) o = subst (λ h. IsStored h o) (sym c.self.view_is) c.requires in
    let fewer = stored_count-without xs o held in
    let emptier = stored_slots-without xs o held in
    let slots : length c.slots.result.now ≡ length (stored_at (None ∷ xs) o).state.slots = ap length c.slots.ensures ∙ (ap (λ p. length (as_stored p).state.slots) c.object-object.ensures ∙ ap (λ h. length (stored_at h o).state.slots) (sym c.self.view_is)) in
    let fewer_referents = stored_referents-set xs o None held in
    let referents = referents_counted _ _ (stored_at (None ∷ xs) o).state.referent c.count_of-referents.ensures (c.referent.ensures ∙ (ap (λ p. referent_value (as_stored p).state.referent) c.object-object.ensures ∙ ap (λ h. referent_value (stored_at h o).state.referent) (sym c.self.view_is))) in
    let referents-is = ap stored_referents written.same in
    let held-is = ap stored_count written.same in
    let slots-is = ap stored_slots written.same in
    record {
      paged = written.paged;
      held = omega arith;
      slots = omega arith;
      referents = omega arith;
      few = c.self.invariant.few;
      small = omega arith;
    }

pub returns : goal.returns
returns c =
    let written = page-written _ _ _ _ _ _ _ _ _ c.self.view_is c.self.invariant.paged c.requires c.page_of.ensures c.place_of.ensures c.index_mut-page.ensures.value c.take_out.ensures in
    written-view _ _ _ _ _ _ c.self.view_is c.requires written
