use Rattle.std.proofs.Common.{refl, ap, sym, ◌∙◌, arith}
use Rattle.et_heap.specs.Objects.{with_referent, referent_of, referent_value}
use Rattle.et_heap.specs.Stored.{as_stored, on_state, stored_at}
use Rattle.et_heap.proofs.Places.{at_most_one}
use Rattle.et_heap.proofs.Pages.{page-changed, written-counts, written-referents}
use Rattle.et_heap.proofs.Writes.{place_same, place_changed, referents_counted, referents_within, referents_few}
use Rattle.et_heap.proofs.store.Store.set_referent.Goals as goal

pub overflow_sub-self : goal.overflow_sub-self
overflow_sub-self c =
    let old = c.set_referent-old.ensures.old ∙ ap (λ p. referent_value (as_stored p).state.referent) (sym (place_same _ _ _ _ _ _ c.self.view_is c.self.invariant c.requires c.page_of.ensures c.place_of.ensures c.index_mut-page.ensures.value)) in
    omega (arith, referents_within c.self.inside _ c.args.o c.self.view_is c.self.invariant c.requires, referents_counted _ _ (stored_at c.args.self.now c.args.o).state.referent c.count_of.ensures old)

pub overflow_add-self : goal.overflow_add-self
overflow_add-self c = omega (arith, referents_few c.self.inside c.self.invariant, at_most_one (referent_of c.args.v), c.count_of-2.ensures)

pub returns-clause-old : goal.returns-clause-old
returns-clause-old c = c.set_referent-old.ensures.old ∙ ap (λ p. referent_value (as_stored p).state.referent) (sym (place_same _ _ _ _ _ _ c.self.view_is c.self.invariant c.requires c.page_of.ensures c.place_of.ensures c.index_mut-page.ensures.value))

pub returns-clause-new : goal.returns-clause-new
returns-clause-new c = place_changed (on_state (with_referent (referent_of c.args.v))) _ _ _ _ _ _ _ c.self.view_is c.self.invariant c.requires c.page_of.ensures c.place_of.ensures c.index_mut-page.ensures.value c.set_referent-old.ensures.new

pub invariant_of-self : goal.invariant_of-self
invariant_of-self c =
    let written = page-changed _ _ _ _ _ _ _ _ (on_state (with_referent (referent_of c.args.v))) c.self.view_is c.self.invariant.paged c.requires c.page_of.ensures c.place_of.ensures c.index_mut-page.ensures.value c.set_referent-old.ensures.new in
    let counts = written-counts _ _ _ _ _ _ c.self.view_is c.requires written refl in
    let old = c.set_referent-old.ensures.old ∙ ap (λ p. referent_value (as_stored p).state.referent) (sym (place_same _ _ _ _ _ _ c.self.view_is c.self.invariant c.requires c.page_of.ensures c.place_of.ensures c.index_mut-page.ensures.value)) in
    let before = referents_counted _ _ (stored_at c.args.self.now c.args.o).state.referent c.count_of.ensures old in
    record {
      paged = written.paged;
      held = c.self.invariant.held ∙ sym counts.0;
      slots = c.self.invariant.slots ∙ sym counts.1;
      referents = omega (arith, c.self.invariant.referents, before, c.count_of-2.ensures, written-referents _ _ _ _ _ _ c.self.view_is c.requires written, referents_within c.self.inside _ c.args.o c.self.view_is c.self.invariant c.requires);
      few = c.self.invariant.few;
      small = omega (arith, counts.1, c.self.invariant.small);
    }
