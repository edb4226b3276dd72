use Rattle.std.proofs.Common.{rules, ◌≡◌, ◌+◌, ℕ, ℤ, Bool, true, List, Some, Err, drop, sym, ◌∙◌, ap, subst, arith, to_z, of_z, Contains}
use Rattle.std.specs.Int.{w32}
use Rattle.et_base.specs.declared.value.Value.{Value}
use Rattle.et_state.specs.State.{GuestState}
use Rattle.et_state.specs.Words.{top}
use Rattle.et_heap.specs.Refs.{refs_of_value}
use Rattle.et_event.specs.declared.errors.GuestError.TheVariants.{ArrayStoreException}
use Rattle.et_event.specs.Kinds.{kind_of_elements}
use Rattle.et_event.specs.Moments.{Moment, begins, slot_written, goes}
use Rattle.et_event.specs.Checks.{throws_unless}
use Rattle.et_event.specs.Heap.{leaving_values, passes_element, element_of_array, store_element}
use Rattle.et_event.specs.Sites.{Site}
use Rattle.et_refs.specs.Changes.{is_number, store_outcome}
use Rattle.et_refs.specs.Reads.{moment_over}
use Rattle.et_refs.proofs.Chains.{refusing, stores_value, stores_index, stores, stores_tested, kept, on_value, store_back}
use Rattle.et_refs.proofs.May.{may_store}
use Rattle.et_refs.proofs.Reading.{element_number, element_refers}
use Rattle.et_refs.proofs.slots.elements.write_element.Given.{Over}
use Rattle.et_refs.proofs.slots.elements.write_element.Goals.{In_ok-reference}
use Rattle.et_refs.proofs.slots.elements.write_element.Goals as goal

pub element_slot-requires-clause-held : goal.element_slot-requires-clause-held
element_slot-requires-clause-held g c = λ o is. c.requires.sound.frame o (c.in_ok-reference.ensures.there o is)

pub passes_element-may_be-requires-clause-value : goal.passes_element-may_be-requires-clause-value
passes_element-may_be-requires-clause-value g c = λ o inside. c.requires.sound.frame o (c.in_ok-taken.ensures.there o inside)

pub returns-in_err-taken-clause-is : goal.returns-in_err-taken-clause-is
returns-in_err-taken-clause-is g c =
    let f = c.args.running.now.frame in
    let kind = c.args.elements in
    let refused : c.from_residual.result ≡ Err c.in_err-taken.field-0.0 = search rules in
    λ guest t at same.
    let e = moment_over c.args.program.now c.args.heap.now guest t in
    refusing e _ _ c.in_err-taken.field-0.0 (store_outcome e at) (on_value e f (Some (kind_of_elements kind)) (stores_value e at kind) same ∙ c.in_err-taken.ensures.is e (stores_value e at kind)) refused

pub returns-in_err-index-clause-is : goal.returns-in_err-index-clause-is
returns-in_err-index-clause-is g c =
    let f = c.args.running.now.frame in
    let kind = c.args.elements in
    let v = c.in_ok-taken.taken.value in
    let refused : c.from_residual-in_err-index.result ≡ Err c.in_err-index.field-0.0 = search rules in
    λ guest t at same.
    let e = moment_over c.args.program.now c.args.heap.now guest t in
    refusing e _ _ c.in_err-index.field-0.0 (store_outcome e at)
    (on_value e f (Some (kind_of_elements kind)) (stores_value e at kind) same ∙ (c.in_ok-taken.ensures.is e (stores_value e at kind) ∙ c.in_err-index.ensures.is e (stores_index e at kind v))) refused

pub returns-in_err-reference-clause-is : goal.returns-in_err-reference-clause-is
returns-in_err-reference-clause-is g c =
    let f = c.args.running.now.frame in
    let kind = c.args.elements in
    let v = c.in_ok-taken.taken.value in
    let i = c.in_ok-index.index in
    let refused : c.from_residual-in_err-reference.result ≡ Err c.in_err-reference.field-0.0 = search rules in
    λ guest t at same.
    let e = moment_over c.args.program.now c.args.heap.now guest t in
    refusing e _ _ c.in_err-reference.field-0.0 (store_outcome e at)
    (on_value e f (Some (kind_of_elements kind)) (stores_value e at kind) same ∙ (c.in_ok-taken.ensures.is e (stores_value e at kind) ∙ (c.in_ok-index.ensures.is e (stores_index e at kind v)
    ∙ c.in_err-reference.ensures.is e (stores e at kind v i)))) refused

-- WHAT GOES ON with the reference
module _ (g : Over) (c : In_ok-reference g) (guest : GuestState) (t : ℕ) (at : Site) (same : top guest t ≡ c.args.running.now.frame) where
  abbrev e : Moment
  e = moment_over c.args.program.now c.args.heap.now guest t

  abbrev below : List Value
  below = drop (c.in_ok-taken.taken.width + 1 + 1) c.args.running.now.frame.operands

  referred : store_element e at c.args.elements ≡ stores e at c.args.elements c.in_ok-taken.taken.value (to_z w32 (of_z w32 c.in_ok-index.index)) c.in_ok-reference.reference below
  referred =
      let kind = c.args.elements in
      let v = c.in_ok-taken.taken.value in
      let i = c.in_ok-index.index in
      let number : to_z w32 (of_z w32 i) ≡ i = search rules in
      on_value e c.args.running.now.frame (Some (kind_of_elements kind)) (stores_value e at kind) same ∙ (c.in_ok-taken.ensures.is e (stores_value e at kind) ∙ (c.in_ok-index.ensures.is e (stores_index e at kind v)
      ∙ (c.in_ok-reference.ensures.is e (stores e at kind v i) ∙ ap (λ (m : ℤ). stores e at kind v m c.in_ok-reference.reference below) (sym number))))

pub returns-in_err-at-clause-is : goal.returns-in_err-at-clause-is
returns-in_err-at-clause-is g c =
    let there = (goal.at.returns-in_err-at-clause-is g c).In_ok-reference in
    let below = drop (c.in_ok-taken.taken.width + 1 + 1) c.args.running.now.frame.operands in
    let refused : c.from_residual-in_err-at.result ≡ Err c.in_err-at.field-0.0 = search rules in
    λ guest t at same.
    let e = moment_over c.args.program.now c.args.heap.now guest t in
    refusing e _ _ c.in_err-at.field-0.0 (store_outcome e at) (referred g there guest t at same ∙ c.in_err-at.ensures.is guest t (stores_tested e at c.args.elements c.in_ok-taken.taken.value below)) refused

pub returns-in_err-throws_unless-clause-is : goal.returns-in_err-throws_unless-clause-is
returns-in_err-throws_unless-clause-is g c =
    let there = (goal.at.returns-in_err-throws_unless-clause-is g c).In_ok-reference in
    let kind = c.args.elements in
    let v = c.in_ok-taken.taken.value in
    let below = drop (c.in_ok-taken.taken.width + 1 + 1) c.args.running.now.frame.operands in
    let x = c.in_ok-at.at in
    let refused : c.from_residual-in_err-throws_unless.result ≡ Err c.in_err-throws_unless.field-0.0 = search rules in
    λ guest t at same.
    let e = moment_over c.args.program.now c.args.heap.now guest t in
    let eq : passes_element e v (element_of_array e x.object) ≡ c.passes_element-may_be.result = sym (c.passes_element-may_be.ensures.value guest t) in
    refusing e _ _ c.in_err-throws_unless.field-0.0 (store_outcome e at)
    (referred g there guest t at same ∙ (c.in_ok-at.ensures.is guest t (stores_tested e at kind v below)
    ∙ (ap (λ (b : Bool). throws_unless e (begins e) ArrayStoreException b (kept e at kind v below x.object x.slot)) eq ∙ c.in_err-throws_unless.ensures.is e (kept e at kind v below x.object x.slot)))) refused

pub returns-clause-is : goal.returns-clause-is
returns-clause-is g c =
    let there = (goal.at.returns-clause-is g c).In_ok-reference in
    let f = c.args.running.now.frame in
    let kind = c.args.elements in
    let v = c.in_ok-taken.taken.value in
    let w = c.in_ok-taken.taken.width in
    let two : w + 1 + 1 ≡ w + 2 = omega arith in
    let below = drop (w + 1 + 1) f.operands in
    let x = c.in_ok-at.at in
    let may_be : c.passes_element-may_be.result ≡ true = search rules in
    λ guest t at same.
    let e = moment_over c.args.program.now c.args.heap.now guest t in
    let eq : passes_element e v (element_of_array e x.object) ≡ true = sym (c.passes_element-may_be.ensures.value guest t) ∙ may_be in
    referred g there guest t at same ∙ (c.in_ok-at.ensures.is guest t (stores_tested e at kind v below)
    ∙ (ap (λ (b : Bool). throws_unless e (begins e) ArrayStoreException b (kept e at kind v below x.object x.slot)) eq
    ∙ (ap (λ (u : Value). goes (slot_written e x.object x.slot u (leaving_values e at below (begins e)))) (sym c.kept_element.ensures)
    ∙ (ap (λ (k : ℕ). goes (slot_written e x.object x.slot c.kept_element.result (leaving_values e at (drop k f.operands) (begins e)))) two ∙ store_back e at f (w + 2) x.object x.slot c.kept_element.result same))))

pub returns-clause-may : goal.returns-clause-may
returns-clause-may g c =
    let kind = c.args.elements in
    let v = c.in_ok-taken.taken.value in
    let x = c.in_ok-at.at in
    may_store c.args.heap.now c.args.running.now.frame (c.in_ok-taken.taken.width + 2) (Some (kind_of_elements kind)) v c.kept_element.result x (omega (arith, c.in_ok-reference.ensures.deep)) (omega (arith, c.in_ok-taken.ensures.few))
    (c.in_ok-reference.ensures.there x.object c.in_ok-at.ensures.object) c.in_ok-at.ensures.at c.in_ok-taken.ensures.there c.in_ok-taken.ensures.kind
    (λ o inside. element_refers kind v o (subst (λ (w : Value). Contains (refs_of_value w) o) c.kept_element.ensures inside)) (λ h. element_number kind v (subst (λ (w : Value). is_number w ≡ true) c.kept_element.ensures h))

pub returns-clause-number : goal.returns-clause-number
returns-clause-number g c = λ h.
    let unread = c.passes_element-may_be.ensures.number (element_number c.args.elements c.in_ok-taken.taken.value (subst (λ (w : Value). is_number w ≡ true) c.kept_element.ensures h)) in
    omega (arith, unread, c.in_ok-at.ensures.visits)
