use Rattle.std.proofs.Common.{rules, ◌≡◌, ◌++◌, ℤ, Err, drop, sym, ◌∙◌, ap, arith, lit≤, to_z, of_z}
use Rattle.std.specs.Int.{w32}
use Rattle.et_base.specs.declared.value.Value.{Value}
use Rattle.et_event.specs.Moments.{begins, goes}
use Rattle.et_event.specs.Checks.{entries_of}
use Rattle.et_event.specs.Heap.{leaving_values}
use Rattle.et_refs.specs.Changes.{exchange_outcome}
use Rattle.et_refs.specs.Reads.{moment_over}
use Rattle.et_refs.proofs.Chains.{refusing, loads_index, loads, loaded, on_int, put_back}
use Rattle.et_refs.proofs.May.{may_put}
use Rattle.et_refs.proofs.slots.elements.read_element.Goals as goal

pub element_slot-requires-clause-held : goal.element_slot-requires-clause-held
element_slot-requires-clause-held g c = λ o is. c.requires.sound.frame o (c.in_ok-reference.ensures.there o is)

pub returns-in_err-index-clause-is : goal.returns-in_err-index-clause-is
returns-in_err-index-clause-is g c =
    let f = c.args.running.now.frame in
    let refused : c.from_residual.result ≡ Err c.in_err-index.field-0.0 = search rules in
    λ guest t at same.
    let e = moment_over c.args.program.now c.args.heap.now guest t in
    refusing e _ _ c.in_err-index.field-0.0 (exchange_outcome e at) (on_int e f (loads_index e at c.args.elements) same ∙ c.in_err-index.ensures.is e (loads_index e at c.args.elements)) refused

pub returns-in_err-reference-clause-is : goal.returns-in_err-reference-clause-is
returns-in_err-reference-clause-is g c =
    let f = c.args.running.now.frame in
    let i = c.in_ok-index.index in
    let refused : c.from_residual-in_err-reference.result ≡ Err c.in_err-reference.field-0.0 = search rules in
    λ guest t at same.
    let e = moment_over c.args.program.now c.args.heap.now guest t in
    refusing e _ _ c.in_err-reference.field-0.0 (exchange_outcome e at)
    (on_int e f (loads_index e at c.args.elements) same ∙ (c.in_ok-index.ensures.is e (loads_index e at c.args.elements) ∙ c.in_err-reference.ensures.is e (loads e at c.args.elements i))) refused

pub returns-in_err-at-clause-is : goal.returns-in_err-at-clause-is
returns-in_err-at-clause-is g c =
    let f = c.args.running.now.frame in
    let i = c.in_ok-index.index in
    let r = c.in_ok-reference.reference in
    let number : to_z w32 (of_z w32 i) ≡ i = search rules in
    let below = drop 2 f.operands in
    let refused : c.from_residual-in_err-at.result ≡ Err c.in_err-at.field-0.0 = search rules in
    λ guest t at same.
    let e = moment_over c.args.program.now c.args.heap.now guest t in
    refusing e _ _ c.in_err-at.field-0.0 (exchange_outcome e at)
    (on_int e f (loads_index e at c.args.elements) same ∙ (c.in_ok-index.ensures.is e (loads_index e at c.args.elements) ∙ (c.in_ok-reference.ensures.is e (loads e at c.args.elements i)
    ∙ (ap (λ (n : ℤ). loads e at c.args.elements n r below) (sym number) ∙ c.in_err-at.ensures.is guest t (loaded e at c.args.elements below))))) refused

pub returns-clause-is : goal.returns-clause-is
returns-clause-is g c =
    let f = c.args.running.now.frame in
    let i = c.in_ok-index.index in
    let r = c.in_ok-reference.reference in
    let number : to_z w32 (of_z w32 i) ≡ i = search rules in
    let below = drop 2 f.operands in
    λ guest t at same.
    let e = moment_over c.args.program.now c.args.heap.now guest t in
    on_int e f (loads_index e at c.args.elements) same ∙ (c.in_ok-index.ensures.is e (loads_index e at c.args.elements) ∙ (c.in_ok-reference.ensures.is e (loads e at c.args.elements i)
    ∙ (ap (λ (n : ℤ). loads e at c.args.elements n r below) (sym number) ∙ (c.in_ok-at.ensures.is guest t (loaded e at c.args.elements below)
    ∙ (ap (λ (v : Value). goes (leaving_values e at (entries_of v ++ below) (begins e))) (sym c.element_value-value.ensures.value) ∙ put_back e at f 2 c.element_value-value.result same)))))

pub returns-clause-may : goal.returns-clause-may
returns-clause-may g c =
    may_put c.args.heap.now c.args.running.now.frame 2 c.element_value-value.result (omega (arith, c.in_ok-reference.ensures.deep)) (lit≤ tt) c.element_value-value.ensures.few c.running_operands_fit.ensures
    (c.element_value-value.ensures.held c.args.program.now c.requires.sound.heap)
