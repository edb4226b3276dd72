use Rattle.std.proofs.Common.{rules, ◌≡◌, ℕ, ℤ, Err, drop, sym, ◌∙◌, ap, arith, to_z, of_z}
use Rattle.std.specs.Int.{w32}
use Rattle.et_state.specs.State.{kept_of}
use Rattle.et_state.specs.Words.{top}
use Rattle.et_event.specs.Heap.{new_array_of}
use Rattle.et_event.specs.Moments.{moment}
use Rattle.et_refs.specs.Changes.{new_array_outcome}
use Rattle.et_refs.proofs.Chains.{refusing, makes_named, makes_resolved, makes, whatever}
use Rattle.et_refs.proofs.arrays.new_reference_array.Goals as goal

pub returns-in-Err-clause-is : goal.returns-in-Err-clause-is
returns-in-Err-clause-is c =
    let e = moment c.args.program.now c.args.machine.now c.args.thread in
    let at = c.args.place.now.site in
    c.in-Err.ensures.is e (makes_named e at)

pub returns-in_err-elements-clause-is : goal.returns-in_err-elements-clause-is
returns-in_err-elements-clause-is c =
    let e = moment c.args.program.now c.args.machine.now c.args.thread in
    let at = c.args.place.now.site in
    let name = c.in-Ok.named.name.now in
    let same : c.from_residual.result ≡ Err c.in_err-elements.field-0.0 = search rules in
    refusing e _ _ c.in_err-elements.field-0.0 (new_array_outcome e at) (c.in-Ok.ensures.is e (makes_named e at) ∙ c.in_err-elements.ensures.is e (makes_resolved e at name)) same

pub returns-in_err-class-clause-is : goal.returns-in_err-class-clause-is
returns-in_err-class-clause-is c =
    let e = moment c.args.program.now c.args.machine.now c.args.thread in
    let at = c.args.place.now.site in
    let name = c.in-Ok.named.name.now in
    let n = c.in_ok-elements.elements in
    let below = drop 1 (top c.args.machine.now.guest c.args.thread).operands in
    let same : c.from_residual-in_err-class.result ≡ Err c.in_err-class.field-0.0 = search rules in
    refusing e _ _ c.in_err-class.field-0.0 (new_array_outcome e at)
    (c.in-Ok.ensures.is e (makes_named e at) ∙ (c.in_ok-elements.ensures.is e (makes_resolved e at name) ∙ c.in_err-class.ensures.is (kept_of c.args.machine.now) c.args.thread (makes e at n below))) same

pub returns-clause-is : goal.returns-clause-is
returns-clause-is c =
    let e = moment c.args.program.now c.args.machine.now c.args.thread in
    let at = c.args.place.now.site in
    let name = c.in-Ok.named.name.now in
    let n = c.in_ok-elements.elements in
    let below = drop 1 (top c.args.machine.now.guest c.args.thread).operands in
    let number : to_z w32 (of_z w32 n) ≡ n = search rules in
    c.in-Ok.ensures.is e (makes_named e at) ∙ (c.in_ok-elements.ensures.is e (makes_resolved e at name) ∙ (c.in_ok-class.ensures.is (kept_of c.args.machine.now) c.args.thread (makes e at n below)
    ∙ (ap (λ (k : ℕ). new_array_of e at k n below) (sym c.array_over-array.ensures)
    ∙ (ap (λ (k : ℤ). new_array_of e at c.array_over-array.result k below) (sym number) ∙ c.sized.ensures e at))))

pub returns-clause-may : goal.returns-clause-may
returns-clause-may c =
    whatever c.sized.result (record { taken = omega (arith, c.in_ok-elements.ensures.deep); room = c.operands_fit.ensures })

pub resolve_named-requires : goal.resolve_named-requires
resolve_named-requires c = c.in-Ok.ensures.named c.args.program.now c.requires.refers.class c.requires.refers.pool
