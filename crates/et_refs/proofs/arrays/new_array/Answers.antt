use Rattle.std.proofs.Common.{rules, ◌≡◌, ℕ, ℤ, Err, drop, sym, ◌∙◌, ap, arith, to_z, of_z, unwrap_or}
use Rattle.std.specs.Int.{w32}
use Rattle.et_state.specs.Words.{top}
use Rattle.et_program.specs.Members.{base_array}
use Rattle.et_event.specs.Heap.{new_array_of}
use Rattle.et_event.specs.Sites.{natural_of}
use Rattle.et_event.specs.Moments.{moment}
use Rattle.et_refs.specs.Changes.{new_array_outcome}
use Rattle.et_refs.proofs.Chains.{refusing, makes_base, whatever}
use Rattle.et_refs.proofs.arrays.new_array.Goals as goal

pub returns-in_err-elements-clause-is : goal.returns-in_err-elements-clause-is
returns-in_err-elements-clause-is c =
    let e = moment c.args.program.now c.args.machine.now c.args.thread in
    let at = c.args.place.now.site in
    let same : c.from_residual.result ≡ Err c.in_err-elements.field-0.0 = search rules in
    refusing e _ _ c.in_err-elements.field-0.0 (new_array_outcome e at) (c.in_err-elements.ensures.is e (makes_base e at)) same

pub returns-clause-is : goal.returns-clause-is
returns-clause-is c =
    let e = moment c.args.program.now c.args.machine.now c.args.thread in
    let at = c.args.place.now.site in
    let n = c.in_ok-elements.elements in
    let below = drop 1 (top c.args.machine.now.guest c.args.thread).operands in
    let number : to_z w32 (of_z w32 n) ≡ n = search rules in
    let class : unwrap_or (base_array c.args.program.now (natural_of c.args.place.now.site.instr.first)) 0 ≡ c.array_of_base-array.result = search rules in
    c.in_ok-elements.ensures.is e (makes_base e at)
    ∙ (ap (λ (k : ℕ). new_array_of e at k n below) class
    ∙ (ap (λ (k : ℤ). new_array_of e at c.array_of_base-array.result k below) (sym number) ∙ c.sized.ensures e at))

pub returns-clause-may : goal.returns-clause-may
returns-clause-may c =
    whatever c.sized.result (record { taken = omega (arith, c.in_ok-elements.ensures.deep); room = c.operands_fit.ensures })
