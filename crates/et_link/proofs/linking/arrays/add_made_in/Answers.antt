use Rattle.std.proofs.Common.{◌≡◌, ◌∙◌, ◌++◌, ℕ, Bool, [], ap, arith, if◌then◌else◌, refl}
use Rattle.std.proofs.lemmas.List.{take_all}
use Rattle.et_code.specs.Rules.{flag}
use Rattle.et_code.specs.Decoding.{instruction_at}
use Rattle.et_code.specs.Starts.{is_start}
use Rattle.et_program.specs.MembersOf.{numbered}
use Rattle.et_program.specs.ArrayTypes.{made_if}
use Rattle.et_link.proofs.Lists.{numbered_more, pieces}
use Rattle.et_link.proofs.linking.arrays.add_made_in.Goals as goal

pub loop-pc-preserved : goal.loop-pc-preserved
loop-pc-preserved c =
    let start : c.is_flagged-is_start.result ≡ is_start c.args.code.now c.loop-pc.pc = c.is_flagged-is_start.ensures ∙ (ap (λ fs. flag fs c.loop-pc.pc) c.as_slice.ensures.value ∙ c.in_ok-flags.ensures c.loop-pc.pc) in
    pieces c.args.list.now.items _ _ _ c.loop-pc.list.items _
    (c.in_ok-add_made_at.ensures ∙ ap (λ (b : Bool). c.loop-pc.list.items ++ (if b then made_if c.args.pool.now.slots (instruction_at c.args.code.now c.loop-pc.pc) else [])) start)
    c.loop-pc.invariant
    (numbered_more (λ (pc b : ℕ). if is_start c.args.code.now pc then made_if c.args.pool.now.slots (instruction_at c.args.code.now pc) else []) 0 c.args.code.now c.loop-pc.pc 0 _ c.loop-pc.pc (omega arith) refl (omega arith))

pub returns : goal.returns
returns c = c.loop-pc.invariant ∙ ap (λ l. c.args.list.now.items ++ numbered (λ (pc b : ℕ). if is_start c.args.code.now pc then made_if c.args.pool.now.slots (instruction_at c.args.code.now pc) else []) 0 l) (take_all c.loop-pc.pc c.args.code.now (omega arith))
