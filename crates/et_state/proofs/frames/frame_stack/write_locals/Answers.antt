use Rattle.std.proofs.Common.{◌≡◌, ℕ, ◌+◌, ◌-◌, ◌++◌, length, take, drop, replicate, ap, ◌∙◌, arith}
use Rattle.std.proofs.lemmas.List.{length-take, length-drop}
use Rattle.et_base.specs.declared.value.Value.TheVariants.{Unset}
use Rattle.et_state.proofs.Stacks.{parts_written}
use Rattle.et_state.proofs.frames.frame_stack.write_locals.Goals as goal

pub returns-clause-items : goal.returns-clause-items
returns-clause-items c =
    let e : ℕ = c.args.base + length c.args.arguments.now in
    let k : ℕ = c.args.base + c.args.locals in
    let ws = c.deref_mut-2.result.now in
    let all : length (take (k - e) (drop e ws)) ≡ k - e = omega (arith, c.requires.arguments, c.requires.room, length-take (k - e) (drop e ws), length-drop e ws, c.deref_mut-2.ensures.len) in
    let long : length c.fill.new.self ≡ k - e = c.fill.ensures.len ∙ all in
    let count : k - e ≡ c.args.locals - length c.args.arguments.now = omega arith in
    let filled : c.fill.new.self ≡ replicate (c.args.locals - length c.args.arguments.now) Unset = c.fill.ensures.after (λ y same. same) ∙ ap (λ j. replicate j Unset) (all ∙ count) in
    parts_written c.args.base e k c.args.values.now.len c.args.values.now.items c.deref_mut.result.now c.copy_from_slice.new.self ws c.fill.new.self _ _ (omega arith) (omega (arith, c.requires.arguments)) c.requires.room (omega (arith, c.deref_mut.ensures.len, ap length c.deref_mut.ensures.value)) c.deref_mut.ensures.value (omega (arith, ap length c.copy_from_slice.ensures.after)) long c.deref_mut-2.ensures.value
    ∙ (ap (λ ys. take c.args.base c.args.values.now.items ++ (ys ++ c.fill.new.self)) c.copy_from_slice.ensures.after ∙ ap (λ ys. take c.args.base c.args.values.now.items ++ (c.args.arguments.now ++ ys)) filled)
