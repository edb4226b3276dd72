use Rattle.std.proofs.Common.{◌≡◌, ap, ◌∙◌, arith, rules, to_z, of_z}
use Rattle.std.specs.Int.{w32}
use Rattle.et_event.specs.Sites.{target}
use Rattle.et_verify.proofs.Marked.{branch_flagged}
use Rattle.et_verify.proofs.targets.mark_targets.Goals as goal

pub returns-then-is_branch-clause-marked : goal.returns-then-is_branch-clause-marked
returns-then-is_branch-clause-marked c = λ i next.
    let same : to_z w32 (of_z w32 c.in-Ok.instr.first) ≡ c.in-Ok.instr.first = search rules in
    branch_flagged c.mark.new.flags c.args.code.now c.args.pc c.target.result c.in-Ok.instr c.in-Ok.next (search rules) (search rules) (c.target.ensures ∙ ap (target c.args.pc) same) (λ lt. c.mark.ensures.marked (omega (arith, lt, c.mark.auto.flags))) i next
