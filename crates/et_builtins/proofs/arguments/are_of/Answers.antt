use Rattle.std.proofs.Common.{ℕ, eqb, reverse, take, arith, sym, ap, ◌∙◌}
use Rattle.et_state.specs.Words.{top}
use Rattle.et_builtins.proofs.Standing.{length_arguments}
use Rattle.et_builtins.proofs.Passing.{kinds_end, kinds_refused, kinds_more}
use Rattle.et_builtins.proofs.arguments.are_of.Goals as goal

pub returns-in_default : goal.returns-in_default
returns-in_default c =
    kinds_refused c.args.kinds.now (reverse (take c.args.count (top c.args.machine.now.guest c.args.thread).operands)) c.args.from c.loop-kind.kind-index c.loop-kind.at c.loop-kind.invariant (omega arith) c.in_default.ensures

pub loop-kind-preserved : goal.loop-kind-preserved
loop-kind-preserved c =
    kinds_more c.args.kinds.now (reverse (take c.args.count (top c.args.machine.now.guest c.args.thread).operands)) c.args.from c.loop-kind.kind-index c.loop-kind.at c.in-Some.entries c.loop-kind.invariant (omega arith) c.in-Some.ensures

pub returns : goal.returns
returns c =
    let ops = (top c.args.machine.now.guest c.args.thread).operands in
    ap (λ (n : ℕ). eqb c.loop-kind.at n) (sym (length_arguments ops c.args.count c.requires.operands))
    ∙ sym (kinds_end c.args.kinds.now (reverse (take c.args.count ops)) c.args.from c.loop-kind.kind-index c.loop-kind.at c.loop-kind.invariant (omega arith))
