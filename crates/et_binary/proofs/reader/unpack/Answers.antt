use Rattle.std.proofs.Common.{◌++◌, subst, ◌∙◌, List, ℕ, arith}
use Rattle.et_binary.specs.Unpacking.{TakesAll}
use Rattle.et_binary.proofs.Portions.{still_held}
use Rattle.et_binary.proofs.reader.unpack.Goals as goal

pub returns-else-left-len-clause-ok : goal.returns-else-left-len-clause-ok
returns-else-left-len-clause-ok c =
    let held = c.in_ok-extend_from_slice-2.ensures.items in
    let taken = subst (λ (b : List ℕ). TakesAll c.args.rules.now c.take_all-2.new.rules c.args.opened c.in_ok-opens-2.opens b c.in_ok-opens-2.left.now) (c.as_slice.ensures.value ∙ held) c.in_ok-opens-2.ensures.ok in
    still_held c.args.rules.now c.take_all-2.new.rules c.args.opened c.in_ok-opens-2.opens (c.args.held.now.items ++ c.args.piece.now) c.in_ok-opens-2.left.now c.extend_from_slice-2.new.self.items taken held (omega (arith, c.if-left-len.false, c.len.ensures, c.extend_from_slice-2.new.self.ok.0))
