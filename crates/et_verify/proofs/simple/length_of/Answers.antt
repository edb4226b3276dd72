use Rattle.std.proofs.Common.{ℕ, sym, subst}
use Rattle.et_verify.specs.Simple.{IsSimple}
use Rattle.et_verify.proofs.Entries.{simple_at}
use Rattle.et_verify.proofs.simple.length_of.Goals as goal

pub returns : goal.returns
returns c = subst (λ (n : ℕ). IsSimple c.args.opcode n) (sym c.length_in.ensures) (simple_at c.args.opcode c.ranges.opcode.fits)
