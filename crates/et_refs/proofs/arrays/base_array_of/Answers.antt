use Rattle.std.proofs.Common.{sym, arith}
use Rattle.et_refs.proofs.Bases.{no_base_array}
use Rattle.et_refs.proofs.arrays.base_array_of.Goals as goal

pub returns-else-kind-lt256 : goal.returns-else-kind-lt256
returns-else-kind-lt256 c = sym (no_base_array c.args.program.now c.args.kind c.requires (omega (arith, c.if-kind-lt256.false)))
