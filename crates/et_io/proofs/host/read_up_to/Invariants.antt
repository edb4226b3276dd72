use Rattle.std.proofs.Common.{◌≤◌, length}
use Rattle.et_io.proofs.host.read_up_to.Given as goal

abbrev pub invariant-loop : goal.invariant-loop
invariant-loop g l = length l.bytes.items ≤ l.most
