use Rattle.std.proofs.Common.{◌≡◌, ◌+◌, ◌-◌, ◌*◌, ◌≤◌, ◌++◌, [], length, take, drop, false}
use Rattle.std.specs.List.{flat_map}
use Rattle.et_asm.specs.Pool.{code_entries}
use Rattle.et_asm.specs.Symbols.{entry_added}
use Rattle.et_asm.proofs.uses.add_all_operands.Given as goal

abbrev pub invariant-loop-p : goal.invariant-loop-p
invariant-loop-p l = l.pool.keys ≡ entry_added l.initial.pool.keys (flat_map (λ p. code_entries p.line) (take l.p-index l.body))
