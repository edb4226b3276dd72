use Rattle.std.proofs.Common.{◌≡◌, ◌+◌, ◌-◌, ◌*◌, ◌<◌, ◌≤◌, ◌^◌, ◌++◌, [], length, take, drop, false, None}
use Rattle.std.specs.List.{flat_map}
use Rattle.et_asm.specs.Pool.{entry_bytes}
use Rattle.et_asm.proofs.class.put_pool.Given as goal

abbrev pub invariant-loop-e : goal.invariant-loop-e
invariant-loop-e l = l.out.items ≡ l.initial.out.items ++ flat_map (entry_bytes l.symbols) (take l.e-index l.e-items)
