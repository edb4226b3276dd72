use Rattle.std.proofs.Common.{◌≡◌, ◌+◌, ◌-◌, ◌*◌, ◌<◌, ◌≤◌, ◌^◌, ◌++◌, [], length, take, drop, false, None}
use Rattle.std.specs.List.{flat_map}
use Rattle.et_asm.specs.Symbols.{places}
use Rattle.et_asm.specs.Code.{row_bytes}
use Rattle.et_asm.proofs.code.put_rows.Given as goal

abbrev pub invariant-loop-p : goal.invariant-loop-p
invariant-loop-p l = l.out.items ≡ l.initial.out.items ++ flat_map (λ p. row_bytes l.symbols (places l.labels.entries) p.line) (take l.p-index l.body)
