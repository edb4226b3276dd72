use Rattle.std.proofs.Common.{◌≡◌, take, []}
use Rattle.et_asm.specs.Order.{stage_of}
use Rattle.et_asm.specs.Pool.{line_uses, uses}
use Rattle.et_asm.specs.Symbols.{entry_added}
use Rattle.et_asm.proofs.Taken.{left}
use Rattle.et_asm.proofs.uses.pool.Given as goal

abbrev pub invariant-loop-i : goal.invariant-loop-i
invariant-loop-i l = record {
  stage : l.stage ≡ stage_of (take l.i l.lines);
  keys : entry_added l.pool.keys (left line_uses l.lines l.i) ≡ entry_added [] (uses l.lines);
}
