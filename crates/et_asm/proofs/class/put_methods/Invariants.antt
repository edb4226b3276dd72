use Rattle.std.proofs.Common.{◌≡◌, ◌++◌, take}
use Rattle.et_asm.specs.Order.{stage_of}
use Rattle.et_asm.specs.Listings.{method_bytes_at, methods_bytes}
use Rattle.et_asm.proofs.Taken.{left}
use Rattle.et_asm.proofs.class.put_methods.Given as goal

abbrev pub invariant-loop-i : goal.invariant-loop-i
invariant-loop-i l = record {
  stage : l.stage ≡ stage_of (take l.i l.lines);
  put : l.out.items ++ left (method_bytes_at l.symbols) l.lines l.i ≡ l.initial.out.items ++ methods_bytes l.symbols l.lines;
}
