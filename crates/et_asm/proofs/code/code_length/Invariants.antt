use Rattle.std.proofs.Common.{◌≡◌, take}
use Rattle.et_asm.specs.Code.{place_behind}
use Rattle.et_asm.proofs.code.code_length.Given as goal

abbrev pub invariant-loop-p : goal.invariant-loop-p
invariant-loop-p l = l.at ≡ place_behind l.symbols (take l.p-index l.body)
