use Rattle.std.proofs.Common.{◌≡◌, ◌++◌, take}
use Rattle.et_asm.specs.Code.{place_behind, encoded_at, code_bytes}
use Rattle.et_asm.specs.Symbols.{places}
use Rattle.et_asm.proofs.Taken.{left}
use Rattle.et_asm.proofs.code.put_code.Given as goal

abbrev pub invariant-loop-p : goal.invariant-loop-p
invariant-loop-p l = record {
  at : l.at ≡ place_behind l.symbols (take l.p-index l.body);
  put : l.out.items ++ left (encoded_at l.symbols (places l.labels.entries)) l.body l.p-index ≡ l.initial.out.items ++ code_bytes l.symbols (places l.labels.entries) l.body;
}
