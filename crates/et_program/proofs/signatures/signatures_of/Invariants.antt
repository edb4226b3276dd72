use Rattle.std.proofs.Common.{◌≡◌, map, take}
use Rattle.et_program.specs.Order.{method_key}
use Rattle.et_program.specs.Signatures.{signature_of}
use Rattle.et_program.proofs.signatures.signatures_of.Given as goal

abbrev pub invariant-loop-method : goal.invariant-loop-method
invariant-loop-method l = l.signatures.items ≡ map (signature_of (map method_key l.methods) l.order.entries.items l.classes) (take l.method-index l.methods)
