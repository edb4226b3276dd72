use Rattle.std.proofs.Common.{◌≡◌, ◌++◌, take}
use Rattle.et_text.specs.Spelling.{escapes}
use Rattle.et_text.proofs.writing.put_bytes.Given as goal

abbrev pub invariant-loop-byte : goal.invariant-loop-byte
invariant-loop-byte l = l.buffer.items ≡ l.fn.buffer.items ++ escapes (take l.byte-index l.name)
