use Rattle.std.proofs.Common.{◌≡◌, ◌-◌}
use Rattle.et_text.specs.Reading.{name_bytes_at}
use Rattle.et_text.proofs.Loop.{with_front}
use Rattle.et_text.proofs.reading.bytes_at.Given as goal

abbrev pub invariant-bytes : goal.invariant-bytes
invariant-bytes l = with_front l.name (name_bytes_at (l.count - l.counter) l.rest) ≡ name_bytes_at l.count l.bytes
