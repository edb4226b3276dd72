use Rattle.std.proofs.Common.{◌≡◌, ◌-◌}
use Rattle.std.specs.Int.{w16}
use Rattle.et_class.specs.Reading.{number_read}
use Rattle.et_class.specs.Reading.{many_at}
use Rattle.et_class.proofs.Counted.{with_front}
use Rattle.et_class.proofs.header.indices_from.Given as goal

abbrev pub invariant-loop : goal.invariant-loop
invariant-loop l = with_front (number_read w16 l.bytes) l.indices.items (many_at (number_read w16 l.bytes) (l.count - l.counter) l.at) ≡ many_at (number_read w16 l.bytes) l.count l.start
