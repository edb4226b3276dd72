use Rattle.std.proofs.Common.{◌≡◌, ◌-◌, map}
use Rattle.et_class.specs.Layout.{attribute_of}
use Rattle.et_class.specs.Reading.{attribute_at}
use Rattle.et_class.specs.Reading.{many_at}
use Rattle.et_class.proofs.Counted.{with_front}
use Rattle.et_class.proofs.reading.attributes_from.Given as goal

abbrev pub invariant-loop : goal.invariant-loop
invariant-loop l = with_front (attribute_at l.bytes) (map attribute_of l.attributes.items) (many_at (attribute_at l.bytes) (l.count - l.counter) l.at) ≡ many_at (attribute_at l.bytes) l.count l.start
