use Rattle.std.proofs.Common.{◌≡◌, ◌-◌}
use Rattle.et_class.specs.Codes.{exception_row_at}
use Rattle.et_class.specs.Reading.{many_at}
use Rattle.et_class.proofs.Counted.{with_front}
use Rattle.et_class.proofs.code.rows_from.Given as goal

abbrev pub invariant-loop : goal.invariant-loop
invariant-loop l = with_front (exception_row_at l.bytes) l.rows.items (many_at (exception_row_at l.bytes) (l.count - l.counter) l.at) ≡ many_at (exception_row_at l.bytes) l.count l.start
