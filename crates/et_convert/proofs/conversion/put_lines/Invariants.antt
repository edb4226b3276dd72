use Rattle.std.proofs.Common.{◌≡◌, take}
use Rattle.std.specs.List.{flat_map}
use Rattle.et_io.specs.Sink.{TakesUpTo}
use Rattle.et_convert.specs.Conversions.{converted_line}
use Rattle.et_convert.proofs.conversion.put_lines.Given as goal

abbrev pub invariant-loop-line : goal.invariant-loop-line
invariant-loop-line g l = record {
  taken : TakesUpTo (g.O.Sink.taken l.fn.sink) (g.O.Sink.taken l.sink) (flat_map (converted_line l.format) (take l.line-index l.lines)) l.bytes.items;
  faults : g.O.Sink.faults l.sink ≡ g.O.Sink.faults l.fn.sink;
}
