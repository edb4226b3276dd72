use Rattle.std.proofs.Common.{◌≡◌, ◌++◌, None, length}
use Rattle.std.specs.Prelude.{reverse}
use Rattle.et_text.specs.Rules.{AreFine}
use Rattle.et_binary.specs.Packing.{pack}
use Rattle.et_binary.proofs.records.take_records.Given as goal

abbrev pub invariant-records : goal.invariant-records
invariant-records l = record {
  unharmed : l.rules.fault ≡ None;
  fine : AreFine 2 (reverse l.rules.lines);
  parts : pack l.rules.lines ++ l.rest ≡ pack l.fn.rules.lines ++ l.bytes;
}

abbrev pub decreases-records : goal.decreases-records
decreases-records l = length l.rest
