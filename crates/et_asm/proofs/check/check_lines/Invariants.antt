use Rattle.std.proofs.Common.{◌≡◌, ◌≤◌, take, None}
use Rattle.et_base.specs.Marks.{first_from}
use Rattle.et_asm.specs.Along.{along_lines}
use Rattle.et_asm.specs.Order.{stage_of}
use Rattle.et_asm.specs.Listings.{count, is_interface_line, is_field_line, is_method_line, line_marks}
use Rattle.et_asm.proofs.Taken.{left}
use Rattle.et_asm.proofs.check.check_lines.Given as goal

abbrev pub invariant-loop-i : goal.invariant-loop-i
invariant-loop-i l = record {
  found : first_from l.found (left (line_marks l.symbols) l.lines l.i) ≡ first_from None (along_lines (line_marks l.symbols) l.lines);
  stage : l.stage ≡ stage_of (take l.i l.lines);
  interfaces : l.counts.interfaces ≡ count is_interface_line (take l.i l.lines);
  fields : l.counts.fields ≡ count is_field_line (take l.i l.lines);
  methods : l.counts.methods ≡ count is_method_line (take l.i l.lines);
  few_interfaces : l.counts.interfaces ≤ l.i;
  few_fields : l.counts.fields ≤ l.i;
  few_methods : l.counts.methods ≤ l.i;
}
