use Rattle.std.proofs.Common.{◌≡◌, ◌++◌, drop}
use Rattle.et_program.specs.Slots.{is_static_field, places_from}
use Rattle.et_link.proofs.members.slots.static_fields.Given as goal

abbrev pub invariant-loop-i : goal.invariant-loop-i
invariant-loop-i l = l.statics.items ++ places_from is_static_field l.i (drop l.i l.fields) ≡ places_from is_static_field 0 l.fields
