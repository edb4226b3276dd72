use Rattle.std.proofs.Common.{◌≡◌, ◌≤◌, ◌-◌, length, drop}
use Rattle.et_program.specs.ArrayTypes.{with_element_types, names_added}
use Rattle.et_link.specs.Naming.{AreIndexed}
use Rattle.et_link.proofs.names.ArrayNames.add_with_elements.Given as goal

abbrev pub invariant-loop-at : goal.invariant-loop-at
invariant-loop-at l = record {
  within : l.at ≤ length l.name;
  first : l.self.first ≡ l.initial.self.first;
  names : names_added l.self.names.items (with_element_types (drop l.at l.name)) ≡ names_added l.initial.self.names.items (with_element_types l.name);
  index : AreIndexed l.self;
}

abbrev pub decreases-loop-at : goal.decreases-loop-at
decreases-loop-at l = length l.name - l.at
