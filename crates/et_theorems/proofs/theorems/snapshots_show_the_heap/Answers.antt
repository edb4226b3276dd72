use Rattle.et_theorems.specs.Runs.{picks_of}
use Rattle.et_theorems.proofs.theorems.snapshots_show_the_heap.Goals as goal

pub returns-clause-objects : goal.returns-clause-objects
returns-clause-objects c r e is le = c.snapshots_show_states.ensures.objects r.reached r.program r.options (picks_of r) e r.last r.end (c.programs_are_linked.ensures.ended r is) le

pub returns-clause-slots : goal.returns-clause-slots
returns-clause-slots c r e o i is le lives = c.snapshots_show_states.ensures.slots r.reached r.program r.options (picks_of r) e r.last o i r.end (c.programs_are_linked.ensures.ended r is) le lives

pub returns-clause-statics : goal.returns-clause-statics
returns-clause-statics c r e i is le other = c.snapshots_show_states.ensures.statics r.reached r.program r.options (picks_of r) e r.last i r.end (c.programs_are_linked.ensures.ended r is) le other

pub returns-clause-out : goal.returns-clause-out
returns-clause-out c r e i is le out = c.snapshots_show_states.ensures.out r.reached r.program r.options (picks_of r) e r.last i r.end (c.programs_are_linked.ensures.ended r is) le out

pub returns-clause-targets : goal.returns-clause-targets
returns-clause-targets c r e o i target is le lives has some = c.snapshots_show_states.ensures.targets r.reached r.program r.options (picks_of r) e r.last o i target r.end (c.programs_are_linked.ensures.ended r is) le lives has some

pub returns-clause-static_targets : goal.returns-clause-static_targets
returns-clause-static_targets c r e i target is le has some = c.snapshots_show_states.ensures.static_targets r.reached r.program r.options (picks_of r) e r.last i target r.end (c.programs_are_linked.ensures.ended r is) le has some
