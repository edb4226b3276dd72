use Rattle.std.proofs.Common.{rules}
use Rattle.et_io.proofs.Counting.{no_more_faults}
use Rattle.et_io.proofs.calls.CallBook.next_call.Goals as goal

pub invariant_of-self : goal.invariant_of-self
invariant_of-self c = record {
  made_fits = search rules;
  below = c.self.invariant.below;
  no_more = no_more_faults (record { made = c.self.inside.made; failing = c.self.inside.failing.keys; faults = c.self.inside.faults }) _ _ c.self.invariant (search rules) (search rules);
}
