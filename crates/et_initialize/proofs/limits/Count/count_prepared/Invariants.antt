use Rattle.std.proofs.Common.{◌≡◌, ℕ, true}
use Rattle.std.specs.List.{list_all}
use Rattle.et_event.specs.Moments.{moment, begins}
use Rattle.et_event.specs.Initialization.{is_ready}
use Rattle.et_initialize.specs.Texts.{AreFields, CountedAll}
use Rattle.et_initialize.proofs.Preparing.{pre_first}
use Rattle.et_initialize.proofs.limits.Count.count_prepared.Given as goal

abbrev pub invariant-loop-k : goal.invariant-loop-k
invariant-loop-k l = record {
  within : AreFields l.self.program.now l.seen.items;
  counted : (thread : ℕ) → list_all (is_ready (moment l.self.program.now l.self.machine.now thread) (begins (moment l.self.program.now l.self.machine.now thread))) l.classes ≡ true → CountedAll l.self.program.now l.self.machine.now l.fn.seen.items (begins (moment l.self.program.now l.self.machine.now thread))
      → CountedAll l.self.program.now l.self.machine.now l.seen.items (pre_first (moment l.self.program.now l.self.machine.now thread) (begins (moment l.self.program.now l.self.machine.now thread)) l.classes l.k);
}
