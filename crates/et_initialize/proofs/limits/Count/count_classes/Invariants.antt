use Rattle.std.proofs.Common.{ℕ, take}
use Rattle.std.specs.Prelude.{fold}
use Rattle.et_state.specs.State.{Kept}
use Rattle.et_event.specs.Moments.{Doing}
use Rattle.et_initialize.specs.Texts.{AreFields, CountedAll}
use Rattle.et_initialize.proofs.Setting.{done_step}
use Rattle.et_initialize.proofs.limits.Count.count_classes.Given as goal

abbrev pub invariant-loop-k : goal.invariant-loop-k
invariant-loop-k l = record {
  within : AreFields l.self.program.now l.seen.items;
  counted : (before : Kept) (thread : ℕ) (d : Doing) → CountedAll l.self.program.now l.self.machine.now l.fn.seen.items d
      → CountedAll l.self.program.now l.self.machine.now l.seen.items (fold (done_step (record { program = l.self.program.now; before = before; thread = thread })) d (take l.k l.classes));
}
