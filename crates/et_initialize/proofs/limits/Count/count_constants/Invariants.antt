use Rattle.std.proofs.Common.{ℕ, take}
use Rattle.std.specs.Prelude.{fold}
use Rattle.et_state.specs.State.{Kept}
use Rattle.et_event.specs.Moments.{Doing}
use Rattle.et_event.specs.Initialization.{field_set}
use Rattle.et_initialize.specs.Texts.{AreFields, Counted}
use Rattle.et_initialize.proofs.limits.Count.count_constants.Given as goal

abbrev pub invariant-loop-k : goal.invariant-loop-k
invariant-loop-k l = record {
  within : AreFields l.self.program.now l.seen.items;
  counted : (before : Kept) (thread : ℕ) (d : Doing) → Counted l.self.program.now l.self.machine.now l.fn.seen.items d
      → Counted l.self.program.now l.self.machine.now l.seen.items (fold (field_set (record { program = l.self.program.now; before = before; thread = thread })) d (take l.k l.constants));
}
