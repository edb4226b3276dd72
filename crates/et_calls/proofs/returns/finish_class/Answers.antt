use Rattle.std.proofs.Common.{sym, subst}
use Rattle.et_event.specs.Calls.{class_done_by}
use Rattle.et_state.specs.declared.stage.Stage.{Stage}
use Rattle.et_calls.specs.Ways.{Came}
use Rattle.et_calls.proofs.Coming.{came_class}
use Rattle.et_calls.proofs.returns.finish_class.Goals as goal

pub returns-in-Clinit-clause-came : goal.returns-in-Clinit-clause-came
returns-in-Clinit-clause-came c = λ s d came.
    subst (λ (stage : Stage). Came s (class_done_by stage d) c.set_class_state.new.self) (sym c.in-Clinit.is)
    (came_class s d c.args.machine.now c.set_class_state.new.self c.in-Clinit.class came c.set_class_state.ensures)
