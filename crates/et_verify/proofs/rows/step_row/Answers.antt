use Rattle.std.proofs.Common.{◌≡◌, Some, sym, ap, subst}
use Rattle.et_event.specs.declared.rows.Row.{Row}
use Rattle.et_event.specs.Places.{is_frame}
use Rattle.et_verify.specs.Steps.{operands_after, locals_after}
use Rattle.et_verify.proofs.rows.step_row.Goals as goal

pub step_heap-requires : goal.step_heap-requires
step_heap-requires c = record { index = c.requires.index (ap is_frame c.in-Heap.is); class = c.requires.class; pool = c.requires.pool }

pub returns-in_ok-done-in-Frame-clause-done : goal.returns-in_ok-done-in-Frame-clause-done
returns-in_ok-done-in-Frame-clause-done c = λ bytes r e.
    subst (λ (row : Row). (operands_after bytes c.args.place.now.site row c.args.types.now.operands ≡ Some c.step_frame.new.types.operands) × (locals_after c.args.place.now.site row c.args.types.now.locals ≡ Some c.step_frame.new.types.locals))
    (sym c.in-Frame.is) (c.in_ok-done-in-Frame.ensures.done c.args.place.now.site bytes (sym c.instr.ensures) e)
