use Rattle.std.proofs.Common.{sym, ◌∙◌}
use Rattle.et_initialize.proofs.Counting.{on_ok, counted_class}
use Rattle.et_initialize.proofs.limits.Count.count_class.Goals as goal

pub returns-in-Untouched-clause-counted : goal.returns-in-Untouched-clause-counted
returns-in-Untouched-clause-counted c =
    on_ok c.count_constants.result (λ count before thread d h.
    counted_class c.args.self.now.machine.now c.args.seen.now.items c.count_constants.new.seen.items (record { program = c.args.self.now.program.now; before = before; thread = thread }) c.args.class d c.requires.class
    (sym c.class_state.ensures ∙ c.in-Untouched.is) (λ x k. count before thread x k) h) c.count_constants.ensures.counted
