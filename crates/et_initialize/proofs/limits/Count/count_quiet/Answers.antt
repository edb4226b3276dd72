use Rattle.std.proofs.Common.{ℕ, List, sym, subst, ◌∙◌}
use Rattle.std.specs.Prelude.{fold}
use Rattle.et_event.specs.Moments.{Moment}
use Rattle.et_initialize.specs.Texts.{CountedAll}
use Rattle.et_initialize.proofs.Setting.{done_step}
use Rattle.et_initialize.proofs.Counting.{on_ok}
use Rattle.et_initialize.proofs.limits.Count.count_quiet.Goals as goal

pub returns-in-Untouched-clause-counted : goal.returns-in-Untouched-clause-counted
returns-in-Untouched-clause-counted c =
    on_ok c.count_classes.result (λ count un before thread d h.
    let e : Moment = record { program = c.args.self.now.program.now; before = before; thread = thread } in
    subst (λ (ks : List ℕ). CountedAll c.args.self.now.program.now c.args.self.now.machine.now c.count_classes.new.seen.items (fold (done_step e) d ks)) c.init_order.ensures.value (count before thread d h)) c.count_classes.ensures.counted

pub returns-in-Untouched-clause-other : goal.returns-in-Untouched-clause-other
returns-in-Untouched-clause-other c =
    on_ok c.count_classes.result (λ count apart. absurd (apart (sym c.class_state.ensures ∙ c.in-Untouched.is))) c.count_classes.ensures.counted
