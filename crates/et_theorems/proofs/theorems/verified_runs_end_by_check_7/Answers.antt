use Rattle.std.proofs.Common.{◌≡◌, suc, Ok, refl, sym, ◌∙◌, subst}
use Rattle.et_base.specs.declared.value.End.{End}
use Rattle.et_event.specs.Moments.{Moment}
use Rattle.et_event.specs.Start.{start_records}
use Rattle.et_history.specs.Histories.{picked}
use Rattle.et_history.specs.Whole.{whole_start}
use Rattle.et_history.proofs.Wholes.{settled_match}
use Rattle.et_state.specs.History.{IsLastEvent, picked_turn}
use Rattle.et_state.specs.State.{Kept}
use Rattle.et_command.specs.Command.{command}
use Rattle.et_top.specs.Top.{Traces, Verifies, IsAskedDefined}
use Rattle.et_theorems.specs.typings.Refused.{IsRefused}
use Rattle.et_theorems.specs.Runs.{Run, picks_of, setting_of}
use Rattle.et_theorems.proofs.Histories.{history_of}
use Rattle.et_theorems.proofs.Defined.{program_of}
use Rattle.et_theorems.proofs.theorems.verified_runs_end_by_check_7.Goals as goal

-- what the next event is of, by what the machine keeps
abbrev at : Run → Kept → Moment
at r s = record { program = r.program; before = s; thread = picked_turn (picked r.program r.options (picks_of r)) (suc r.last) s }

pub returns-clause-refused : goal.returns-clause-refused
returns-clause-refused c r thread method pc is verified ends_so =
    let ended = c.programs_are_linked.ensures.ended r is in
    let last = subst (λ (end : End). IsLastEvent r.reached (setting_of r) (whole_start r.program) (start_records r.program) r.last end) ends_so is.ends in
    let kept = (c.histories_tell_the_same.ensures.ends r.reached r.program r.options (picks_of r) r.last r.end (history_of r ended)).1 is.ends in
    let refused = c.verified_histories_end_by_check_7.ensures.whole r.reached r.program r.options (picks_of r) r.last thread method pc is.decides (c.programs_are_linked.ensures.tabled r is) (c.programs_are_linked.ensures.linked r is) verified ended.options_are last in
    let same = (settled_match r.reached r.program r.options (picks_of r) (history_of r ended) r.last kept.first).0 in
    subst (λ (s : Kept). IsRefused (at r s)) (sym same) refused

pub returns-clause-verdict : goal.returns-clause-verdict
returns-clause-verdict c r paths words d is trace_is verify_is =
    let mine : IsAskedDefined r.kinds (command words) r.held (Verifies r.program) = subst (λ o. IsAskedDefined r.kinds o r.held (Verifies r.program)) (sym verify_is) (Ok r.program, program_of r.kinds r.held r.program r.options paths (subst (λ o. IsAskedDefined r.kinds o r.held (Traces r.program r.options)) trace_is is.defined), refl) in
    let one = c.one_thing_is_defined.ensures r.kinds words r.held in
    let same : Verifies r.program ≡ one.0 = one.2 (Verifies r.program) mine in
    (λ h. one.2 d h ∙ sym same, λ e. subst (λ x. IsAskedDefined r.kinds (command words) r.held x) (sym e) mine)
