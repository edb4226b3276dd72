use Rattle.std.proofs.Common.{◌≡◌, ℕ, ◌<◌, ◌≤◌, ◌↔◌, Some, sym, subst, arith}
use Rattle.et_history.specs.Histories.{HistoryComesTo, times_held}
use Rattle.et_history.specs.Histories as histories
use Rattle.et_history.specs.soundness.WellFormed.{IsThere}
use Rattle.et_state.specs.State.{Kept}
use Rattle.et_history.specs.steps.Holding.{monitor_in}
use Rattle.et_theorems.specs.Runs.{Run, IsTraced, picks_of, state_at}
use Rattle.et_theorems.proofs.Histories.{history_of}
use Rattle.et_theorems.proofs.theorems.monitors_are_held_by_one.Goals as goal

goes : (c : goal.After-histories_tell_the_same) (r : Run) (e : ℕ) → IsTraced r → e ≤ r.last → HistoryComesTo r.reached r.program r.options (picks_of r) e
goes c r e is le k lt =
    let ended = c.programs_are_linked.ensures.ended r is in
    ((c.histories_tell_the_same.ensures.ends r.reached r.program r.options (picks_of r) r.last r.end (history_of r ended)).1 is.ends).first k (omega (arith, lt, le))

-- what a machine keeps is what is not reported
kept : (c : goal.After-histories_tell_the_same) (r : Run) (e : ℕ) → IsTraced r → e ≤ r.last → (state_at r e).kept ≡ histories.state_at r.reached r.program r.options (picks_of r) e
kept c r e is le =
    let ended = c.programs_are_linked.ensures.ended r is in
    (c.histories_tell_the_same.ensures.same r.reached r.program r.options (picks_of r) e (history_of r ended) (goes c r e is le)).kept

pub returns-clause-one : goal.returns-clause-one
returns-clause-one c r e lock t u is le =
    let ended = c.programs_are_linked.ensures.ended r is in
    c.monitors_exclude.ensures.one r.reached r.program r.options (picks_of r) e lock t u (history_of r ended) (goes c r e is le)

pub returns-clause-owner : goal.returns-clause-owner
returns-clause-owner c r e lock t is le =
    let ended = c.programs_are_linked.ensures.ended r is in
    subst (λ (s : Kept). IsThere s lock → ((monitor_in s lock).owner ≡ Some t) ↔ (0 < times_held r.reached r.program r.options (picks_of r) t lock e)) (sym (kept c r e is le))
    (c.monitors_exclude.ensures.owner r.reached r.program r.options (picks_of r) e lock t (history_of r ended) (goes c r e is le))

pub returns-clause-count : goal.returns-clause-count
returns-clause-count c r e lock t is le =
    let ended = c.programs_are_linked.ensures.ended r is in
    subst (λ (s : Kept). IsThere s lock → (monitor_in s lock).owner ≡ Some t → (monitor_in s lock).count ≡ times_held r.reached r.program r.options (picks_of r) t lock e) (sym (kept c r e is le))
    (c.monitors_exclude.ensures.count r.reached r.program r.options (picks_of r) e lock t (history_of r ended) (goes c r e is le))
