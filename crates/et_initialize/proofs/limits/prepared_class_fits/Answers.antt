use Rattle.std.proofs.Common.{ℕ, List, sym, subst, ◌∙◌}
use Rattle.et_event.specs.Moments.{moment, Doing, begins}
use Rattle.et_event.specs.Initialization.{prepared, constants_set, with_state}
use Rattle.et_initialize.specs.Texts.{Counted, CountedAll}
use Rattle.et_initialize.proofs.Counting.{counted_none, counted_marked, room_fits}
use Rattle.et_initialize.proofs.limits.prepared_class_fits.Goals as goal

pub returns : goal.returns
returns c =
    let p = c.args.program.now in
    let m = c.args.machine.now in
    λ thread ready state.
    let e = moment p m thread in
    let before = c.in_ok-count_prepared.ensures.counted thread ready (subst (λ (fs : List ℕ). CountedAll p m fs (begins e)) (sym c.new-seen.ensures.items) (counted_none p m thread c.requires.classes)) in
    let y : Doing = with_state c.args.class state (prepared e c.args.classes.now (begins e)) in
    let x : Doing = constants_set e c.args.class y in
    let last = c.in_ok-count_constants.ensures.counted e.before thread y (counted_marked p m c.count_prepared.new.seen.items c.args.class state (prepared e c.args.classes.now (begins e)) before.counted) in
    c.seen_fit.ensures x (subst (λ (fs : List ℕ). Counted p m fs x) (sym c.as_slice.ensures.value) last) ∙ room_fits x.state.heap
