use Rattle.std.proofs.Common.{ℕ, List, sym, subst}
use Rattle.et_event.specs.Moments.{moment, Doing, begins}
use Rattle.et_event.specs.Initialization.{prepared}
use Rattle.et_initialize.specs.Texts.{Counted, CountedAll}
use Rattle.et_initialize.proofs.Counting.{counted_none}
use Rattle.et_initialize.proofs.limits.prepared_fit.Goals as goal

pub returns : goal.returns
returns c =
    let p = c.args.program.now in
    let m = c.args.machine.now in
    λ thread ready.
    let e = moment p m thread in
    let last = c.in_ok-count_prepared.ensures.counted thread ready (subst (λ (fs : List ℕ). CountedAll p m fs (begins e)) (sym c.new-seen.ensures.items) (counted_none p m thread c.requires.classes)) in
    let x : Doing = prepared e c.args.classes.now (begins e) in
    c.seen_fit.ensures x (subst (λ (fs : List ℕ). Counted p m fs x) (sym c.as_slice.ensures.value) last.counted)
