use Rattle.std.proofs.Common.{ℕ, List, sym, subst}
use Rattle.std.specs.Prelude.{fold}
use Rattle.et_event.specs.Moments.{moment, Doing, begins}
use Rattle.et_event.specs.Initialization.{quietly_done}
use Rattle.et_initialize.specs.Texts.{Counted, CountedAll}
use Rattle.et_initialize.proofs.Setting.{done_step}
use Rattle.et_initialize.proofs.Counting.{counted_none}
use Rattle.et_initialize.proofs.limits.quiet_fits.Goals as goal

pub returns : goal.returns
returns c =
    let p = c.args.program.now in
    let m = c.args.machine.now in
    λ thread.
    let e = moment p m thread in
    let first : CountedAll p m c.new-seen.result.items (begins e) = subst (λ (fs : List ℕ). CountedAll p m fs (begins e)) (sym c.new-seen.ensures.items) (counted_none p m thread c.requires.classes) in
    let x : Doing = quietly_done e c.args.class (begins e) in
    let last : CountedAll p m c.count_classes.new.seen.items x = subst (λ (ks : List ℕ). CountedAll p m c.count_classes.new.seen.items (fold (done_step e) (begins e) ks)) c.init_order.ensures.value (c.in_ok-count_classes.ensures.counted e.before thread (begins e) first) in
    c.seen_fit.ensures x (subst (λ (fs : List ℕ). Counted p m fs x) (sym c.as_slice.ensures.value) last.counted)
