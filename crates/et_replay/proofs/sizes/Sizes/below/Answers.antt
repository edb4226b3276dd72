use Rattle.std.proofs.Common.{◌≤◌, ◌<◌, ◌∙◌, ℕ, ap, sym, subst, length, get_or, arith}
use Rattle.std.specs.List.Sorted.{IsNonDecreasingBy}
use Rattle.std.proofs.lemmas.List.{get_or_default}
use Rattle.et_replay.specs.Lives.{Sizes, no_size, sum_below}
use Rattle.et_replay.proofs.Adding.{counts_all}
use Rattle.et_replay.proofs.sizes.Sizes.below.Goals as goal

pub returns-then-time-limit-clause-sum : goal.returns-then-time-limit-clause-sum
returns-then-time-limit-clause-sum c =
    let s = c.loop-self.self in
    let same = ap (λ v. v.items) c.loop-self.invariant.same in
    let sorted = subst (λ (t : Sizes). IsNonDecreasingBy (λ (p : ℕ × ℕ). p.0) t) (sym same) c.requires.sorted in
    let stop : s.at < length s.sizes.items → c.args.limit ≤ (get_or s.sizes.items s.at no_size).0 =
    λ lt. subst (λ (p : ℕ × ℕ). c.args.limit ≤ p.0) (c.index.ensures ∙ get_or_default s.sizes.items s.at c.index.result.now no_size lt) c.if-time-limit.true in
    counts_all s.sizes.items s.at s.sum c.args.limit sorted stop c.loop-self.invariant.counts ∙ ap (λ (t : Sizes). sum_below c.args.limit t) same

pub returns-clause-sum : goal.returns-clause-sum
returns-clause-sum c =
    let s = c.loop-self.self in
    let same = ap (λ v. v.items) c.loop-self.invariant.same in
    let sorted = subst (λ (t : Sizes). IsNonDecreasingBy (λ (p : ℕ × ℕ). p.0) t) (sym same) c.requires.sorted in
    let end = c.loop-self-test.false in
    let long = c.len.ensures in
    let stop : s.at < length s.sizes.items → c.args.limit ≤ (get_or s.sizes.items s.at no_size).0 = λ lt. absurd (omega (arith, end, long, lt)) in
    counts_all s.sizes.items s.at s.sum c.args.limit sorted stop c.loop-self.invariant.counts ∙ ap (λ (t : Sizes). sum_below c.args.limit t) same
