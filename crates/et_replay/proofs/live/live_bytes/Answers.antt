use Rattle.std.proofs.Common.{◌≡◌, ◌+◌, ◌^◌, ◌≤◌, ◌∙◌, ℕ, ap, sym, subst, arith, reverse, List}
use Rattle.std.specs.List.{sum_by}
use Rattle.et_base.specs.declared.line.TraceLine.{TraceLine}
use Rattle.et_text.specs.Rules.{AreFine}
use Rattle.et_replay.specs.Lives.{Sizes, born_by, died_by, sum_below}
use Rattle.et_replay.proofs.Counting.{born_small, died_small}
use Rattle.et_replay.proofs.Rows.{IsLeft, left}
use Rattle.et_replay.proofs.live.live_bytes.Goals as goal

abbrev bytes : Sizes → ℕ
bytes sizes = sum_by (λ (p : ℕ × ℕ). p.1) sizes

fine_as : (version : ℕ) (lines trace : List TraceLine) → lines ≡ trace → AreFine version (reverse trace) → AreFine version (reverse lines)
fine_as version lines trace is fine = subst (λ (t : List TraceLine). AreFine version (reverse t)) (sym is) fine

-- what is left of two sums, of which the sizes were put in order
left_of : (version : ℕ) (lines trace : List TraceLine) (e made gone : ℕ) (born died : Sizes) → lines ≡ trace → AreFine version (reverse trace) → e ≤ 2 ^ 40
    → made ≡ sum_below (e + 1) born → gone ≡ sum_below e died → sum_below (e + 1) born ≡ sum_below (e + 1) (born_by (reverse lines)) → sum_below e died ≡ sum_below e (died_by (reverse lines))
    → IsLeft trace e made gone
left_of version lines trace e made gone born died is fine low m g b d =
    subst (λ (t : List TraceLine). IsLeft t e made gone) is (left version lines e made gone (fine_as version lines trace is fine) low (m ∙ b) (g ∙ d))

pub begin-requires : goal.begin-requires
begin-requires c =
    let small = born_small c.lines.ensures.good.version c.lines.result.now (fine_as _ _ _ c.lines.ensures.value c.lines.ensures.good.good.fine) in
    let same = ap bytes c.in_ok-lives.ensures.born in
    record { fits = omega (arith, small, same) }

pub begin-requires-2 : goal.begin-requires-2
begin-requires-2 c =
    let small = died_small c.lines.ensures.good.version c.lines.result.now (fine_as _ _ _ c.lines.ensures.value c.lines.ensures.good.good.fine) in
    let same = ap bytes c.in_ok-lives.ensures.died in
    record { fits = omega (arith, small, same) }

pub overflow_sub-result : goal.overflow_sub-result
overflow_sub-result c =
    (left_of c.lines.ensures.good.version c.lines.result.now c.args.trace.now c.args.event c.below-made.result c.below-gone.result c.in_ok-born.born.sizes.items c.in_ok-died.died.sizes.items c.lines.ensures.value c.lines.ensures.good.good.fine c.requires.event c.below-made.ensures.sum c.below-gone.ensures.sum
    (c.in_ok-born.ensures.same (c.args.event + 1) ∙ ap (λ (t : Sizes). sum_below (c.args.event + 1) t) c.in_ok-lives.ensures.born)
    (c.in_ok-died.ensures.same c.args.event ∙ ap (λ (t : Sizes). sum_below c.args.event t) c.in_ok-lives.ensures.died)).fits

pub returns : goal.returns
returns c =
    (left_of c.lines.ensures.good.version c.lines.result.now c.args.trace.now c.args.event c.below-made.result c.below-gone.result c.in_ok-born.born.sizes.items c.in_ok-died.died.sizes.items c.lines.ensures.value c.lines.ensures.good.good.fine c.requires.event c.below-made.ensures.sum c.below-gone.ensures.sum
    (c.in_ok-born.ensures.same (c.args.event + 1) ∙ ap (λ (t : Sizes). sum_below (c.args.event + 1) t) c.in_ok-lives.ensures.born)
    (c.in_ok-died.ensures.same c.args.event ∙ ap (λ (t : Sizes). sum_below c.args.event t) c.in_ok-lives.ensures.died)).left

pub below-made-requires-clause-counts : goal.below-made-requires-clause-counts
below-made-requires-clause-counts c = c.in_ok-born.ensures.counts (c.args.event + 1)

pub below-gone-requires-clause-counts : goal.below-gone-requires-clause-counts
below-gone-requires-clause-counts c = c.in_ok-died.ensures.counts c.args.event
