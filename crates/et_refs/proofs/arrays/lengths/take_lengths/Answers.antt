use Rattle.std.proofs.Common.{◌≡◌, ◌+◌, ◌-◌, ◌∷◌, [], ◌++◌, ℕ, ℤ, List, suc, length, drop, reverse, sym, ◌∙◌, ap, arith, rules, w32}
use Rattle.std.proofs.lemmas.List.{reverse-append, length_push}
use Rattle.std.proofs.lemmas.Int.{to_z-of_z}
use mir.Val.{SFits}
use Rattle.et_state.specs.Words.{top}
use Rattle.et_event.specs.Heap.{with_lengths}
use Rattle.et_event.specs.Moments.{ill_typed}
use Rattle.et_refs.proofs.arrays.lengths.take_lengths.Goals as goal

pub returns-in-Err-clause-is : goal.returns-in-Err-clause-is
returns-in-Err-clause-is c =
    let left : ℕ = c.args.count - c.loop-k.k - 1 in
    let all : c.loop-k.k + suc left ≡ c.args.count = omega (arith, c.loop-k-test.true) in
    λ e go. c.loop-k.invariant.is (suc left) all e go ∙ c.in-Err.ensures.is e (λ i below. with_lengths left (i ∷ reverse c.loop-k.lengths.items) (ill_typed e) below go)

pub loop-k-preserved : goal.loop-k-preserved
loop-k-preserved c =
    let xs = c.loop-k.lengths.items in
    let n = c.in-Ok.n in
    let small : SFits w32 n = search rules in
    let pushed : c.push.new.self.items ≡ xs ++ n ∷ [] = c.in_ok-push-in-Ok.ensures.items ∙ ap (λ (z : ℤ). xs ++ z ∷ []) (to_z-of_z w32 n small) in
    let long : length (xs ++ n ∷ []) ≡ length xs + 1 = length_push xs n in
    let count : length xs ≡ c.loop-k.k = c.loop-k.invariant.count in
    let front : reverse c.push.new.self.items ≡ n ∷ reverse xs = ap (λ (ys : List ℤ). reverse ys) pushed ∙ reverse-append xs (n ∷ []) in
    record {
      count = ap (λ (ys : List ℤ). length ys) pushed ∙ omega (arith, long, count);
      deep = omega (arith, c.in-Ok.ensures.deep);
      is = λ left all e go.
          let more : c.loop-k.k + suc left ≡ c.args.count = omega (arith, all) in
          c.loop-k.invariant.is (suc left) more e go ∙ (c.in-Ok.ensures.is e (λ i below. with_lengths left (i ∷ reverse xs) (ill_typed e) below go)
          ∙ ap (λ (ys : List ℤ). with_lengths left ys (ill_typed e) (drop (c.loop-k.k + 1) (top c.args.machine.now.guest c.args.thread).operands) go) (sym front));
    }

pub returns-clause-is : goal.returns-clause-is
returns-clause-is c =
    let xs = c.loop-k.lengths.items in
    let ops = (top c.args.machine.now.guest c.args.thread).operands in
    let at : c.loop-k.k ≡ c.args.count = omega (arith, c.loop-k-test.false, c.loop-k.auto.k-end) in
    let all : c.loop-k.k + 0 ≡ c.args.count = omega (arith, at) in
    λ e go. c.loop-k.invariant.is 0 all e go ∙ (ap (λ (ys : List ℤ). go ys (drop c.loop-k.k ops)) (sym c.reverse.ensures.items) ∙ ap (λ (k : ℕ). go c.reverse.new.self.items (drop k ops)) at)
