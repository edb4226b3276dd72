use Rattle.std.proofs.Common.{◌≡◌, ℕ, ◌<◌, ◌≤◌, true, false, List, length, take, filter, get_or, sym, ap, subst, ◌∙◌, arith}
use Rattle.std.proofs.lemmas.List.{take_all}
use Rattle.std.specs.Prelude.{is_some, IsSome}
use Rattle.et_program.specs.Entries.{method_at}
use Rattle.et_program.specs.declared.info.MethodInfo.{MethodInfo}
use Rattle.et_verify.specs.Typings.{HasTyping}
use Rattle.et_verify.specs.Verdicts.{IsFirstRejected}
use Rattle.et_verify.proofs.Verified.{has_code, next_seen, all_seen, rejected_here, room_left, next_counted}
use Rattle.et_verify.proofs.verdict.verify.Goals as goal
use Rattle.et_verify.proofs.verdict.verify.Goals.{then-is_some, else-is_some}

pub returns-then-not-branch-clause-verdict : goal.returns-then-not-branch-clause-verdict
returns-then-not-branch-clause-verdict c =
    let p = c.args.program.now in
    let n : ℕ = c.loop-method.method-index in
    let r : ℕ = c.method-item.result in
    let at : get_or p.file_methods n r ≡ r = sym (c.method-item.is ∙ ap (λ (xs : List ℕ). get_or xs n r) c.file_methods-methods.ensures.value) in
    let lt : n < length p.file_methods = subst (λ (xs : List ℕ). n < length xs) c.file_methods-methods.ensures.value c.loop-method-test.true in
    subst (λ (k : ℕ). IsFirstRejected p k) at
    (rejected_here p n r lt c.loop-method.invariant.seen
    (subst (λ (k : ℕ). IsSome (method_at p k).code) (sym at) (c.in_ok-has_typing.ensures.code c.if-not-branch.true))
    (λ h. c.in_ok-has_typing.ensures.no c.if-not-branch.true (subst (λ (k : ℕ). HasTyping p k) at h)))

pub overflow_add-count : goal.overflow_add-count
overflow_add-count c =
    let p = c.args.program.now in
    let n : ℕ = c.loop-method.method-index in
    let lt : n < length p.file_methods = subst (λ (xs : List ℕ). n < length xs) c.file_methods-methods.ensures.value c.loop-method-test.true in
    omega (arith, c.loop-method.invariant.count, room_left p n c.is_linked.ensures.tabled c.is_linked.ensures.linked lt)

pub loop-method-preserved : goal.loop-method-preserved
loop-method-preserved c =
    let p = c.args.program.now in
    let n : ℕ = c.loop-method.method-index in
    let r : ℕ = c.method-item.result in
    let at : get_or p.file_methods n r ≡ r = sym (c.method-item.is ∙ ap (λ (xs : List ℕ). get_or xs n r) c.file_methods-methods.ensures.value) in
    let lt : n < length p.file_methods = subst (λ (xs : List ℕ). n < length xs) c.file_methods-methods.ensures.value c.loop-method-test.true in
    let some : has_code p (get_or p.file_methods n r) ≡ c.is_some.result = ap (has_code p) at ∙ sym (c.is_some.ensures ∙ ap (λ (x : MethodInfo). is_some x.code) c.method.ensures.value) in
    record {
      seen = next_seen p n r lt c.loop-method.invariant.seen (subst (λ (k : ℕ). HasTyping p k) (sym at) (c.in_ok-has_typing.ensures.yes c.if-not-branch.false));
      count = elim c.if-is_some.branch [
        | then-is_some w ↦ omega (arith, w.count-is, c.loop-method.invariant.count, next_counted p n r true lt (some ∙ w.if-is_some.true))
        | else-is_some w ↦ omega (arith, w.count-is, c.loop-method.invariant.count, next_counted p n r false lt (some ∙ w.if-is_some.false))
      ];
    }

pub returns-clause-verdict : goal.returns-clause-verdict
returns-clause-verdict c =
    let p = c.args.program.now in
    let n : ℕ = c.loop-method.method-index in
    let le : length p.file_methods ≤ n = omega (arith, c.loop-method-test.false, ap length c.file_methods-methods.ensures.value) in
    let all : take n p.file_methods ≡ p.file_methods = take_all n p.file_methods le in
    (all_seen p n all c.loop-method.invariant.seen, c.loop-method.invariant.count ∙ ap (λ (ms : List ℕ). length (filter (has_code p) ms)) all)
