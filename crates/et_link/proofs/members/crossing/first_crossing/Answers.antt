use Rattle.std.proofs.Common.{◌≡◌, ◌∙◌, ◌+◌, ℕ, Bool, ap, subst, cond, Some, arith, length}
use Rattle.et_link.specs.Crossing.{crosses, AnswersLeast, lesser}
use Rattle.et_link.proofs.CrossLemmas.{least_more, least_of}
use Rattle.et_link.proofs.members.crossing.first_crossing.Goals as goal

pub loop-method-preserved : goal.loop-method-preserved
loop-method-preserved c =
    let test = crosses c.args.set.now c.args.rows.now c.args.methods.now in
    let m = c.method-item.result in
    let e : c.with_class-found.result ≡ cond (test m) (Some (lesser c.loop-method.found m.class)) c.loop-method.found =
    c.with_class-found.ensures ∙ (ap (λ (b : Bool). cond b (Some (lesser c.loop-method.found c.number.result)) c.loop-method.found) c.crosses-counts.ensures
    ∙ ap (λ k. cond (test m) (Some (lesser c.loop-method.found k)) c.loop-method.found) c.number.ensures.value) in
    least_of test c.args.methods.now (c.loop-method.method-index + 1) _ _ e (least_more test c.args.methods.now c.loop-method.method-index c.loop-method.found m c.loop-method.invariant (omega arith) c.method-item.is)

pub returns : goal.returns
returns c =
    let n : c.loop-method.method-index ≡ length c.args.methods.now = omega arith in
    subst (λ (k : ℕ). AnswersLeast (crosses c.args.set.now c.args.rows.now c.args.methods.now) c.args.methods.now k c.loop-method.found) n c.loop-method.invariant
