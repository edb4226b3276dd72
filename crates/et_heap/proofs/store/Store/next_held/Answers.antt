use Rattle.std.proofs.Common.{◌≡◌, ◌+◌, ◌*◌, ℕ, refl, subst, arith}
use Rattle.et_heap.specs.Stored.{IsNextStored}
use Rattle.et_heap.specs.declared.page.TheConstants.{PAGE_SIZE}
use Rattle.et_heap.proofs.Pages.{found_below, next-found, none-page, none-end}
use Rattle.et_heap.proofs.store.Store.next_held.Goals as goal

pub overflow_mul-k : goal.overflow_mul-k
overflow_mul-k c =
    let below = found_below _ _ c.loop-k.k _ _ c.self.invariant.paged (omega (arith, c.self.inside.pages.ok.0)) c.index.ensures c.in-Some.ensures.some.held in
    omega (arith, below.0)

pub overflow_add-k : goal.overflow_add-k
overflow_add-k c =
    let below = found_below _ _ c.loop-k.k _ _ c.self.invariant.paged (omega (arith, c.self.inside.pages.ok.0)) c.index.ensures c.in-Some.ensures.some.held in
    omega (arith, below.0)

pub overflow_cast-k : goal.overflow_cast-k
overflow_cast-k c =
    let below = found_below _ _ c.loop-k.k _ _ c.self.invariant.paged (omega (arith, c.self.inside.pages.ok.0)) c.index.ensures c.in-Some.ensures.some.held in
    omega (arith, below.0)

pub overflow_add-k-in-Some : goal.overflow_add-k-in-Some
overflow_add-k-in-Some c =
    let below = found_below _ _ c.loop-k.k _ _ c.self.invariant.paged (omega (arith, c.self.inside.pages.ok.0)) c.index.ensures c.in-Some.ensures.some.held in
    omega (arith, below.0)

pub returns-in-Some-clause-some : goal.returns-in-Some-clause-some
returns-in-Some-clause-some c =
    let next = next-found _ _ _ _ c.loop-k.k _ _ _ c.self.view_is c.self.invariant.paged (omega (arith, c.self.inside.pages.ok.0)) c.index.ensures c.loop-k.invariant.reached c.loop-k.invariant.none c.in-Some.ensures.some in
    let e : PAGE_SIZE * c.loop-k.k + c.in-Some.found + 1 ≡ c.new.result = omega (arith, c.new.ensures) in
    subst (λ (o : ℕ). IsNextStored c.args.self.now c.args.from o) e next

pub loop-k-preserved : goal.loop-k-preserved
loop-k-preserved c =
    let short = c.loop-k.invariant.short in
    let reached = c.loop-k.invariant.reached in
    record {
      short = omega arith;
      reached = omega arith;
      none = none-page _ _ _ c.loop-k.k _ _ c.self.invariant.paged c.index.ensures (c.in_default.ensures.none refl) c.loop-k.invariant.none;
    }

pub returns-clause-none : goal.returns-clause-none
returns-clause-none c = λ _ u from held. none-end _ _ _ _ c.loop-k.k _ c.self.view_is c.self.invariant.paged (omega (arith, c.self.inside.pages.ok.0)) c.loop-k.invariant.none u from held
