use Rattle.std.proofs.Common.{◌<◌, ◌≤◌, sym, subst, arith, rules, tests}
use Rattle.et_heap.specs.Stored.{is_stored}
use Rattle.et_heap.proofs.Pages.{number_positive, number_within, page_of-within, at-number}
use Rattle.et_heap.proofs.store.Store.is_held.Goals as goal
use Rattle.et_heap.proofs.store.Store.is_held.Goals.{then-number-gt0, else-number-gt0}

pub index-requires : goal.index-requires
index-requires c =
    let some : 0 < c.args.o = elim c.if-number-gt0.branch [ then-number-gt0 w ↦ search (rules, tests) | else-number-gt0 w ↦ search (rules, tests) ] in
    let most : c.args.o ≤ c.self.inside.made = elim c.if-number-gt0.branch [ then-number-gt0 w ↦ search (rules, tests) | else-number-gt0 w ↦ search (rules, tests) ] in
    omega (arith, c.self.inside.pages.ok.0, page_of-within _ _ _ _ c.self.invariant.paged some most c.page_of.ensures)

pub returns-then-number-self : goal.returns-then-number-self
returns-then-number-self c =
    let some : 0 < c.args.o = elim c.if-number-gt0.branch [ then-number-gt0 w ↦ search (rules, tests) | else-number-gt0 w ↦ search (rules, tests) ] in
    let most : c.args.o ≤ c.self.inside.made = elim c.if-number-gt0.branch [ then-number-gt0 w ↦ search (rules, tests) | else-number-gt0 w ↦ search (rules, tests) ] in
    let is = at-number _ _ _ _ _ _ _ c.self.view_is c.self.invariant.paged some most c.page_of.ensures c.place_of.ensures c.index.ensures in
    (λ t. subst is_stored (sym is) (c.is_held.ensures.0 t), λ held. c.is_held.ensures.1 (subst is_stored is held))

pub returns-else-number-self : goal.returns-else-number-self
returns-else-number-self c = (
  λ t. search (rules, tests),
  λ held.
      let some = number_positive _ c.self.inside.pages.items _ c.self.view_is held in
      let most = number_within _ c.self.inside.pages.items _ _ c.self.view_is c.self.invariant.paged held in
      absurd (elim c.if-number-gt0.branch [ then-number-gt0 w ↦ search (rules, tests) | else-number-gt0 w ↦ search (rules, tests) ]),
)
