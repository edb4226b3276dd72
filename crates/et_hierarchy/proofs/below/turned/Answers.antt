use Rattle.std.proofs.Common.{◌≡◌, ℕ, ◌<◌, length, Contains, sym, ◌∙◌, subst, arith}
use mathlib.Core.Logic.{⊎_elim}
use Rattle.std.proofs.lemmas.Bool.{cases_lt}
use Rattle.et_hierarchy.specs.Links.{parents}
use Rattle.et_hierarchy.proofs.Marks.{read_links}
use Rattle.et_hierarchy.proofs.BelowTable.{parents_past}
use Rattle.et_hierarchy.proofs.below.turned.Goals as goal

pub loop-k-preserved : goal.loop-k-preserved
loop-k-preserved c =
    let k : ℕ = c.loop-k.k in
    let lt : k < length c.args.table.now = omega (arith, c.loop-k-test.true) in
    let right = read_links c.args.table.now k c.index-table-k.result lt c.index-table-k.is in
    record {
      long = c.link_down.ensures.length ∙ c.loop-k.invariant.long;
      within = c.in_ok-link_down.ensures.within (length c.args.table.now) lt c.loop-k.invariant.within;
      turned = λ x p less d.
          ⊎_elim
          (λ b. c.in_ok-link_down.ensures.kept p x (c.loop-k.invariant.turned x p b d))
          (λ g.
          let same : k ≡ x = omega arith in
          subst (λ y. Contains (parents c.link_down.new.below.items p) y) same (c.in_ok-link_down.ensures.linked p (subst (λ ps. Contains ps p) right (subst (λ y. Contains (parents c.args.table.now y) p) (sym same) d))))
          (cases_lt x k);
    }

pub returns-clause-turned : goal.returns-clause-turned
returns-clause-turned c = λ x p d. c.loop-k.invariant.turned x p (omega (arith, parents_past c.args.table.now x p d, c.loop-k-test.false)) d
