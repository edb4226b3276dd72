use Rattle.std.proofs.Common.{◌≡◌, ℕ, ◌<◌, List, length, get_or, set, Contains, ◌∙◌, ap, subst, arith}
use mathlib.Core.Logic.{⊎_elim}
use Rattle.std.proofs.lemmas.Bool.{cases_lt}
use Rattle.std.proofs.lemmas.List.{length-set}
use Rattle.et_hierarchy.specs.Links.{LinkEntry, parents_of, parents}
use Rattle.et_hierarchy.proofs.BelowTable.{pushed, push_kept, push_there, push_within, linked_all}
use Rattle.et_hierarchy.proofs.below.link_down.Goals as goal

pub loop-i-preserved : goal.loop-i-preserved
loop-i-preserved c =
    let i : ℕ = c.loop-i.i in
    let p : ℕ = c.parent.result in
    let ps : List ℕ = parents_of c.args.links.now in
    let l : LinkEntry = c.index_mut-list.result.now in
    let below : List LinkEntry = c.loop-i.below.items in
    let lt : i < length ps = omega (arith, c.loop-i-test.true, c.parent_count-i-end.ensures) in
    let inside : p < length below = omega (arith, c.parent.ensures, c.requires i 0 lt, c.loop-i.invariant.long) in
    let is : l ≡ get_or below p l = c.index_mut-list.ensures.value in
    rw (c.in_ok-push.ensures)
    (record {
      long = length-set below p (pushed l c.args.class) ∙ c.loop-i.invariant.long;
      within = λ n less h. push_within below p c.args.class l inside is n less (c.loop-i.invariant.within n less h);
      kept = λ q x d. push_kept below p c.args.class l inside is q x (c.loop-i.invariant.kept q x d);
      linked = λ j less there.
          ⊎_elim
          (λ b. push_kept below p c.args.class l inside is (get_or ps j 0) c.args.class (c.loop-i.invariant.linked j b there))
          (λ g.
          let same : i ≡ j = omega arith in
          let here : p ≡ get_or ps j 0 = c.parent.ensures ∙ ap (λ k. get_or ps k 0) same in
          subst (λ q. Contains (parents (set below p (pushed l c.args.class)) q) c.args.class) here (push_there below p c.args.class l inside is))
          (cases_lt j i);
    })

pub returns-clause-linked : goal.returns-clause-linked
returns-clause-linked c = linked_all c.loop-i.below.items (parents_of c.args.links.now) c.args.class c.loop-i.i (omega (arith, c.loop-i-test.false, c.parent_count-i-end.ensures)) c.loop-i.invariant.linked
