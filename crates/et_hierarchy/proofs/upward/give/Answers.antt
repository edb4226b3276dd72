use Rattle.std.proofs.Common.{◌≡◌, ◌<◌, ℕ, List, Some, length, set, sym, ◌∙◌, ap, subst, arith}
use Rattle.std.specs.List.{slice_index_or}
use Rattle.std.proofs.lemmas.List.{length-set}
use Rattle.et_hierarchy.specs.Links.{LinkEntry}
use Rattle.et_hierarchy.specs.Upward.{LeadsUp, HasListUp, ListsGrow}
use Rattle.et_hierarchy.proofs.OrderParts.{super_read}
use Rattle.et_hierarchy.proofs.UpLemmas.{leads_at, leads_from, up_grow, up_first}
use Rattle.et_hierarchy.proofs.upward.give.Goals as goal

pub loop-i-preserved : goal.loop-i-preserved
loop-i-preserved c =
    let list : List ℕ = c.args.list.now in
    let i : ℕ = c.loop-i.i in
    let lt : i < length list = omega (arith, c.loop-i-test.true, ap length c.as_slice-class-items.ensures) in
    let here : ℕ = slice_index_or list i 0 in
    let read : c.number-in-loop-i.result ≡ here = super_read c.as_slice-class-items.result.now list i c.class-item.result _ c.as_slice-class-items.ensures lt c.class-item.is c.number-in-loop-i.ensures.value in
    let inside : here < length c.loop-i.lists.items = omega (arith, c.requires i 0 lt, c.loop-i.invariant.long) in
    let part : (table : List LinkEntry) (class : ℕ) → LeadsUp table (Some class) list → LeadsUp table (Some here) c.in_ok-lists.field-0 = λ table class up.
    subst (λ (xs : List ℕ). LeadsUp table (Some here) xs) (sym c.in_ok-lists.ensures) (leads_at table (Some class) list i lt up) in
    record {
      long = length-set _ _ _ ∙ c.loop-i.invariant.long;
      grow = λ table class are up.
          subst (λ n. ListsGrow table c.args.lists.now.items (set c.loop-i.lists.items n c.in_ok-lists.field-0)) (sym read)
          (up_grow table c.args.lists.now.items c.loop-i.lists.items here c.in_ok-lists.field-0 (c.loop-i.invariant.grow table class are up) inside (part table class up));
      first = λ table class are up more.
          subst (λ n. HasListUp table (set c.loop-i.lists.items n c.in_ok-lists.field-0) class) (sym read)
          (up_first table c.loop-i.lists.items class here i c.in_ok-lists.field-0 inside (part table class up)
          (λ z. ap (λ n. slice_index_or list n 0) z ∙ leads_from table class list (omega arith) up)
          (c.loop-i.invariant.first table class are up));
    }
