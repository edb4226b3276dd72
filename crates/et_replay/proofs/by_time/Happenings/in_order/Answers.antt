use Rattle.std.proofs.Common.{◌++◌, ◌≡◌, ◌∙◌, List, length, ap, subst, arith, rules, reverse}
use Rattle.std.specs.List.{filter_map}
use Rattle.std.specs.List.Sorted.{IsPermutation, IsStableByKey}
use Rattle.std.specs.Ordering.{nat_cmp}
use Rattle.std.proofs.lemmas.List.{reverse-reverse}
use Rattle.std.proofs.lemmas.List.Sorted.{IsNonDecreasingBy-from_sort_by_key, answers_always}
use Rattle.et_base.specs.declared.line.TraceLine.{TraceLine}
use Rattle.et_replay.specs.declared.by_time.Happenings.{Happenings}
use Rattle.et_replay.specs.declared.item.Item.{Item}
use Rattle.et_replay.specs.Kept.{AreHappenings}
use Rattle.et_replay.specs.Parts.{item_of, item_event, deaths_from}
use Rattle.et_replay.proofs.Living.{lives}
use Rattle.et_replay.proofs.Timing.{unordered, sort_orders, are_timeline, makes_in_order}
use Rattle.et_replay.proofs.by_time.Happenings.in_order.Goals as goal

pub push_deaths-requires : goal.push_deaths-requires
push_deaths-requires c =
    let r = c.requires in
    let l = lives r.1.version (reverse r.0) r.1.good.fine in
    let few = l.few in
    let as_many = l.as_many in
    let long = ap (λ t. length t) (c.deref.ensures.value ∙ r.2.died) in
    omega (arith, long, few, as_many)

-- the items with the deaths behind them
all_of : (lines : List TraceLine) (kept : Happenings) (items : List Item) (died : _) → AreHappenings kept (reverse lines) → died ≡ kept.lives.died.items → items ≡ kept.items.items ++ deaths_from 0 died → items ≡ unordered lines
all_of lines kept items died h d e =
    e
    ∙ (ap (λ (t : List Item). t ++ deaths_from 0 died) (h.items ∙ ap (λ (t : List TraceLine). filter_map item_of t) (reverse-reverse lines))
    ∙ ap (λ t. filter_map item_of lines ++ deaths_from 0 t) (d ∙ h.died))

pub of-requires : goal.of-requires
of-requires c =
    let r = c.requires in
    let lines = r.0 in
    let xs = c.sort_by_key.new.self.items in
    let all = all_of lines c.args.self c.push_deaths.new.items.items c.deref.result.now r.2 c.deref.ensures.value c.in_ok-push_deaths.ensures in
    let sorted = IsNonDecreasingBy-from_sort_by_key item_event xs c.in_ok-sort_by_key.ensures.sorted (λ a r f k. search rules) in
    let stable : IsStableByKey item_event nat_cmp (unordered lines) xs = subst (λ (t : List Item). IsStableByKey item_event nat_cmp t xs) all (c.in_ok-sort_by_key.ensures.stable item_event (answers_always _ _ _ (λ f a r g h. search rules))) in
    let perm : IsPermutation (unordered lines) xs = subst (λ (t : List Item). IsPermutation t xs) all c.in_ok-sort_by_key.ensures.permutation in
    makes_in_order r.1.version lines xs r.1.good.fine (sort_orders r.1.version lines xs r.1.good.fine sorted perm stable)

pub returns : goal.returns
returns c = λ lines good kept.
    let xs = c.sort_by_key.new.self.items in
    let all = all_of lines c.args.self c.push_deaths.new.items.items c.deref.result.now kept c.deref.ensures.value c.in_ok-push_deaths.ensures in
    let sorted = IsNonDecreasingBy-from_sort_by_key item_event xs c.in_ok-sort_by_key.ensures.sorted (λ a r f k. search rules) in
    let stable : IsStableByKey item_event nat_cmp (unordered lines) xs = subst (λ (t : List Item). IsStableByKey item_event nat_cmp t xs) all (c.in_ok-sort_by_key.ensures.stable item_event (answers_always _ _ _ (λ f a r g h. search rules))) in
    let perm : IsPermutation (unordered lines) xs = subst (λ (t : List Item). IsPermutation t xs) all c.in_ok-sort_by_key.ensures.permutation in
    c.of.ensures ∙ are_timeline good.version lines xs good.good.fine (sort_orders good.version lines xs good.good.fine sorted perm stable)
