use Rattle.std.proofs.Common.{◌≡◌, ◌∙◌, ℕ, List, ◌-◌, Some, None, length, get_or, refl, sym, ap, subst, arith}
use Rattle.std.specs.Vec.{with_items}
use Rattle.std.proofs.Math.ListN.{set}
use Rattle.std.proofs.lemmas.List.{with_items_is, get_or_read}
use Rattle.et_refcount.specs.Objects.{tables_of, count_at, added, dropped}
use Rattle.et_refcount.proofs.Releasing.{counted_within}
use Rattle.et_refcount.proofs.Slots.{old_counted, wrote}
use Rattle.et_refcount.proofs.objects.write_slot.Goals as goal

pub returns-in_default : goal.returns-in_default
returns-in_default c =
    let o = c.args.objects.now in
    let counts = c.take_reference.new.counts in
    let is : counts ≡ added o.counts.items c.args.new = c.in_ok-take_reference.ensures ∙ ap (λ (l : List ℕ). added l c.args.new) c.deref_mut.ensures.value in
    let last : (with_items o.counts counts).items ≡ counts = with_items_is o.counts counts (c.take_reference.auto.counts ∙ c.deref_mut.ensures.len) in
    let put = c.in_ok-old.ensures in
    wrote (tables_of o) o.slots.items c.args.object c.args.slot c.args.new None c.index_mut.result.now c.insert.new.self counts (with_items o.counts counts).items
    c.requires.counted refl c.requires.object c.requires.new c.index_mut.ensures.value (sym c.in_default.is ∙ put.old) put.entries put.updates.0 put.was_ordered put.ordered is last

pub index_mut-requires-2 : goal.index_mut-requires-2
index_mut-requires-2 c =
    let o = c.args.objects.now in
    let counts = c.take_reference.new.counts in
    let is : counts ≡ added o.counts.items c.args.new = c.in_ok-take_reference.ensures ∙ ap (λ (l : List ℕ). added l c.args.new) c.deref_mut.ensures.value in
    let low = old_counted (tables_of o) o.slots.items c.args.object c.args.slot c.args.new c.in-Some.old c.index_mut.result.now counts c.requires.counted refl c.requires.object c.requires.new c.index_mut.ensures.value (sym c.in_ok-old.ensures.old ∙ c.in-Some.is) is in
    let within = counted_within counts c.in-Some.old low in
    let long : length counts ≡ o.counts.len = c.take_reference.auto.counts ∙ c.deref_mut.ensures.len in
    omega (arith, within, long)

pub overflow_sub-index_mut : goal.overflow_sub-index_mut
overflow_sub-index_mut c =
    let o = c.args.objects.now in
    let counts = c.take_reference.new.counts in
    let is : counts ≡ added o.counts.items c.args.new = c.in_ok-take_reference.ensures ∙ ap (λ (l : List ℕ). added l c.args.new) c.deref_mut.ensures.value in
    let low = old_counted (tables_of o) o.slots.items c.args.object c.args.slot c.args.new c.in-Some.old c.index_mut.result.now counts c.requires.counted refl c.requires.object c.requires.new c.index_mut.ensures.value (sym c.in_ok-old.ensures.old ∙ c.in-Some.is) is in
    let last : (with_items o.counts counts).items ≡ counts = with_items_is o.counts counts (c.take_reference.auto.counts ∙ c.deref_mut.ensures.len) in
    let within = counted_within counts c.in-Some.old low in
    let read : c.index_mut-2.result.now ≡ count_at counts c.in-Some.old = get_or_read counts c.in-Some.old c.index_mut-2.result.now within (subst (λ (l : List ℕ). c.index_mut-2.result.now ≡ get_or l c.in-Some.old c.index_mut-2.result.now) last c.index_mut-2.ensures.value) 0 in
    omega (arith, low, read)

pub returns : goal.returns
returns c =
    let o = c.args.objects.now in
    let old = c.in-Some.old in
    let counts = c.take_reference.new.counts in
    let is : counts ≡ added o.counts.items c.args.new = c.in_ok-take_reference.ensures ∙ ap (λ (l : List ℕ). added l c.args.new) c.deref_mut.ensures.value in
    let low = old_counted (tables_of o) o.slots.items c.args.object c.args.slot c.args.new old c.index_mut.result.now counts c.requires.counted refl c.requires.object c.requires.new c.index_mut.ensures.value (sym c.in_ok-old.ensures.old ∙ c.in-Some.is) is in
    let within = counted_within counts old low in
    let last : (with_items o.counts counts).items ≡ counts = with_items_is o.counts counts (c.take_reference.auto.counts ∙ c.deref_mut.ensures.len) in
    let read : c.index_mut-2.result.now ≡ count_at counts old = get_or_read counts old c.index_mut-2.result.now within (subst (λ (l : List ℕ). c.index_mut-2.result.now ≡ get_or l old c.index_mut-2.result.now) last c.index_mut-2.ensures.value) 0 in
    let final : set (with_items o.counts counts).items old (c.index_mut-2.result.now - 1) ≡ dropped counts old = ap (λ (l : List ℕ). set l old (c.index_mut-2.result.now - 1)) last ∙ ap (λ (n : ℕ). set counts old (n - 1)) read in
    let put = c.in_ok-old.ensures in
    wrote (tables_of o) o.slots.items c.args.object c.args.slot c.args.new (Some old) c.index_mut.result.now c.insert.new.self counts (set (with_items o.counts counts).items old (c.index_mut-2.result.now - 1))
    c.requires.counted refl c.requires.object c.requires.new c.index_mut.ensures.value (sym c.in-Some.is ∙ put.old) put.entries put.updates.0 put.was_ordered put.ordered is final
