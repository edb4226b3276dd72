use Rattle.std.proofs.Common.{◌≡◌, ℕ, ◌<◌, Bool, List, length, sym, ◌∙◌, ap, subst, inl, inr, arith}
use Rattle.std.specs.Vec.{with_items}
use Rattle.std.proofs.lemmas.List.{with_items_is}
use Rattle.et_heap.specs.Refs.{pairs_of}
use Rattle.et_graph.specs.declared.objects.Death.{Death}
use Rattle.et_graph.specs.Order.{IsOrder}
use Rattle.et_graph.specs.Times.{ArePairsAmong, Carries, AreSettled, IsSet}
use Rattle.et_flush.specs.Ranks.{ranked_pairs}
use Rattle.et_flush.specs.Searches.{IsLeftRank, IsSearched, IsSearchedRank, pairs_left}
use Rattle.et_flush.proofs.Working.{unset_within, ready_search}
use Rattle.et_flush.proofs.Searching.{pairs_one, pairs_searched, order_searched}
use Rattle.et_flush.proofs.Joining.{pair_left, carries_among, joined_settled, apart_count}
use Rattle.et_flush.proofs.work.date_others.Goals as goal

pub spread_all-requires-clause-pairs : goal.spread_all-requires-clause-pairs
spread_all-requires-clause-pairs g c =
    let pairs : List (ℕ × ℕ) = ranked_pairs c.args.work.now.ranks (pairs_of c.args.heap.now) in
    let is : IsSearched c.args.heap.now c.args.work.now.held.items c.args.work.now.ranks = record { all = c.requires.ready.held; pairs = c.requires.pairs; ranked = c.requires.ready.ranked } in
    subst (λ (xs : List ℕ). ArePairsAmong (IsSearchedRank c.args.heap.now xs c.args.work.now.ranks c.deref-4.result.now) (pairs_left c.deref-4.result.now pairs)) (sym c.deref-3.ensures.value)
    (subst (λ (fs : List Bool). ArePairsAmong (IsSearchedRank c.args.heap.now c.args.work.now.held.items c.args.work.now.ranks fs) (pairs_left fs pairs)) (sym c.deref-4.ensures.value)
    (pairs_searched c.args.heap.now c.args.work.now.held.items c.args.work.now.ranks is c.args.work.now.reached.items c.requires.ready.reached c.requires.reached.closed))

pub spread_all-requires-clause-order : goal.spread_all-requires-clause-order
spread_all-requires-clause-order g c =
    let times : List ℕ = c.args.work.now.times.items in
    let reached : List Bool = c.args.work.now.reached.items in
    let is : IsSearched c.args.heap.now c.args.work.now.held.items c.args.work.now.ranks = record { all = c.requires.ready.held; pairs = c.requires.pairs; ranked = c.requires.ready.ranked } in
    let order : IsOrder (IsLeftRank (length times) reached) times c.order_sources.new.order.items =
    subst (λ (fs : List Bool). IsOrder (IsLeftRank (length times) fs) times c.order_sources.new.order.items) c.deref-2.ensures.value
    (subst (λ (ts : List ℕ). IsOrder (IsLeftRank (length ts) c.deref-2.result.now) ts c.order_sources.new.order.items) c.deref.ensures.value c.order_sources.ensures.order) in
    subst (λ (ss : List Death). IsOrder (IsSearchedRank c.args.heap.now c.deref-3.result.now c.args.work.now.ranks c.deref-4.result.now) c.deref_mut.result.now ss) (sym c.deref-5.ensures.value)
    (subst (λ (ts : List ℕ). IsOrder (IsSearchedRank c.args.heap.now c.deref-3.result.now c.args.work.now.ranks c.deref-4.result.now) ts c.order_sources.new.order.items) (sym c.deref_mut.ensures.value)
    (subst (λ (xs : List ℕ). IsOrder (IsSearchedRank c.args.heap.now xs c.args.work.now.ranks c.deref-4.result.now) times c.order_sources.new.order.items) (sym c.deref-3.ensures.value)
    (subst (λ (fs : List Bool). IsOrder (IsSearchedRank c.args.heap.now c.args.work.now.held.items c.args.work.now.ranks fs) times c.order_sources.new.order.items) (sym c.deref-4.ensures.value)
    (order_searched c.args.heap.now c.args.work.now.held.items c.args.work.now.ranks is reached c.requires.ready.reached (length times) times c.order_sources.new.order.items c.requires.ready.times order))))

pub spread_all-requires-clause-ready : goal.spread_all-requires-clause-ready
spread_all-requires-clause-ready g c =
    let w = c.requires.ready in
    ready_search (length c.args.work.now.held.items) c.deref_mut.result.now c.deref_mut-2.result.now c.args.work.now.waiting (ap length c.deref_mut.ensures.value ∙ w.times) (ap length c.deref_mut-2.ensures.value ∙ w.seen) w.idle c.requires.room

pub returns-clause-carries : goal.returns-clause-carries
returns-clause-carries g c =
    let pairs : List (ℕ × ℕ) = ranked_pairs c.args.work.now.ranks (pairs_of c.args.heap.now) in
    let is : (with_items c.args.work.now.times c.spread_all.new.times).items ≡ c.spread_all.new.times = with_items_is c.args.work.now.times c.spread_all.new.times (c.spread_all.auto.times ∙ c.deref_mut.ensures.len) in
    let carries : Carries (pairs_left c.args.work.now.reached.items pairs) c.args.work.now.times.items c.spread_all.new.times =
    subst (λ (fs : List Bool). Carries (pairs_left fs pairs) c.args.work.now.times.items c.spread_all.new.times) c.deref-4.ensures.value
    (subst (λ (ts : List ℕ). Carries (pairs_left c.deref-4.result.now pairs) ts c.spread_all.new.times) c.deref_mut.ensures.value c.spread_all.ensures.carries) in
    subst (λ (ts : List ℕ). Carries pairs c.args.work.now.times.items ts) (sym is)
    (carries_among (pairs_left c.args.work.now.reached.items pairs) pairs c.args.work.now.times.items c.spread_all.new.times (λ u x d. (pair_left c.args.work.now.reached.items pairs u x d).0) carries)

pub returns-clause-settled : goal.returns-clause-settled
returns-clause-settled g c =
    let pairs : List (ℕ × ℕ) = ranked_pairs c.args.work.now.ranks (pairs_of c.args.heap.now) in
    let searched : IsSearched c.args.heap.now c.args.work.now.held.items c.args.work.now.ranks = record { all = c.requires.ready.held; pairs = c.requires.pairs; ranked = c.requires.ready.ranked } in
    let is : (with_items c.args.work.now.times c.spread_all.new.times).items ≡ c.spread_all.new.times = with_items_is c.args.work.now.times c.spread_all.new.times (c.spread_all.auto.times ∙ c.deref_mut.ensures.len) in
    let carries : Carries (pairs_left c.args.work.now.reached.items pairs) c.args.work.now.times.items c.spread_all.new.times =
    subst (λ (fs : List Bool). Carries (pairs_left fs pairs) c.args.work.now.times.items c.spread_all.new.times) c.deref-4.ensures.value
    (subst (λ (ts : List ℕ). Carries (pairs_left c.deref-4.result.now pairs) ts c.spread_all.new.times) c.deref_mut.ensures.value c.spread_all.ensures.carries) in
    subst (λ (ts : List ℕ). AreSettled pairs ts) (sym is)
    (joined_settled pairs c.args.work.now.times.items c.spread_all.new.times c.args.work.now.reached.items
    (λ u x d. (pairs_one c.args.heap.now c.args.work.now.held.items c.args.work.now.ranks searched u x d).0.0) c.requires.below c.requires.reached carries
    (subst (λ (fs : List Bool). AreSettled (pairs_left fs pairs) c.spread_all.new.times) c.deref-4.ensures.value c.spread_all.ensures.settled))

pub returns-clause-visits : goal.returns-clause-visits
returns-clause-visits g c =
    let reached : List Bool = c.args.work.now.reached.items in
    let seen : length c.deref_mut-2.result.now ≡ length reached = ap length c.deref_mut-2.ensures.value ∙ (c.requires.ready.seen ∙ sym c.requires.ready.reached) in
    let after : length c.spread_all.new.seen ≡ length c.deref_mut-2.result.now = c.spread_all.auto.seen in
    let apart : (o : ℕ) → 0 < o → IsSet reached o → ¬ IsSet c.spread_all.new.seen o =
    λ o above r s. elim (c.spread_all.ensures.seen o above s) [
      | inl before ↦ absurd (c.requires.ready.unseen o (subst (λ (fs : List Bool). IsSet fs o) c.deref_mut-2.ensures.value before))
      | inr left ↦ absurd (left.one.left (subst (λ (fs : List Bool). IsSet fs o) (sym c.deref-4.ensures.value) r))
    ] in
    let count = apart_count reached c.spread_all.new.seen (sym (after ∙ seen)) apart in
    omega (arith, count, c.spread_all.ensures.counted, unset_within c.deref_mut-2.result.now, seen)
