use Rattle.std.proofs.Common.{◌+◌, ◌∷◌, List, take, reverse, get_or, sym, subst}
use Rattle.et_replay.specs.declared.item.Item.{Item}
use Rattle.et_replay.specs.declared.item.Item.TheVariants.{Alloc}
use Rattle.et_replay.specs.declared.model.Fed.{Fed}
use Rattle.et_replay.specs.Feeding.{OnTaken, TellsExhausted}
use Rattle.et_replay.specs.Seats.{IsFinal}
use Rattle.et_replay.specs.Tally.{is_exhausted}
use Rattle.et_replay.proofs.Comes.{comes, reverse_more}
use Rattle.et_replay.proofs.Seating.{room_first}
use Rattle.et_bench.proofs.BenchLemmas.{final_at}
use Rattle.et_bench.proofs.totals.report_of.Goals as goal

pub loop-item-init : goal.loop-item-init
loop-item-init g c = λ policy objects stands. (stands, room_first policy)

pub feed-requires : goal.feed-requires
feed-requires g c =
    let s = c.requires.stands in
    let items = c.args.items.now in
    let i = c.loop-item.item-index in
    let at = c.loop-item.invariant s.0 s.1 s.3 in
    record { stands = (s.0, s.1, reverse (take i items), at.0, at.1, comes items i (Alloc 0 0 0) s.1 c.loop-item-test.true c.requires.made s.2) }

pub returns-in-Exhausted : goal.returns-in-Exhausted
returns-in-Exhausted g c = λ reached decides policy objects stands.
    (let items = c.args.items.now in
    let i = c.loop-item.item-index in
    let past = reverse (take i items) in
    let item = get_or items i (Alloc 0 0 0) in
    let at = c.loop-item.invariant policy objects stands in
    let fed = subst (λ (r : Fed). OnTaken r (g.M.HeapModel.stands_for c.feed.new.self policy objects (item ∷ past))) c.in-Exhausted.is (c.feed.ensures.taken policy objects past at.0) in
    let final : IsFinal c.report.result policy (item ∷ past) = record {
      tally_is = λ r d. c.report.ensures r d policy objects (item ∷ past) fed;
      exhausted = λ r d. subst (λ (x : Fed). TellsExhausted x (is_exhausted r policy (item ∷ past))) c.in-Exhausted.is (c.feed.ensures.exhausted r d policy objects past at.0);
    } in
    let here = subst (λ (t : List Item). IsFinal c.report.result policy t) (sym (reverse_more items i (Alloc 0 0 0) c.loop-item-test.true)) final in
    (final_at c.report.result policy items (i + 1) here).tally_is reached decides)
