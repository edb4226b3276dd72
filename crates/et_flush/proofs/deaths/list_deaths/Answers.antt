use Rattle.std.proofs.Common.{◌≡◌, ℕ, List, [], ◌∷◌, ◌++◌, length, get_or, ap, ◌∙◌, refl, arith}
use Rattle.std.proofs.lemmas.List.{length-append, get_or_default}
use Rattle.et_graph.specs.Listing.{death_pairs}
use Rattle.et_graph.specs.declared.objects.Death.{Death}
use Rattle.et_graph.proofs.Listing.{deaths_more}
use Rattle.et_flush.specs.Ranks.{time_of}
use Rattle.et_flush.proofs.Dying.{listed_none, listed_hit, listed_miss, below_are}
use Rattle.et_flush.proofs.Searching.{time_ranked}
use Rattle.et_flush.proofs.deaths.list_deaths.Goals as goal
use Rattle.et_flush.proofs.deaths.list_deaths.Goals.{then-time-lt-NOW, else-time-lt-NOW}

pub loop-i-init : goal.loop-i-init
loop-i-init c = record {
  few = omega (arith, ap length c.clear.ensures.items);
  listed = λ ranks ranked. listed_none c.args.held.now (time_of ranks c.args.times.now) (death_pairs c.clear.new.self.items) (ap death_pairs c.clear.ensures.items);
  room = omega (arith, c.clear.ensures.capacity);
}

pub push-requires : goal.push-requires
push-requires c = record { room = omega (arith, c.loop-i.deaths.ok.0, c.loop-i.invariant.few, c.loop-i.invariant.room, c.loop-i-test.true, c.requires.room) }

pub loop-i-preserved : goal.loop-i-preserved
loop-i-preserved c =
    let i : ℕ = c.loop-i.i in
    let o : ℕ = get_or c.args.held.now i 0 in
    let t : ℕ = get_or c.args.times.now i 0 in
    let ds : List (ℕ × ℕ) = death_pairs c.loop-i.deaths.items in
    elim c.if-time-lt-NOW.branch [
      | then-time-lt-NOW w ↦
          let x : Death = record { object = o; time = t } in
          let same : record { object = c.index-held-i.result; time = t } ≡ x = ap (λ (z : ℕ). record { object = z; time = t }) (c.index-held-i.is ∙ get_or_default c.args.held.now i c.index-held-i.result 0 c.loop-i-test.true) in
          let push : c.if-time-lt-NOW.deaths.items ≡ c.loop-i.deaths.items ++ x ∷ [] = ap (λ v. v.items) w.deaths-is ∙ (w.push.ensures.items ∙ ap (λ (y : Death). c.loop-i.deaths.items ++ y ∷ []) same) in
          record {
            few = omega (arith, ap length push, length-append c.loop-i.deaths.items (x ∷ []), c.loop-i.invariant.few);
            listed = λ ranks ranked.
                listed_hit c.args.held.now (time_of ranks c.args.times.now) i ds (death_pairs c.if-time-lt-NOW.deaths.items) o t c.requires.rising (c.loop-i.invariant.listed ranks ranked) c.loop-i-test.true refl
                (time_ranked c.args.held.now c.args.times.now ranks i ranked c.loop-i-test.true) (ap death_pairs push ∙ deaths_more c.loop-i.deaths.items x) w.if-time-lt-NOW.true;
            room = rw w.deaths-is (omega (arith, w.push.ensures.grows, c.loop-i.invariant.room));
          }
      | else-time-lt-NOW w ↦
          rw w.deaths-is (record {
            few = omega (arith, c.loop-i.invariant.few);
            listed = λ ranks ranked.
                listed_miss c.args.held.now (time_of ranks c.args.times.now) i ds ds o t c.requires.rising (c.loop-i.invariant.listed ranks ranked) c.loop-i-test.true refl
                (time_ranked c.args.held.now c.args.times.now ranks i ranked c.loop-i-test.true) w.if-time-lt-NOW.false;
            room = omega (arith, c.loop-i.invariant.room);
          })
    ]

pub returns-clause-deaths : goal.returns-clause-deaths
returns-clause-deaths c = λ heap ranks are ranked. below_are heap c.args.held.now (time_of ranks c.args.times.now) c.loop-i.i (death_pairs c.loop-i.deaths.items) (c.loop-i.invariant.listed ranks ranked) c.loop-i-test.false are
