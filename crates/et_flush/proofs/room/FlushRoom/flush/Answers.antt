use Rattle.std.proofs.Common.{◌≡◌, ℕ, ◌<◌, ◌≤◌, ◌^◌, ◌↔◌, Bool, true, List, Contains, All, length, get_or, sym, ◌∙◌, ap, subst, arith}
use Rattle.et_graph.specs.Graph.{IsReached}
use Rattle.et_graph.specs.Listing.{death_pairs}
use Rattle.et_graph.specs.declared.objects.Death.{Death}
use Rattle.et_heap.specs.Objects.{Objects, IsHeld, made_count, held_count}
use Rattle.et_heap.specs.Remaining.{remaining}
use Rattle.et_flush.specs.declared.times.TheConstants.{NOW}
use Rattle.et_flush.specs.Ranks.{time_of, AreRanked}
use Rattle.et_flush.specs.Sweeps.{is_now, visits_from}
use Rattle.et_flush.specs.Searches.{AreAllHeld, AreDyingIn, ArePairsHeld}
use Rattle.et_flush.specs.Works.{IsSettled}
use Rattle.et_flush.specs.Rooms.{Room}
use Rattle.et_heap.specs.Cleared.{cleared_references}
use Rattle.et_flush.specs.Flushes.{heap_graph, all_enqueued}
use Rattle.et_flush.proofs.Working.{places_least}
use Rattle.et_flush.proofs.Holding.{all_counted}
use Rattle.et_flush.proofs.Reaching.{below_listed, below_dead, now_reached, tests_same, remaining_same, cleared_same, visits_bound}
use Rattle.et_flush.proofs.Arriving.{enqueued_is_flushed}
use Rattle.et_flush.proofs.Tying.{remaining_pairs, cleared_remain}
use Rattle.et_state.proofs.UnderWay.{queue_pair}
use Rattle.et_flush.proofs.room.FlushRoom.flush.Given as given
use Rattle.et_flush.proofs.room.FlushRoom.flush.Goals as goal

pub find_deaths-requires-clause-roots : goal.find_deaths-requires-clause-roots
find_deaths-requires-clause-roots g c = λ o d. c.requires.roots o (subst (λ (rs : List ℕ). Contains rs o) c.as_slice.ensures d)

pub find_deaths-requires-clause-stamped : goal.find_deaths-requires-clause-stamped
find_deaths-requires-clause-stamped g c = λ o held. omega (arith, c.requires.stamps o held, ap length c.as_slice-2.ensures.value)

pub find_deaths-requires-clause-below : goal.find_deaths-requires-clause-below
find_deaths-requires-clause-below g c = λ k d lt. omega (arith, c.as_slice-2.ensures.events k d lt)

pub find_deaths-requires-clause-places : goal.find_deaths-requires-clause-places
find_deaths-requires-clause-places g c = places_least (made_count c.args.heap.now) (held_count c.args.heap.now) c.self.inside.numbers c.self.inside.places c.self.inside.work (omega (arith, c.requires.numbers, ap (λ (r : Room). r.numbers) c.self.view_is)) (omega (arith, c.requires.places, ap (λ (r : Room). r.places) c.self.view_is)) c.self.invariant.work

pub sweep-requires-clause-held : goal.sweep-requires-clause-held
sweep-requires-clause-held g c = subst (λ (xs : List ℕ). AreAllHeld c.args.heap.now xs) (sym c.deref.ensures.value) c.find_deaths.ensures.held

pub sweep-requires-clause-ranked : goal.sweep-requires-clause-ranked
sweep-requires-clause-ranked g c = subst (λ (xs : List ℕ). AreRanked xs c.find_deaths.new.work.ranks) (sym c.deref.ensures.value) c.find_deaths.ensures.ranked

pub sweep-requires-clause-long : goal.sweep-requires-clause-long
sweep-requires-clause-long g c = ap length c.deref-2.ensures.value ∙ (c.find_deaths.ensures.long ∙ sym (ap length c.deref.ensures.value))

pub sweep-requires-clause-deaths : goal.sweep-requires-clause-deaths
sweep-requires-clause-deaths g c =
    subst (λ (ds : List Death). AreDyingIn c.args.heap.now (time_of c.find_deaths.new.work.ranks c.deref-2.result.now) (death_pairs ds)) (sym c.deref-3.ensures.value)
    (subst (λ (ts : List ℕ). AreDyingIn c.args.heap.now (time_of c.find_deaths.new.work.ranks ts) (death_pairs c.find_deaths.new.work.deaths.items)) (sym c.deref-2.ensures.value) c.find_deaths.ensures.deaths)

pub invariant_of-self : goal.invariant_of-self
invariant_of-self g c =
    let s = c.find_deaths.ensures.places c.self.inside.numbers c.self.inside.places c.self.invariant.work in
    record {
      few = c.self.invariant.few;
      work = record { runs = s.runs; ranks = s.ranks; times = s.times; reached = s.reached; seen = s.seen; waiting = omega (arith, s.waiting, c.sweep.ensures.room); held = s.held; deaths = s.deaths };
    }

stamps_below : (seen stamps : List ℕ) → seen ≡ stamps → All (λ t. t ≤ 2 ^ 40) seen → All (λ t. t < NOW) stamps
stamps_below seen stamps same are k d lt = omega (arith, subst (λ (ts : List ℕ). k < length ts → get_or ts k d ≤ 2 ^ 40) same (are k d) lt)

settled_after : (g : given.Over) (c : goal.After-enqueue_all g) → IsSettled c.args.heap.now c.args.roots.now c.args.stamps.now (time_of c.find_deaths.new.work.ranks c.find_deaths.new.work.times.items)
settled_after g c =
    subst (λ (rs : List ℕ). IsSettled c.args.heap.now rs c.args.stamps.now (time_of c.find_deaths.new.work.ranks c.find_deaths.new.work.times.items)) c.as_slice.ensures
    (subst (λ (ts : List ℕ). IsSettled c.args.heap.now c.as_slice.result.now ts (time_of c.find_deaths.new.work.ranks c.find_deaths.new.work.times.items)) c.as_slice-2.ensures.value c.find_deaths.ensures.settled)

pub returns-clause-deaths : goal.returns-clause-deaths
returns-clause-deaths g c = below_listed c.args.heap.now c.args.roots.now c.args.stamps.now (time_of c.find_deaths.new.work.ranks c.find_deaths.new.work.times.items) c.requires.none c.requires.stamps (stamps_below c.as_slice-2.result.now c.args.stamps.now c.as_slice-2.ensures.value c.as_slice-2.ensures.events) (settled_after g c) (death_pairs c.find_deaths.new.work.deaths.items) c.find_deaths.ensures.deaths

pub returns-clause-dead : goal.returns-clause-dead
returns-clause-dead g c = below_dead c.args.heap.now c.args.roots.now c.args.stamps.now (time_of c.find_deaths.new.work.ranks c.find_deaths.new.work.times.items) c.requires.none c.requires.stamps (stamps_below c.as_slice-2.result.now c.args.stamps.now c.as_slice-2.ensures.value c.as_slice-2.ensures.events) (settled_after g c) (death_pairs c.find_deaths.new.work.deaths.items) c.find_deaths.ensures.deaths

-- a test that says what is reached says what is reached now
same : (g : given.Over) (c : goal.After-enqueue_all g) (here : ℕ → Bool) → ((o : ℕ) → IsHeld c.args.heap.now o → (here o ≡ true) ↔ IsReached (heap_graph c.args.heap.now c.args.roots.now) o) → (o : ℕ) → IsHeld c.args.heap.now o → is_now (time_of c.find_deaths.new.work.ranks c.find_deaths.new.work.times.items) o ≡ here o
same g c here decides =
    tests_same c.args.heap.now (λ o. IsReached (heap_graph c.args.heap.now c.args.roots.now) o) (is_now (time_of c.find_deaths.new.work.ranks c.find_deaths.new.work.times.items)) here
    (now_reached c.args.heap.now c.args.roots.now c.args.stamps.now (time_of c.find_deaths.new.work.ranks c.find_deaths.new.work.times.items) c.requires.none c.requires.stamps (stamps_below c.as_slice-2.result.now c.args.stamps.now c.as_slice-2.ensures.value c.as_slice-2.ensures.events) (settled_after g c)) decides

-- WHAT WAS CLEARED goes to the queues

-- which are reached, by the times
reached_by_time : (g : given.Over) (c : goal.After-enqueue_all g) → (o : ℕ) → IsHeld c.args.heap.now o → (is_now (time_of c.find_deaths.new.work.ranks c.find_deaths.new.work.times.items) o ≡ true) ↔ IsReached (heap_graph c.args.heap.now c.args.roots.now) o
reached_by_time g c = now_reached c.args.heap.now c.args.roots.now c.args.stamps.now (time_of c.find_deaths.new.work.ranks c.find_deaths.new.work.times.items) c.requires.none c.requires.stamps (stamps_below c.as_slice-2.result.now c.args.stamps.now c.as_slice-2.ensures.value c.as_slice-2.ensures.events) (settled_after g c)

swept_is : (g : given.Over) (c : goal.After-enqueue_all g) → c.sweep.new.heap ≡ remaining (is_now (time_of c.find_deaths.new.work.ranks c.find_deaths.new.work.times.items)) 0 c.args.heap.now
swept_is g c = c.sweep.ensures.heap ∙ ap (λ (ts : List ℕ). remaining (is_now (time_of c.find_deaths.new.work.ranks ts)) 0 c.args.heap.now) c.deref-2.ensures.value

cleared_is : (g : given.Over) (c : goal.After-enqueue_all g) → c.sweep.new.cleared.items ≡ cleared_references (is_now (time_of c.find_deaths.new.work.ranks c.find_deaths.new.work.times.items)) 0 c.args.heap.now
cleared_is g c = c.sweep.ensures.cleared ∙ ap (λ (ts : List ℕ). cleared_references (is_now (time_of c.find_deaths.new.work.ranks ts)) 0 c.args.heap.now) c.deref-2.ensures.value

-- .. before that

settled_after_before : (g : given.Over) (c : goal.After-enqueue_all-arg-2-1 g) → IsSettled c.args.heap.now c.args.roots.now c.args.stamps.now (time_of c.find_deaths.new.work.ranks c.find_deaths.new.work.times.items)
settled_after_before g c =
    subst (λ (rs : List ℕ). IsSettled c.args.heap.now rs c.args.stamps.now (time_of c.find_deaths.new.work.ranks c.find_deaths.new.work.times.items)) c.as_slice.ensures
    (subst (λ (ts : List ℕ). IsSettled c.args.heap.now c.as_slice.result.now ts (time_of c.find_deaths.new.work.ranks c.find_deaths.new.work.times.items)) c.as_slice-2.ensures.value c.find_deaths.ensures.settled)

-- which are reached, by the times
reached_by_time_before : (g : given.Over) (c : goal.After-enqueue_all-arg-2-1 g) → (o : ℕ) → IsHeld c.args.heap.now o → (is_now (time_of c.find_deaths.new.work.ranks c.find_deaths.new.work.times.items) o ≡ true) ↔ IsReached (heap_graph c.args.heap.now c.args.roots.now) o
reached_by_time_before g c = now_reached c.args.heap.now c.args.roots.now c.args.stamps.now (time_of c.find_deaths.new.work.ranks c.find_deaths.new.work.times.items) c.requires.none c.requires.stamps (stamps_below c.as_slice-2.result.now c.args.stamps.now c.as_slice-2.ensures.value c.as_slice-2.ensures.events) (settled_after_before g c)

swept_is_before : (g : given.Over) (c : goal.After-enqueue_all-arg-2-1 g) → c.sweep.new.heap ≡ remaining (is_now (time_of c.find_deaths.new.work.ranks c.find_deaths.new.work.times.items)) 0 c.args.heap.now
swept_is_before g c = c.sweep.ensures.heap ∙ ap (λ (ts : List ℕ). remaining (is_now (time_of c.find_deaths.new.work.ranks ts)) 0 c.args.heap.now) c.deref-2.ensures.value

cleared_is_before : (g : given.Over) (c : goal.After-enqueue_all-arg-2-1 g) → c.sweep.new.cleared.items ≡ cleared_references (is_now (time_of c.find_deaths.new.work.ranks c.find_deaths.new.work.times.items)) 0 c.args.heap.now
cleared_is_before g c = c.sweep.ensures.cleared ∙ ap (λ (ts : List ℕ). cleared_references (is_now (time_of c.find_deaths.new.work.ranks ts)) 0 c.args.heap.now) c.deref-2.ensures.value

pub sweep-requires-clause-room : goal.sweep-requires-clause-room
sweep-requires-clause-room g c =
    omega (
      arith,
      ap length c.deref.ensures.value,
      all_counted c.args.heap.now c.find_deaths.new.work.held.items c.find_deaths.ensures.held,
      ap (λ (r : Room). r.places) c.self.view_is,
      (c.find_deaths.ensures.places c.self.inside.numbers c.self.inside.places c.self.invariant.work).waiting,
      c.requires.places,
    )

pub enqueue_all-requires-clause-held : goal.enqueue_all-requires-clause-held
enqueue_all-requires-clause-held g c = λ r d.
    subst (λ (h : Objects). IsHeld h r) (sym (swept_is_before g c))
    (cleared_remain c.args.heap.now c.args.roots.now (is_now (time_of c.find_deaths.new.work.ranks c.find_deaths.new.work.times.items)) c.requires.slots (reached_by_time_before g c) r (subst (λ (rs : List ℕ). Contains rs r) (c.deref-4.ensures.value ∙ cleared_is_before g c) d))

pub enqueue_all-requires-clause-pairs : goal.enqueue_all-requires-clause-pairs
enqueue_all-requires-clause-pairs g c =
    subst ArePairsHeld (sym (swept_is_before g c)) (remaining_pairs c.args.heap.now c.args.roots.now (is_now (time_of c.find_deaths.new.work.ranks c.find_deaths.new.work.times.items)) c.requires.slots (reached_by_time_before g c))

-- the references that were handed on are those that the test names
listed_is : (g : given.Over) (c : goal.After-enqueue_all g) (here : ℕ → Bool) → ((o : ℕ) → IsHeld c.args.heap.now o → is_now (time_of c.find_deaths.new.work.ranks c.find_deaths.new.work.times.items) o ≡ here o) → c.deref-4.result.now ≡ cleared_references here 0 c.args.heap.now
listed_is g c here alike = c.deref-4.ensures.value ∙ (cleared_is g c ∙ cleared_same c.args.heap.now (is_now (time_of c.find_deaths.new.work.ranks c.find_deaths.new.work.times.items)) here alike c.requires.referents)

pub returns-clause-heap : goal.returns-clause-heap
returns-clause-heap g c = λ here decides.
    let alike = same g c here decides in
    c.enqueue_all.ensures.heap
    ∙ (ap (λ (rs : List ℕ). all_enqueued rs c.sweep.new.heap) (listed_is g c here alike)
    ∙ (ap (λ (h : Objects). all_enqueued (cleared_references here 0 c.args.heap.now) h) (swept_is g c ∙ remaining_same c.args.heap.now (is_now (time_of c.find_deaths.new.work.ranks c.find_deaths.new.work.times.items)) here alike c.requires.referents)
    ∙ enqueued_is_flushed here c.args.heap.now (cleared_remain c.args.heap.now c.args.roots.now here c.requires.slots decides) (λ r q is. remaining_pairs c.args.heap.now c.args.roots.now here c.requires.slots decides r q (queue_pair (remaining here 0 c.args.heap.now) r q is))))

pub returns-clause-visits : goal.returns-clause-visits
returns-clause-visits g c = λ here decides.
    let alike = same g c here decides in
    let times = ap (λ (ts : List ℕ). visits_from (is_now (time_of c.find_deaths.new.work.ranks ts)) 0 c.args.heap.now) c.deref-2.ensures.value in
    let bound = visits_bound c.args.heap.now (is_now (time_of c.find_deaths.new.work.ranks c.find_deaths.new.work.times.items)) here alike c.requires.referents in
    omega (arith, times, bound, c.find_deaths.ensures.visits, c.sweep.ensures.visits, c.enqueue_all.ensures.visits, ap length (listed_is g c here alike))
