use Rattle.std.proofs.Common.{◌≡◌, ℕ, List, length, sym, ◌∙◌, ap, subst, arith, ◌≤◌, All, map}
use Rattle.et_graph.specs.Times.{Carries, AreSettled}
use Rattle.et_graph.proofs.Carrying.{carries_more, All-set_each}
use Rattle.et_heap.specs.Refs.{pairs_of}
use Rattle.et_flush.specs.declared.times.TheConstants.{NOW}
use Rattle.et_flush.specs.declared.ranks.Ranks.{Ranks}
use Rattle.et_flush.specs.Ranks.{rank_of, time_of, ranked_pairs, AreRanked}
use Rattle.et_flush.specs.Works.{IsSettled}
use Rattle.et_flush.proofs.Working.{times_below}
use Rattle.et_flush.proofs.Holding.{all_counted}
use Rattle.et_flush.proofs.Joining.{All-carries}
use Rattle.et_flush.proofs.Settling.{settled_is}
use Rattle.std.specs.List.Sorted.{IsStrictlyIncreasing}
use Rattle.et_graph.specs.Listing.{death_pairs}
use Rattle.et_flush.specs.Searches.{AreAllHeld, AreDyingIn}
use Rattle.et_flush.proofs.work.find_deaths.Given.{Over}
use Rattle.et_flush.proofs.work.find_deaths.Goals.{After-date_others}
use Rattle.et_flush.proofs.work.find_deaths.Goals as goal

pub find_reached-requires-clause-room : goal.find_reached-requires-clause-room
find_reached-requires-clause-room g c = omega (arith, all_counted c.args.heap.now c.prepare.new.work.held.items c.prepare.ensures.ready.held, (c.prepare.ensures.places _ _ c.requires.places).waiting)

pub find_reached-requires-clause-below : goal.find_reached-requires-clause-below
find_reached-requires-clause-below g c =
    times_below c.prepare.new.work.held.items c.args.stamps.now c.prepare.new.work.times.items c.prepare.ensures.times
    (λ o d. c.requires.stamped o ((c.prepare.ensures.ready.held.exact o).0 d)) c.requires.below

pub date_others-requires-clause-room : goal.date_others-requires-clause-room
date_others-requires-clause-room g c = omega (arith, all_counted c.args.heap.now c.find_reached.new.work.held.items c.find_reached.ensures.ready.held, (c.find_reached.ensures.places _ _ (c.prepare.ensures.places _ _ c.requires.places)).waiting)

pub date_others-requires-clause-room_order : goal.date_others-requires-clause-room_order
date_others-requires-clause-room_order g c = omega (arith, all_counted c.args.heap.now c.find_reached.new.work.held.items c.find_reached.ensures.ready.held, (c.find_reached.ensures.places _ _ (c.prepare.ensures.places _ _ c.requires.places)).deaths)

pub date_others-requires-clause-below : goal.date_others-requires-clause-below
date_others-requires-clause-below g c =
    let below : All (λ t. t ≤ NOW) c.prepare.new.work.times.items =
    times_below c.prepare.new.work.held.items c.args.stamps.now c.prepare.new.work.times.items c.prepare.ensures.times
    (λ o d. c.requires.stamped o ((c.prepare.ensures.ready.held.exact o).0 d)) c.requires.below in
    All-carries (ranked_pairs c.prepare.new.work.ranks (pairs_of c.args.heap.now)) _ c.find_reached.new.work.times.items NOW c.find_reached.ensures.carries
    (All-set_each NOW (map (rank_of c.prepare.new.work.ranks) c.args.roots.now) NOW c.prepare.new.work.times.items (omega arith) below)

pub returns-clause-settled : goal.returns-clause-settled
returns-clause-settled g c =
    let pairs : Ranks → List (ℕ × ℕ) = λ r. ranked_pairs r (pairs_of c.args.heap.now) in
    let first : List ℕ = c.prepare.new.work.times.items in
    let last : List ℕ = c.date_others.new.work.times.items in
    subst (λ (r : Ranks). IsSettled c.args.heap.now c.args.roots.now c.args.stamps.now (time_of r last)) (sym (c.date_others.ensures.ranks ∙ c.find_reached.ensures.ranks))
    (settled_is c.args.heap.now c.args.roots.now c.args.stamps.now c.prepare.new.work.held.items first last c.prepare.new.work.ranks c.requires.roots
    (record { all = c.prepare.ensures.ready.held; pairs = c.requires.pairs; ranked = c.prepare.ensures.ready.ranked }) c.prepare.ensures.times
    (carries_more (pairs c.prepare.new.work.ranks) _ c.find_reached.new.work.times.items last c.find_reached.ensures.carries
    (subst (λ (r : Ranks). Carries (pairs r) c.find_reached.new.work.times.items last) c.find_reached.ensures.ranks c.date_others.ensures.carries))
    (subst (λ (r : Ranks). AreSettled (pairs r) last) c.find_reached.ensures.ranks c.date_others.ensures.settled))

-- ALL TIMES ARE FOUND
held_now : (g : Over) (c : After-date_others g) → AreAllHeld c.args.heap.now c.date_others.new.work.held.items
held_now g c = subst (λ (xs : List ℕ). AreAllHeld c.args.heap.now xs) (sym c.date_others.ensures.held) c.find_reached.ensures.ready.held

ranked_now : (g : Over) (c : After-date_others g) → AreRanked c.date_others.new.work.held.items c.date_others.new.work.ranks
ranked_now g c =
    subst (λ (xs : List ℕ). AreRanked xs c.date_others.new.work.ranks) (sym c.date_others.ensures.held)
    (subst (λ (r : Ranks). AreRanked c.find_reached.new.work.held.items r) (sym c.date_others.ensures.ranks) c.find_reached.ensures.ready.ranked)

long_now : (g : Over) (c : After-date_others g) → length c.date_others.new.work.times.items ≡ length c.date_others.new.work.held.items
long_now g c = c.date_others.ensures.carries.kept_length ∙ (c.find_reached.ensures.ready.times ∙ ap length (sym c.date_others.ensures.held))

pub returns-clause-long : goal.returns-clause-long
returns-clause-long g c = long_now g (goal.at.returns-clause-long g c).After-date_others

pub returns-clause-visits : goal.returns-clause-visits
returns-clause-visits g c = omega (arith, c.find_reached.ensures.visits, c.date_others.ensures.visits, all_counted c.args.heap.now c.prepare.new.work.held.items c.prepare.ensures.ready.held)

pub list_deaths-requires-clause-long : goal.list_deaths-requires-clause-long
list_deaths-requires-clause-long g c = ap length c.deref-2.ensures.value ∙ (long_now g (goal.at.list_deaths-requires-clause-long g c).After-date_others ∙ sym (ap length c.deref.ensures.value))

pub list_deaths-requires-clause-rising : goal.list_deaths-requires-clause-rising
list_deaths-requires-clause-rising g c = subst (λ (xs : List ℕ). IsStrictlyIncreasing xs) (sym c.deref.ensures.value) (held_now g (goal.at.list_deaths-requires-clause-rising g c).After-date_others).rising

pub list_deaths-requires-clause-room : goal.list_deaths-requires-clause-room
list_deaths-requires-clause-room g c = omega (arith, ap length c.deref.ensures.value, all_counted c.args.heap.now c.date_others.new.work.held.items (held_now g (goal.at.list_deaths-requires-clause-room g c).After-date_others), (c.date_others.ensures.places _ _ (c.find_reached.ensures.places _ _ (c.prepare.ensures.places _ _ c.requires.places))).deaths)

pub returns-clause-deaths : goal.returns-clause-deaths
returns-clause-deaths g c =
    subst (λ (ts : List ℕ). AreDyingIn c.args.heap.now (time_of c.date_others.new.work.ranks ts) (death_pairs c.list_deaths.new.deaths.items)) c.deref-2.ensures.value
    (c.list_deaths.ensures.deaths c.args.heap.now c.date_others.new.work.ranks (subst (λ (xs : List ℕ). AreAllHeld c.args.heap.now xs) (sym c.deref.ensures.value) (held_now g (goal.at.returns-clause-deaths g c).After-date_others))
    (subst (λ (xs : List ℕ). AreRanked xs c.date_others.new.work.ranks) (sym c.deref.ensures.value) (ranked_now g (goal.at.returns-clause-deaths g c).After-date_others)))

pub returns-clause-places : goal.returns-clause-places
returns-clause-places g c = λ m n h. let s = c.date_others.ensures.places m n (c.find_reached.ensures.places m n (c.prepare.ensures.places m n h)) in record { runs = s.runs; ranks = s.ranks; times = s.times; reached = s.reached; seen = s.seen; waiting = s.waiting; held = s.held; deaths = omega (arith, s.deaths, c.list_deaths.ensures.room) }
