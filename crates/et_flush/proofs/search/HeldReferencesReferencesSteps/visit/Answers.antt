use Rattle.std.proofs.Common.{◌≡◌, ℕ, ◌-◌, ◌<◌, List, Bool, ◌∷◌, Contains, length, get_or, set, map, true, false, sym, ◌∙◌, ap, inl, arith}
use Rattle.std.proofs.lemmas.Bool.{both_ways}
use Rattle.et_graph.specs.Times.{IsSet}
use Rattle.et_graph.proofs.Spreading.{set_here, set_keeps}
use Rattle.et_graph.proofs.Visiting.{visiting_none, visiting_mark, visiting_all}
use Rattle.et_heap.specs.Refs.{pairs_of}
use Rattle.et_heap.specs.Objects.{IsHeld}
use Rattle.et_flush.specs.Ranks.{rank_of, ranked_pairs}
use Rattle.et_flush.specs.Searches.{pairs_left}
use Rattle.et_flush.proofs.Joining.{left_pair, pair_left}
use Rattle.et_flush.proofs.Targets.{left_there, done_more, all_done, first_left}
use Rattle.et_flush.proofs.Searching.{whole_at, here_at, targets_held, targets_left, targets_done, target_held, first_ranked}
use Rattle.et_flush.proofs.search.HeldReferencesReferencesSteps.visit.Given.{Over}
use Rattle.et_flush.proofs.search.HeldReferencesReferencesSteps.visit.Goals.{After-rank_at-rank}
use Rattle.et_flush.proofs.search.HeldReferencesReferencesSteps.visit.Goals as goal
use Rattle.et_flush.proofs.search.HeldReferencesReferencesSteps.visit.Goals.{else-not-self-place-via-then-not-self-place+else-not-seen-place, else-not-self-place-via-else-not-self-place}

pub refs_of-targets-requires-clause-whole : goal.refs_of-targets-requires-clause-whole
refs_of-targets-requires-clause-whole g c = whole_at c.args.self.now.heap.now c.args.self.now.held.now c.args.self.now.ranks.now c.requires.object.searched _

pub targets-init : goal.targets-init
targets-init g c =
    let o : ℕ = get_or c.args.self.now.held.now c.place_of.result c.index-self-place_of.result in
    let pairs : List (ℕ × ℕ) = ranked_pairs c.args.self.now.ranks.now (pairs_of c.args.self.now.heap.now) in
    let here = here_at c.args.self.now.heap.now c.args.self.now.held.now c.args.self.now.ranks.now c.requires.object.searched c.args.object c.place_of.result c.index-self-place_of.result c.requires.object.one.one c.place_of.ensures.place in
    record {
      ready = c.requires.ready;
      visiting = visiting_none (pairs_left c.args.self.now.left_out.now pairs) c.args.object c.args.time c.args.times.now c.args.seen.now c.args.work.now.items;
      held = targets_held c.args.self.now.heap.now c.args.self.now.held.now c.args.self.now.ranks.now c.requires.object.searched o c.refs_of-targets.result here.0 c.refs_of-targets.ensures.value;
      left = targets_left c.args.self.now.heap.now c.args.self.now.held.now c.args.self.now.ranks.now c.requires.object.searched c.args.object o c.refs_of-targets.result here.0 here.1 c.refs_of-targets.ensures.value;
      done = λ k d. inl (targets_done c.args.self.now.heap.now c.args.self.now.held.now c.args.self.now.ranks.now c.requires.object.searched c.args.object o c.refs_of-targets.result here.0 here.1 c.refs_of-targets.ensures.value k (pair_left c.args.self.now.left_out.now pairs c.args.object k d).0);
      room = omega arith;
    }

pub rank_at-rank-requires : goal.rank_at-rank-requires
rank_at-rank-requires g c = (target_held c.args.self.now.heap.now c.args.self.now.held.now c.args.self.now.ranks.now c.requires.object.searched c.targets.targets c.next.new.self c.in-Some.target c.in-Some.ensures.steps c.targets.invariant.held).1.entry

pub place_of-place-requires : goal.place_of-place-requires
place_of-place-requires g c =
    let rank = c.rank_at-rank.ensures in
    let first = (target_held c.args.self.now.heap.now c.args.self.now.held.now c.args.self.now.ranks.now c.requires.object.searched c.targets.targets c.next.new.self c.in-Some.target c.in-Some.ensures.steps c.targets.invariant.held).1.first in
    omega (arith, rank, first)

pub bounds-self-place : goal.bounds-self-place
bounds-self-place g c =
    let rank = c.rank_at-rank.ensures in
    let target = (target_held c.args.self.now.heap.now c.args.self.now.held.now c.args.self.now.ranks.now c.requires.object.searched c.targets.targets c.next.new.self c.in-Some.target c.in-Some.ensures.steps c.targets.invariant.held).1 in
    let first = target.first in
    let last = target.last in
    omega (arith, rank, first, last, c.place_of-place.ensures.place, c.requires.object.flags)

-- the rank of the next object comes first of those that are left
next_first : (g : Over) (c : After-rank_at-rank g) → map (rank_of c.args.self.now.ranks.now) c.targets.targets ≡ c.rank_at-rank.result ∷ map (rank_of c.args.self.now.ranks.now) c.next.new.self
next_first g c = first_ranked c.args.self.now.ranks.now c.targets.targets c.next.new.self c.in-Some.target c.rank_at-rank.result c.in-Some.ensures.steps c.rank_at-rank.ensures

-- what isn't left out is one of the first ranks
pub bounds-seen-place : goal.bounds-seen-place
bounds-seen-place g c =
    let x : ℕ = c.rank_at-rank.result in
    let pairs : List (ℕ × ℕ) = ranked_pairs c.args.self.now.ranks.now (pairs_of c.args.self.now.heap.now) in
    let next = next_first g (goal.at.bounds-seen-place g c).After-rank_at-rank in
    let out : ¬ IsSet c.args.self.now.left_out.now x = λ s. both_ways (get_or c.args.self.now.left_out.now c.place_of-place.result false) c.if-not-self-place.true (ap (λ (i : ℕ). get_or c.args.self.now.left_out.now i false) (omega (arith, c.place_of-place.ensures.place)) ∙ s) in
    let there = left_pair c.args.self.now.left_out.now pairs c.args.object x (first_left pairs c.args.object x (map (rank_of c.args.self.now.ranks.now) c.targets.targets) (map (rank_of c.args.self.now.ranks.now) c.next.new.self) next c.targets.invariant.left) out in
    omega (arith, c.requires.within c.args.object x there, c.place_of-place.ensures.place, c.targets.invariant.ready.long, c.targets.auto.times)

pub mark-requires-clause-last : goal.mark-requires-clause-last
mark-requires-clause-last g c =
    let x : ℕ = c.rank_at-rank.result in
    let pairs : List (ℕ × ℕ) = ranked_pairs c.args.self.now.ranks.now (pairs_of c.args.self.now.heap.now) in
    let next = next_first g (goal.at.mark-requires-clause-last g c).After-rank_at-rank in
    let out : ¬ IsSet c.args.self.now.left_out.now x = λ s. both_ways (get_or c.args.self.now.left_out.now c.place_of-place.result false) c.if-not-self-place.true (ap (λ (i : ℕ). get_or c.args.self.now.left_out.now i false) (omega (arith, c.place_of-place.ensures.place)) ∙ s) in
    let there = left_pair c.args.self.now.left_out.now pairs c.args.object x (first_left pairs c.args.object x (map (rank_of c.args.self.now.ranks.now) c.targets.targets) (map (rank_of c.args.self.now.ranks.now) c.next.new.self) next c.targets.invariant.left) out in
    omega (arith, c.requires.within c.args.object x there, c.targets.auto.times)

pub mark-requires-clause-unseen : goal.mark-requires-clause-unseen
mark-requires-clause-unseen g c = λ s. both_ways (get_or c.targets.seen c.place_of-place.result false) c.if-not-seen-place.true (ap (λ (i : ℕ). get_or c.targets.seen i false) (omega (arith, c.place_of-place.ensures.place)) ∙ s)

pub targets-preserved-then-not-seen-place : goal.targets-preserved-then-not-seen-place
targets-preserved-then-not-seen-place g c =
    let x : ℕ = c.rank_at-rank.result in
    let times : List ℕ = c.targets.times in
    let seen : List Bool = c.targets.seen in
    let pairs : List (ℕ × ℕ) = ranked_pairs c.args.self.now.ranks.now (pairs_of c.args.self.now.heap.now) in
    let some : List (ℕ × ℕ) = pairs_left c.args.self.now.left_out.now pairs in
    let ts : List ℕ = map (rank_of c.args.self.now.ranks.now) c.targets.targets in
    let rest : List ℕ = map (rank_of c.args.self.now.ranks.now) c.next.new.self in
    let next = next_first g (goal.at.targets-preserved-then-not-seen-place g c).After-rank_at-rank in
    let place : x - 1 ≡ c.place_of-place.result = omega (arith, c.place_of-place.ensures.place) in
    let out : ¬ IsSet c.args.self.now.left_out.now x = λ s. both_ways (get_or c.args.self.now.left_out.now c.place_of-place.result false) c.if-not-self-place.true (ap (λ (i : ℕ). get_or c.args.self.now.left_out.now i false) (sym place) ∙ s) in
    let there : Contains some (c.args.object, x) = left_pair c.args.self.now.left_out.now pairs c.args.object x (first_left pairs c.args.object x ts rest next c.targets.invariant.left) out in
    let within : x - 1 < length times = omega (arith, c.requires.within c.args.object x there, c.targets.auto.times) in
    let long : length seen ≡ length times = c.targets.invariant.ready.long in
    let inside : x - 1 < length seen = omega (arith, long, within) in
    let unseen : ¬ IsSet seen x = λ s. both_ways (get_or seen c.place_of-place.result false) c.if-not-seen-place.true (ap (λ (i : ℕ). get_or seen i false) (sym place) ∙ s) in
    record {
      ready = c.mark.ensures.ready;
      visiting =
          rw (c.mark.ensures.times, c.mark.ensures.seen, c.mark.ensures.work)
          (visiting_mark some c.args.object c.args.time (length c.args.times.now) c.args.times.now c.args.seen.now c.args.work.now.items times seen c.targets.work.items x
          c.requires.within there long within unseen c.targets.invariant.visiting);
      held = left_there (λ y. IsHeld c.args.self.now.heap.now y) c.in-Some.target c.targets.targets c.next.new.self c.in-Some.ensures.steps c.targets.invariant.held;
      left = left_there (λ y. Contains pairs (c.args.object, y)) x ts rest next c.targets.invariant.left;
      done =
          rw c.mark.ensures.seen
          (done_more (λ y. Contains some (c.args.object, y)) x ts rest seen (set seen (x - 1) true) next (set_keeps seen x inside) (λ _. set_here seen x inside) c.targets.invariant.done);
      room = omega (arith, c.mark.ensures.grows, c.targets.invariant.room);
    }

pub targets-preserved : goal.targets-preserved
targets-preserved g c =
    let x : ℕ = c.rank_at-rank.result in
    let pairs : List (ℕ × ℕ) = ranked_pairs c.args.self.now.ranks.now (pairs_of c.args.self.now.heap.now) in
    let some : List (ℕ × ℕ) = pairs_left c.args.self.now.left_out.now pairs in
    let ts : List ℕ = map (rank_of c.args.self.now.ranks.now) c.targets.targets in
    let rest : List ℕ = map (rank_of c.args.self.now.ranks.now) c.next.new.self in
    let next = next_first g (goal.at.targets-preserved g c).After-rank_at-rank in
    let place : x - 1 ≡ c.place_of-place.result = omega (arith, c.place_of-place.ensures.place) in
    let here : Contains some (c.args.object, x) → IsSet c.targets.seen x =
    λ d. elim c.else-not-self-place.branch [
      | else-not-self-place-via-then-not-self-place+else-not-seen-place w ↦ ap (λ (i : ℕ). get_or c.targets.seen i false) place ∙ w.if-not-seen-place.false
      | else-not-self-place-via-else-not-self-place w ↦ absurd ((pair_left c.args.self.now.left_out.now pairs c.args.object x d).1 (ap (λ (i : ℕ). get_or c.args.self.now.left_out.now i false) place ∙ w.if-not-self-place.false))
    ] in
    record {
      ready = c.targets.invariant.ready;
      visiting = c.targets.invariant.visiting;
      held = left_there (λ y. IsHeld c.args.self.now.heap.now y) c.in-Some.target c.targets.targets c.next.new.self c.in-Some.ensures.steps c.targets.invariant.held;
      left = left_there (λ y. Contains pairs (c.args.object, y)) x ts rest next c.targets.invariant.left;
      done = done_more (λ y. Contains some (c.args.object, y)) x ts rest c.targets.seen c.targets.seen next (λ y s. s) here c.targets.invariant.done;
      room = c.targets.invariant.room;
    }

pub returns-clause-visits : goal.returns-clause-visits
returns-clause-visits g c =
    let some : List (ℕ × ℕ) = pairs_left c.args.self.now.left_out.now (ranked_pairs c.args.self.now.ranks.now (pairs_of c.args.self.now.heap.now)) in
    visiting_all some c.args.object c.args.time c.args.times.now c.args.seen.now c.args.work.now.items c.targets.times c.targets.seen c.targets.work.items
    (all_done (λ y. Contains some (c.args.object, y)) (map (rank_of c.args.self.now.ranks.now) c.targets.targets) c.targets.seen (ap (λ (vs : List ℕ). map (rank_of c.args.self.now.ranks.now) vs) c.in_default.ensures.steps.0) c.targets.invariant.done)
    c.targets.invariant.visiting
