use Rattle.std.proofs.Common.{ℕ, length, map, refl, sym, subst}
use Rattle.et_heap.specs.Refs.{pairs_of}
use Rattle.et_graph.specs.Times.{set_each, Carries}
use Rattle.et_flush.specs.Reaches.{AreReached}
use Rattle.et_flush.specs.declared.times.TheConstants.{NOW}
use Rattle.et_flush.specs.Ranks.{rank_of, ranked_pairs, HasRank}
use Rattle.et_flush.proofs.Searching.{held_rank, ranks_within, pairs_one, pairs_searched}
use Rattle.et_flush.proofs.Joining.{followed_both}
use Rattle.et_flush.proofs.reach.reach.Given.{Over}
use Rattle.et_flush.proofs.reach.reach.Goals.{After-follow}
use Rattle.et_flush.proofs.reach.reach.Goals as goal

pub mark_roots-requires-clause-ranked : goal.mark_roots-requires-clause-ranked
mark_roots-requires-clause-ranked g c = λ o d.
    subst (λ (n : ℕ). HasRank c.args.references.now.ranks.now n o) (sym c.requires.long)
    (held_rank c.args.references.now.heap.now c.args.references.now.held.now c.args.references.now.ranks.now c.requires.searched.all c.requires.searched.ranked o (c.requires.roots o d)).0

pub follow-requires-clause-pairs : goal.follow-requires-clause-pairs
follow-requires-clause-pairs g c =
    pairs_searched c.args.references.now.heap.now c.args.references.now.held.now c.args.references.now.ranks.now c.requires.searched c.args.references.now.left_out.now c.requires.flags
    (λ a b _ s. absurd (c.requires.all a s))

pub follow-requires-clause-waits : goal.follow-requires-clause-waits
follow-requires-clause-waits g c = λ o d. record {
  searched = c.requires.searched;
  flags = c.requires.flags;
  one = record {
    one = ranks_within c.args.references.now.heap.now c.args.references.now.held.now c.args.references.now.ranks.now c.requires.searched (length c.args.references.now.held.now) c.args.roots.now refl c.requires.roots o (c.mark_roots.ensures.marked.marked o d).1;
    left = c.requires.all o;
  };
}

-- what was followed is what the roots lead to
followed : (g : Over) (c : After-follow g) → Carries (ranked_pairs c.args.references.now.ranks.now (pairs_of c.args.references.now.heap.now)) (set_each (map (rank_of c.args.references.now.ranks.now) c.args.roots.now) NOW c.args.times.now) c.follow.new.times × AreReached (ranked_pairs c.args.references.now.ranks.now (pairs_of c.args.references.now.heap.now)) c.follow.new.times c.follow.new.seen
followed g c =
    let ends = pairs_one c.args.references.now.heap.now c.args.references.now.held.now c.args.references.now.ranks.now c.requires.searched in
    followed_both c.args.references.now.left_out.now (ranked_pairs c.args.references.now.ranks.now (pairs_of c.args.references.now.heap.now)) (map (rank_of c.args.references.now.ranks.now) c.args.roots.now) c.args.times.now c.mark_roots.new.times c.mark_roots.new.seen c.mark_roots.new.waiting.items c.follow.new.times c.follow.new.seen
    c.requires.all (λ u x d. ((ends u x d).0.0, (ends u x d).1.0))
    (ranks_within c.args.references.now.heap.now c.args.references.now.held.now c.args.references.now.ranks.now c.requires.searched (length c.args.times.now) c.args.roots.now c.requires.long c.requires.roots)
    c.requires.below c.mark_roots.ensures.times c.mark_roots.ensures.marked c.follow.ensures.follows

pub returns-clause-carries : goal.returns-clause-carries
returns-clause-carries g c = (followed g (goal.at.returns-clause-carries g c).After-follow).0

pub returns-clause-reached : goal.returns-clause-reached
returns-clause-reached g c = (followed g (goal.at.returns-clause-reached g c).After-follow).1
