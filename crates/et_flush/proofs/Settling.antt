-- The times that a search finds, by the ranks of the objects, tell which objects are reached.
use Rattle.std.proofs.Common.{◌≡◌, ℕ, ◌-◌, ◌<◌, ◌≤◌, List, [], ◌∷◌, length, get_or, map, Contains, sym, ◌∙◌, ap, subst, arith}
use Rattle.et_graph.specs.Graph.{IsWalk, Leads, IsReached}
use Rattle.et_graph.specs.Listed.{IsGreatest}
use Rattle.et_graph.specs.Times.{set_each, ArePositive, Carries, AreSettled}
use Rattle.et_graph.proofs.Carrying.{carried_greatest, set_each_in, set_each_out}
use Rattle.et_heap.specs.Objects.{Objects, IsHeld}
use Rattle.et_heap.specs.Refs.{pairs_of}
use Rattle.et_heap.proofs.HeapLists.{pair_at, pair_held, gone_at}
use Rattle.et_flush.specs.declared.times.TheConstants.{NOW}
use Rattle.et_flush.specs.declared.ranks.Ranks.{Ranks}
use Rattle.et_flush.specs.Ranks.{rank_of, time_of, ranked_pairs}
use Rattle.et_flush.specs.Searches.{AreTimes, IsSearched}
use Rattle.et_flush.specs.Works.{IsSettled}
use Rattle.et_flush.specs.Flushes.{heap_graph}
use Rattle.et_flush.proofs.Searching.{mapped, mapped_from, held_rank, rank_once, lead_ranked, lead_back}

-- what leads to an object that is held is held
walk_held : (heap : Objects) (u : ℕ) (walk : List ℕ) (o : ℕ) → IsWalk (pairs_of heap) u walk o → IsHeld heap o → IsHeld heap u
walk_held heap u [] o w held = subst (λ (k : ℕ). IsHeld heap k) (sym w) held
walk_held heap u (x ∷ walk) o w held = pair_held heap u x (pair_at heap u x w.0)

pub lead_held : (heap : Objects) (u o : ℕ) → Leads (pairs_of heap) u o → IsHeld heap o → IsHeld heap u
lead_held heap u o l held = walk_held heap u l.0 o l.1 held

module _ (heap : Objects) (roots stamps held first times : List ℕ) (ranks : Ranks) (roots_held : (o : ℕ) → Contains roots o → IsHeld heap o)
    (is : IsSearched heap held ranks) (begins : AreTimes held stamps first) (carries : Carries (ranked_pairs ranks (pairs_of heap)) (set_each (map (rank_of ranks) roots) NOW first) times)
    (settled : AreSettled (ranked_pairs ranks (pairs_of heap)) times) where
  abbrev start : List ℕ
  start = set_each (map (rank_of ranks) roots) NOW first

  positive : ArePositive (map (rank_of ranks) roots)
  positive k c =
      let m = mapped_from (rank_of ranks) roots k c in
      let above = (held_rank heap held ranks is.all is.ranked m.0 (roots_held m.0 m.1)).0.first in
      omega (arith, above, m.2)

  greater : (u o : ℕ) → Leads (pairs_of heap) u o → get_or start (rank_of ranks u - 1) 0 ≤ time_of ranks times o
  greater u o leads = carried_greatest (ranked_pairs ranks (pairs_of heap)) start times carries settled (rank_of ranks u) (rank_of ranks o) (lead_ranked ranks (pairs_of heap) u o leads)

  -- an object that is reached has a time of NOW at least
  reached_now : (o : ℕ) → IsReached (heap_graph heap roots) o → NOW ≤ time_of ranks times o
  reached_now o (root, c, leads) =
      let r = (held_rank heap held ranks is.all is.ranked root (roots_held root c)).0 in
      let above = r.first in
      let last = r.last in
      let fits : rank_of ranks root - 1 < length first = omega (arith, above, last, begins.long) in
      let now : get_or start (rank_of ranks root - 1) 0 ≡ NOW = set_each_in (map (rank_of ranks) roots) NOW first (rank_of ranks root) positive above fits (mapped (rank_of ranks) roots root c) in
      omega (arith, now, greater root o leads)

  -- an object that is no root begins with its stamp
  begins_stamped : (u : ℕ) → IsHeld heap u → ¬ Contains roots u → get_or start (rank_of ranks u - 1) 0 ≡ get_or stamps u 0
  begins_stamped u h out =
      let r = held_rank heap held ranks is.all is.ranked u h in
      let above = r.0.first in
      let last = r.0.last in
      let inside : rank_of ranks u - 1 < length held = omega (arith, above, last) in
      let no_root : ¬ Contains (map (rank_of ranks) roots) (rank_of ranks u) = λ c.
      let m = mapped_from (rank_of ranks) roots (rank_of ranks u) c in
      out (subst (λ (z : ℕ). Contains roots z) (rank_once heap held ranks is.all is.ranked m.0 u (roots_held m.0 m.1) h m.2) m.1) in
      set_each_out (map (rank_of ranks) roots) NOW first (rank_of ranks u) positive above no_root
      ∙ (begins.each (rank_of ranks u - 1) inside ∙ ap (λ (z : ℕ). get_or stamps z 0) r.1)

  -- the time of an object that isn't reached is the greatest stamp that leads to it
  unreached_time : (o : ℕ) → IsHeld heap o → ¬ IsReached (heap_graph heap roots) o → IsGreatest (heap_graph heap roots) (λ u. get_or stamps u 0) o (time_of ranks times o)
  unreached_time o h unreached =
      let from = carries.carried (rank_of ranks o) (held_rank heap held ranks is.all is.ranked o h).0.first in
      let back = lead_back heap held ranks is from.0 o h from.2 in
      let stamped = begins_stamped back.0 back.1 (λ c. unreached (back.0, c, back.3)) in
      record {
        source = (back.0, (λ c. (gone_at heap back.0 c).2 back.1), back.3, sym stamped ∙ (ap (λ (k : ℕ). get_or start (k - 1) 0) back.2 ∙ sym from.3));
        greatest = λ u here leads.
            let there : IsHeld heap u = lead_held heap u o leads h in
            omega (arith, begins_stamped u there (λ c. unreached (u, c, leads)), greater u o leads);
      }

  pub settled_is : IsSettled heap roots stamps (time_of ranks times)
  settled_is = record { reached = λ o _ r. reached_now o r; unreached = unreached_time }
