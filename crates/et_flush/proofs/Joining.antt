-- Two searches, the second over what the first left.
use Rattle.std.proofs.Common.{◌≡◌, ℕ, suc, zero, ◌+◌, ◌-◌, ◌<◌, ◌≤◌, Bool, true, false, not, List, [], ◌∷◌, length, get_or, Contains, All, refl, sym, ◌∙◌, ap, subst, inl, inr, arith}
use Rattle.std.specs.Prelude.{if◌then◌else◌}
use Rattle.std.proofs.lemmas.Bool.{not_from_false, not-true, both_ways}
use Rattle.std.proofs.lemmas.List.{get_or_default}
use Rattle.std.proofs.lemmas.List.Sums.{sum_by-cons}
use Rattle.et_base.proofs.Lists.{filter_keeps, filter_kept}
use Rattle.et_graph.specs.Graph.{Leads}
use Rattle.et_graph.specs.Times.{set_each, ArePairsAmong, Carries, AreSettled, IsSet, unset_count, IsSpread, AreFollowed}
use Rattle.et_graph.proofs.Carrying.{carries_none, set_each_in, All-set_each}
use Rattle.et_graph.proofs.Spreading.{cases_set, unset_is}
use Rattle.et_graph.proofs.Walks.{walk_more}
use Rattle.et_flush.specs.declared.times.TheConstants.{NOW}
use Rattle.et_flush.specs.Reaches.{AreMarked, FollowsPairs, AreReached}
use Rattle.et_flush.specs.Searches.{pairs_left}

-- THE PAIRS THAT ARE LEFT

pub left_pair : (left_out : List Bool) (pairs : List (ℕ × ℕ)) (u x : ℕ) → Contains pairs (u, x) → ¬ IsSet left_out x → Contains (pairs_left left_out pairs) (u, x)
left_pair left_out pairs u x c out = filter_keeps (λ (p : ℕ × ℕ). not (get_or left_out (p.1 - 1) false)) pairs (u, x) c (not_from_false (get_or left_out (x - 1) false) (unset_is left_out x out))

pub pair_left : (left_out : List Bool) (pairs : List (ℕ × ℕ)) (u x : ℕ) → Contains (pairs_left left_out pairs) (u, x) → Contains pairs (u, x) × ¬ IsSet left_out x
pair_left left_out pairs u x c =
    let kept = filter_kept (λ (p : ℕ × ℕ). not (get_or left_out (p.1 - 1) false)) pairs (u, x) c in
    (kept.0, λ s. both_ways (get_or left_out (x - 1) false) (not-true (get_or left_out (x - 1) false) kept.1) s)

-- what came along some of the pairs came along the pairs
pub carries_among : (some pairs : List (ℕ × ℕ)) (old new : List ℕ) → ((u x : ℕ) → Contains some (u, x) → Contains pairs (u, x)) → Carries some old new → Carries pairs old new
carries_among some pairs old new more carries = record {
  kept_length = carries.kept_length;
  raised = carries.raised;
  carried = λ o above.
      let from = carries.carried o above in
      let leads : Leads pairs from.0 o = (from.2.0, walk_more some pairs more from.0 from.2.0 o from.2.1) in
      (from.0, from.1, leads, from.3);
}

-- what isn't above t is still not
pub carries_below : (pairs : List (ℕ × ℕ)) (old new : List ℕ) (t : ℕ) → Carries pairs old new → All (λ v. v ≤ t) old → (o : ℕ) → 0 < o → get_or new (o - 1) 0 ≤ t
carries_below pairs old new t carries below o above =
    let from = carries.carried o above in
    omega (arith, from.3, at_most old t (from.0 - 1) below)
  where
    at_most : (times : List ℕ) (t i : ℕ) → All (λ v. v ≤ t) times → get_or times i 0 ≤ t
    at_most [] t i all = omega arith
    at_most (v ∷ times) t zero all = all 0 0 (omega arith)
    at_most (v ∷ times) t (suc i) all = at_most times t i (λ k d lt. all (suc k) d (omega arith))

pub All-carries : (pairs : List (ℕ × ℕ)) (old new : List ℕ) (t : ℕ) → Carries pairs old new → All (λ v. v ≤ t) old → All (λ v. v ≤ t) new
All-carries pairs old new t carries below k d lt =
    let e : suc k - 1 ≡ k = omega arith in
    let at : get_or new (suc k - 1) 0 ≡ get_or new k d = ap (λ (i : ℕ). get_or new i 0) e ∙ sym (get_or_default new k d 0 lt) in
    omega (arith, at, carries_below pairs old new t carries below (suc k) (omega arith))

-- THE FIRST SEARCH

-- what is marked has the time NOW, and all else has NOW or less
pub marked_spread : (pairs : List (ℕ × ℕ)) (ranks times start : List ℕ) (seen : List Bool) (waiting : List ℕ) → start ≡ set_each ranks NOW times → ((u x : ℕ) → Contains pairs (u, x) → 0 < x) → ((o : ℕ) → Contains ranks o → (0 < o) × (o ≤ length times)) → All (λ t. t ≤ NOW) start → AreMarked ranks seen waiting → IsSpread pairs start NOW start seen waiting
marked_spread pairs ranks times start seen waiting is positive within below marked = record {
  carries = carries_none pairs start;
  kept = λ o _ _. refl;
  above = λ u o c s. let po = positive u o c in omega (arith, at o (marked.wait o po s));
  below = λ u o c _. carries_below pairs start start NOW (carries_none pairs start) below o (positive u o c);
  waiting = λ o c. ((within o (marked.marked o c).1).0, (marked.marked o c).0, at o c);
}
  where
    at : (o : ℕ) → Contains waiting o → get_or start (o - 1) 0 ≡ NOW
    at o c =
        let there = (marked.marked o c).1 in
        let one = within o there in
        ap (λ (ts : List ℕ). get_or ts (o - 1) 0) is ∙ set_each_in ranks NOW times o (λ y d. (within y d).0) one.0 (let last = one.1 in let first = one.0 in omega (arith, first, last)) there

pub marked_followed : (pairs : List (ℕ × ℕ)) (ranks times : List ℕ) (seen : List Bool) (waiting : List ℕ) → ((u x : ℕ) → Contains pairs (u, x) → 0 < u) → AreMarked ranks seen waiting → AreFollowed pairs times seen (λ v. Contains waiting v)
marked_followed pairs ranks times seen waiting positive marked u x c s = inl (marked.wait u (positive u x c) s)

-- what is followed from the marked ranks is reached, where nothing is left out
module _ (left_out : List Bool) (pairs : List (ℕ × ℕ)) (ranks times start : List ℕ) (seen : List Bool) (waiting times' : List ℕ) (seen' : List Bool)
    (none : (o : ℕ) → ¬ IsSet left_out o) (ends : ArePairsAmong (λ o. 0 < o) pairs) (within : (o : ℕ) → Contains ranks o → (0 < o) × (o ≤ length times)) (below : All (λ t. t ≤ NOW) times)
    (is : start ≡ set_each ranks NOW times) (marked : AreMarked ranks seen waiting) (follows : FollowsPairs (pairs_left left_out pairs) NOW start seen waiting times' seen') where
  followed : IsSpread (pairs_left left_out pairs) start NOW times' seen' [] × AreFollowed (pairs_left left_out pairs) times' seen' (λ v. ⊥)
  followed =
      follows.spreads start
      (marked_spread (pairs_left left_out pairs) ranks times start seen waiting is (λ u x c. (ends u x (pair_left left_out pairs u x c).0).1) within
      (subst (λ (ts : List ℕ). All (λ t. t ≤ NOW) ts) (sym is) (All-set_each NOW ranks NOW times (omega arith) below)) marked)
      (marked_followed (pairs_left left_out pairs) ranks start seen waiting (λ u x c. (ends u x (pair_left left_out pairs u x c).0).0) marked)

  followed_carries : Carries pairs (set_each ranks NOW times) times'
  followed_carries = subst (λ (ts : List ℕ). Carries pairs ts times') is (carries_among (pairs_left left_out pairs) pairs start times' (λ u x c. (pair_left left_out pairs u x c).0) followed.0.carries)

  followed_reached : AreReached pairs times' seen'
  followed_reached = record {
    closed = λ u x c s. elim (followed.1 u x (left_pair left_out pairs u x c (none x)) s) [ inl never ↦ absurd never | inr r ↦ r.0 ];
    now = λ u x c s. followed.0.above u x (left_pair left_out pairs u x c (none x)) s;
  }

  pub followed_both : Carries pairs (set_each ranks NOW times) times' × AreReached pairs times' seen'
  followed_both = (followed_carries, followed_reached)

-- BOTH

-- the times are settled once they are along the pairs that were left
pub joined_settled : (pairs : List (ℕ × ℕ)) (times times' : List ℕ) (reached : List Bool) → ((u x : ℕ) → Contains pairs (u, x) → 0 < u) → All (λ t. t ≤ NOW) times → AreReached pairs times reached → Carries (pairs_left reached pairs) times times' → AreSettled (pairs_left reached pairs) times' → AreSettled pairs times'
joined_settled pairs times times' reached positive below are carries settled u x c =
    elim (cases_set reached x) [
      | inl s ↦
          let most = carries_below (pairs_left reached pairs) times times' NOW carries below u (positive u x c) in
          omega (arith, most, are.now u x c s, carries.raised x)
      | inr out ↦ settled u x (left_pair reached pairs u x c out)
    ]

-- VISITS

-- two lists of flags of which no place is set in both
pub apart_count : (a b : List Bool) → length a ≡ length b → ((o : ℕ) → 0 < o → IsSet a o → ¬ IsSet b o) → length a ≤ unset_count a + unset_count b
apart_count [] b long apart = omega arith
apart_count (x ∷ a) [] long apart = absurd (omega arith)
apart_count (x ∷ a) (y ∷ b) long apart =
    let rest = apart_count a b (omega arith) (λ o po s t. apart (suc o) (omega arith) (next a x o po s) (next b y o po t)) in
    let one = weights x y (apart 1 (omega arith)) in
    omega (arith, sum_by-cons (λ (c : Bool). if c then 0 else 1) x a, sum_by-cons (λ (c : Bool). if c then 0 else 1) y b, rest, one)
  where
    next : (flags : List Bool) (f : Bool) (o : ℕ) → 0 < o → IsSet flags o → IsSet (f ∷ flags) (suc o)
    next flags f zero po s = absurd (omega arith)
    next flags f (suc o) po s = ap (λ (i : ℕ). get_or (f ∷ flags) i false) (let e : suc (suc o) - 1 ≡ suc o = omega arith in e) ∙ (ap (λ (i : ℕ). get_or flags i false) (let e : o ≡ suc o - 1 = omega arith in e) ∙ s)

    weights : (x y : Bool) → (x ≡ true → ¬ (y ≡ true)) → 1 ≤ (if x then 0 else 1) + (if y then 0 else 1)
    weights true true out = absurd (out refl refl)
    weights true false out = omega arith
    weights false y out = omega arith
