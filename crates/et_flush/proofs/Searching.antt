-- A search over the objects that are held, by their ranks.
use Rattle.std.proofs.Common.{◌≡◌, ℕ, ◌+◌, ◌-◌, ◌<◌, Bool, List, [], ◌∷◌, length, get_or, map, Contains, refl, sym, ◌∙◌, ap, subst, inl, inr, arith}
use Rattle.std.proofs.lemmas.List.{get_or_default}
use Rattle.std.proofs.lemmas.List.Elements.{Contains-get_or}
use Rattle.et_base.proofs.Lists.{Contains-none, Contains-here, Contains-there, Contains-cons}
use Rattle.et_graph.specs.Graph.{IsWalk, Leads}
use Rattle.et_graph.specs.Times.{ArePairsAmong, IsSet}
use Rattle.et_graph.specs.Order.{IsOneOf, IsOrder}
use Rattle.et_graph.specs.declared.objects.Death.{Death}
use Rattle.et_heap.specs.Objects.{Objects, IsHeld, object_at}
use Rattle.et_heap.specs.Queues.{IsWhole}
use Rattle.et_heap.specs.Refs.{leads_to, pairs_of}
use Rattle.et_heap.proofs.HeapLists.{pair_at, pair_held}
use Rattle.et_state.proofs.UnderWay.{waiting_pair}
use Rattle.et_flush.specs.declared.ranks.Ranks.{Ranks}
use Rattle.et_flush.specs.Ranks.{rank_of, time_of, HasRank, AreRanked, ranked_pairs}
use Rattle.et_flush.specs.Searches.{AreAllHeld, AreFlagsOf, IsLeftRank, IsSearched, IsSearchedRank, pairs_left}
use Rattle.et_flush.proofs.Joining.{pair_left}
use Rattle.et_flush.proofs.Targets.{target_pair, pair_target}

-- MAPPED LISTS

pub mapped : {A B : Type 0} → (f : A → B) (xs : List A) (x : A) → Contains xs x → Contains (map f xs) (f x)
mapped f [] x c = absurd (Contains-none x c)
mapped f (y ∷ ys) x c =
    elim (Contains-cons y ys x c) [
      | inl e ↦ subst (λ z. Contains (f y ∷ map f ys) (f z)) e (Contains-here (f y) (map f ys))
      | inr d ↦ Contains-there (f y) (map f ys) (f x) (mapped f ys x d)
    ]

pub mapped_from : {A B : Type 0} → (f : A → B) (xs : List A) (y : B) → Contains (map f xs) y → (x : A) × Contains xs x × (f x ≡ y)
mapped_from f [] y c = absurd (Contains-none y c)
mapped_from f (x ∷ xs) y c =
    elim (Contains-cons (f x) (map f xs) y c) [
      | inl e ↦ (x, Contains-here x xs, e)
      | inr d ↦ let r = mapped_from f xs y d in (r.0, Contains-there x xs r.0 r.1, r.2)
    ]

-- the pair is there, by the ranks of its objects
pub pair_ranked : (ranks : Ranks) (pairs : List (ℕ × ℕ)) (u x : ℕ) → Contains pairs (u, x) → Contains (ranked_pairs ranks pairs) (rank_of ranks u, rank_of ranks x)
pair_ranked ranks pairs u x c = mapped (λ (p : ℕ × ℕ). (rank_of ranks p.0, rank_of ranks p.1)) pairs (u, x) c

pub ranked_pair : (ranks : Ranks) (pairs : List (ℕ × ℕ)) (a b : ℕ) → Contains (ranked_pairs ranks pairs) (a, b) → (u : ℕ) × (x : ℕ) × Contains pairs (u, x) × (rank_of ranks u ≡ a) × (rank_of ranks x ≡ b)
ranked_pair ranks pairs a b c =
    let r = mapped_from (λ (p : ℕ × ℕ). (rank_of ranks p.0, rank_of ranks p.1)) pairs (a, b) c in
    (r.0.0, r.0.1, r.1, ap (λ (p : ℕ × ℕ). p.0) r.2, ap (λ (p : ℕ × ℕ). p.1) r.2)

-- RANKS

pub held_rank : (heap : Objects) (held : List ℕ) (ranks : Ranks) → AreAllHeld heap held → AreRanked held ranks → (o : ℕ) → IsHeld heap o → HasRank ranks (length held) o × (get_or held (rank_of ranks o - 1) 0 ≡ o)
held_rank heap held ranks all ranked o h =
    let c = (all.exact o).1 h in
    let at : get_or held c.0 0 ≡ o = sym (get_or_default held c.0 o 0 c.1) ∙ c.2 in
    let r = ranked c.0 c.1 in
    let place : rank_of ranks o - 1 ≡ c.0 = let e = r.1 in let f : rank_of ranks (get_or held c.0 0) ≡ rank_of ranks o = ap (λ (z : ℕ). rank_of ranks z) at in omega (arith, e, f) in
    (subst (λ (z : ℕ). HasRank ranks (length held) z) at r.0, ap (λ (k : ℕ). get_or held k 0) place ∙ at)

-- two objects with one rank are the same
pub rank_once : (heap : Objects) (held : List ℕ) (ranks : Ranks) → AreAllHeld heap held → AreRanked held ranks → (o u : ℕ) → IsHeld heap o → IsHeld heap u → rank_of ranks o ≡ rank_of ranks u → o ≡ u
rank_once heap held ranks all ranked o u h k same =
    sym (held_rank heap held ranks all ranked o h).1 ∙ (ap (λ (r : ℕ). get_or held (r - 1) 0) same ∙ (held_rank heap held ranks all ranked u k).1)

-- the time of a listed object stands at its place
pub time_ranked : (held times : List ℕ) (ranks : Ranks) (i : ℕ) → AreRanked held ranks → i < length held → get_or times i 0 ≡ time_of ranks times (get_or held i 0)
time_ranked held times ranks i ranked lt = ap (λ (k : ℕ). get_or times k 0) (let e = (ranked i lt).1 in let place : i ≡ rank_of ranks (get_or held i 0) - 1 = omega (arith, e) in place)

-- the object with a rank
pub rank_held : (heap : Objects) (held : List ℕ) (ranks : Ranks) → AreAllHeld heap held → AreRanked held ranks → (rank : ℕ) → IsOneOf (length held) rank → IsHeld heap (get_or held (rank - 1) 0) × (rank_of ranks (get_or held (rank - 1) 0) ≡ rank)
rank_held heap held ranks all ranked rank one =
    let inside : rank - 1 < length held = let first = one.0 in let last = one.1 in omega arith in
    let e = (ranked (rank - 1) inside).1 in
    ((all.exact (get_or held (rank - 1) 0)).0 (Contains-get_or held (rank - 1) 0 inside), let first = one.0 in omega (arith, e))

-- WALKS

pub lead_ranked : (ranks : Ranks) (pairs : List (ℕ × ℕ)) (u o : ℕ) → Leads pairs u o → Leads (ranked_pairs ranks pairs) (rank_of ranks u) (rank_of ranks o)
lead_ranked ranks pairs u o (walk, w) = (map (λ x. rank_of ranks x) walk, walk_ranked walk u w) where
  walk_ranked : (walk : List ℕ) (v : ℕ) → IsWalk pairs v walk o → IsWalk (ranked_pairs ranks pairs) (rank_of ranks v) (map (λ x. rank_of ranks x) walk) (rank_of ranks o)
  walk_ranked [] v w = ap (λ (x : ℕ). rank_of ranks x) w
  walk_ranked (x ∷ walk) v w = (pair_ranked ranks pairs v x w.0, walk_ranked walk x w.1)

module _ (heap : Objects) (held : List ℕ) (ranks : Ranks) (is : IsSearched heap held ranks) where
  walk_back : (walk : List ℕ) (a o : ℕ) → IsHeld heap o → IsWalk (ranked_pairs ranks (pairs_of heap)) a walk (rank_of ranks o) → (u : ℕ) × IsHeld heap u × (rank_of ranks u ≡ a) × Leads (pairs_of heap) u o
  walk_back [] a o h w = (o, h, sym w, ([], refl))
  walk_back (b ∷ walk) a o h w =
      let rest = walk_back walk b o h w.1 in
      let p = ranked_pair ranks (pairs_of heap) a b w.0 in
      let there : IsHeld heap p.1 = is.pairs p.0 p.1 p.2 in
      let same : p.1 ≡ rest.0 = rank_once heap held ranks is.all is.ranked p.1 rest.0 there rest.1 (p.4 ∙ sym rest.2) in
      (p.0, pair_held heap p.0 p.1 (pair_at heap p.0 p.1 p.2), p.3, (rest.0 ∷ rest.3.0, (subst (λ (x : ℕ). Contains (pairs_of heap) (p.0, x)) same p.2, rest.3.1)))

  -- what leads to the rank of an object is the rank of one that leads to it
  pub lead_back : (a o : ℕ) → IsHeld heap o → Leads (ranked_pairs ranks (pairs_of heap)) a (rank_of ranks o) → (u : ℕ) × IsHeld heap u × (rank_of ranks u ≡ a) × Leads (pairs_of heap) u o
  lead_back a o h (walk, w) = walk_back walk a o h w

  pub rank_one : (o : ℕ) → IsHeld heap o → IsOneOf (length held) (rank_of ranks o)
  rank_one o h = let r = (held_rank heap held ranks is.all is.ranked o h).0 in (r.first, r.last)

  pub ranks_within : (n : ℕ) (os : List ℕ) → n ≡ length held → ((o : ℕ) → Contains os o → IsHeld heap o) → (k : ℕ) → Contains (map (rank_of ranks) os) k → IsOneOf n k
  ranks_within n os long are k c =
      let m = mapped_from (rank_of ranks) os k c in
      subst (λ (i : ℕ). IsOneOf i k) (sym long) (subst (λ (i : ℕ). IsOneOf (length held) i) m.2 (rank_one m.0 (are m.0 m.1)))

  -- each pair joins the ranks of two objects
  pub pairs_one : ArePairsAmong (IsOneOf (length held)) (ranked_pairs ranks (pairs_of heap))
  pairs_one a b c =
      let p = ranked_pair ranks (pairs_of heap) a b c in
      (subst (λ (k : ℕ). IsOneOf (length held) k) p.3 (rank_one p.0 (pair_held heap p.0 p.1 (pair_at heap p.0 p.1 p.2))), subst (λ (k : ℕ). IsOneOf (length held) k) p.4 (rank_one p.1 (is.pairs p.0 p.1 p.2)))

  -- WHAT IS LEFT OUT leads to nothing else

  module _ (left_out : List Bool) (flags : AreFlagsOf held left_out) where
    pub pairs_searched : ((a b : ℕ) → Contains (ranked_pairs ranks (pairs_of heap)) (a, b) → IsSet left_out a → IsSet left_out b) → ArePairsAmong (IsSearchedRank heap held ranks left_out) (pairs_left left_out (ranked_pairs ranks (pairs_of heap)))
    pairs_searched closed a b c =
        let kept = pair_left left_out (ranked_pairs ranks (pairs_of heap)) a b c in
        let one = pairs_one a b kept.0 in (
          record { searched = is; flags = flags; one = record { one = one.0; left = λ s. kept.1 (closed a b kept.0 s) } },
          record { searched = is; flags = flags; one = record { one = one.1; left = kept.1 } },
        )

    pub order_searched : (n : ℕ) (times : List ℕ) (order : List Death) → n ≡ length held → IsOrder (IsLeftRank n left_out) times order → IsOrder (IsSearchedRank heap held ranks left_out) times order
    order_searched n times order long are = record {
      each = λ s c. record { searched = is; flags = flags; one = subst (λ (m : ℕ). IsLeftRank m left_out s.object) long (are.each s c) };
      all = λ k h. are.all k (subst (λ (m : ℕ). IsLeftRank m left_out k) (sym long) h.one);
      falls = are.falls;
    }

  -- what waits in an object is held
  pub whole_at : (o : ℕ) → IsWhole heap o
  whole_at o r c = is.pairs o r (waiting_pair heap o r c)

  -- ONE OBJECT

  pub here_at : (object place d : ℕ) → IsOneOf (length held) object → place + 1 ≡ object → IsHeld heap (get_or held place d) × (rank_of ranks (get_or held place d) ≡ object)
  here_at object place d one at =
      let last = one.1 in
      let inside : place < length held = omega (arith, at, last) in
      let same : place ≡ object - 1 = omega (arith, at) in
      let number : get_or held place d ≡ get_or held (object - 1) 0 = get_or_default held place d 0 inside ∙ ap (λ (k : ℕ). get_or held k 0) same in
      let r = rank_held heap held ranks is.all is.ranked object one in
      (subst (λ (z : ℕ). IsHeld heap z) (sym number) r.0, ap (λ (z : ℕ). rank_of ranks z) number ∙ r.1)

  pub targets_held : (o : ℕ) (ts : List ℕ) → IsHeld heap o → ts ≡ leads_to (object_at heap o) → (x : ℕ) → Contains ts x → IsHeld heap x
  targets_held o ts h leads x c = is.pairs o x (target_pair heap o ts h leads x c)

  pub targets_left : (object o : ℕ) (ts : List ℕ) → IsHeld heap o → rank_of ranks o ≡ object → ts ≡ leads_to (object_at heap o) → (k : ℕ) → Contains (map (rank_of ranks) ts) k → Contains (ranked_pairs ranks (pairs_of heap)) (object, k)
  targets_left object o ts h rank leads k c =
      let m = mapped_from (rank_of ranks) ts k c in
      let p = pair_ranked ranks (pairs_of heap) o m.0 (target_pair heap o ts h leads m.0 m.1) in
      subst (λ (z : ℕ). Contains (ranked_pairs ranks (pairs_of heap)) (object, z)) m.2 (subst (λ (z : ℕ). Contains (ranked_pairs ranks (pairs_of heap)) (z, rank_of ranks m.0)) rank p)

  pub targets_done : (object o : ℕ) (ts : List ℕ) → IsHeld heap o → rank_of ranks o ≡ object → ts ≡ leads_to (object_at heap o) → (k : ℕ) → Contains (ranked_pairs ranks (pairs_of heap)) (object, k) → Contains (map (rank_of ranks) ts) k
  targets_done object o ts h rank leads k c =
      let p = ranked_pair ranks (pairs_of heap) object k c in
      let same : p.0 ≡ o = rank_once heap held ranks is.all is.ranked p.0 o (pair_held heap p.0 p.1 (pair_at heap p.0 p.1 p.2)) h (p.3 ∙ sym rank) in
      let there : Contains ts p.1 = pair_target heap o ts h leads p.1 (subst (λ (z : ℕ). Contains (pairs_of heap) (z, p.1)) same p.2) in
      subst (λ (z : ℕ). Contains (map (rank_of ranks) ts) z) p.4 (mapped (rank_of ranks) ts p.1 there)

  -- the first of the targets that are left
  pub target_held : (ts rest : List ℕ) (x : ℕ) → ts ≡ x ∷ rest → ((o : ℕ) → Contains ts o → IsHeld heap o) → IsHeld heap x × HasRank ranks (length held) x
  target_held ts rest x first all_held =
      let h : IsHeld heap x = all_held x (subst (λ (vs : List ℕ). Contains vs x) (sym first) (Contains-here x rest)) in
      (h, (held_rank heap held ranks is.all is.ranked x h).0)

pub first_ranked : (ranks : Ranks) (ts rest : List ℕ) (x k : ℕ) → ts ≡ x ∷ rest → k ≡ rank_of ranks x → map (rank_of ranks) ts ≡ k ∷ map (rank_of ranks) rest
first_ranked ranks ts rest x k first rank = ap (λ (vs : List ℕ). map (rank_of ranks) vs) first ∙ ap (λ (z : ℕ). z ∷ map (rank_of ranks) rest) (sym rank)
