-- An object's pairs while they are followed.
use Rattle.std.proofs.Common.{◌≡◌, ℕ, ◌+◌, ◌-◌, ◌<◌, ◌≤◌, ◌↔◌, ◌⊎◌, Bool, true, List, [], ◌∷◌, ◌++◌, length, get_or, set, Contains, refl, sym, ◌∙◌, ap, subst, inl, inr, arith, length-append}
use Rattle.std.proofs.lemmas.Bool.{cases_lt}
use Rattle.std.proofs.lemmas.List.{get_or_default}
use Rattle.std.proofs.lemmas.List.Elements.{Contains-append_left, Contains-append_right, Contains-push_cases}
use Rattle.et_graph.specs.Times.{ArePairsWithin, AreSeenAmong, IsSet, unset_count, IsSpread, AreFollowed, Visits}
use Rattle.et_base.proofs.Lists.{Contains-here}
use Rattle.et_graph.proofs.Among.{seen_mark}
use Rattle.et_graph.proofs.Spreading.{set_keeps, unset_less, mark_spread, mark_followed, carry_pair, visited_followed, other_time}

pub record IsVisiting (pairs : List (ℕ × ℕ)) (o t : ℕ) (times : List ℕ) (seen : List Bool) (work : List ℕ) (times' : List ℕ) (seen' : List Bool) (work' : List ℕ) : Type 0 where
  pub grows : (x : ℕ) → IsSet seen x → IsSet seen' x
  pub spent : length work' + unset_count seen' ≡ length work + unset_count seen
  pub fewer : unset_count seen' ≤ unset_count seen
  pub seen_since : AreSeenAmong (λ x. Contains pairs (o, x)) seen seen'
  pub waits_since : (x : ℕ) → Contains work' x → Contains work x ⊎ Contains pairs (o, x)
  pub spreads : (start : List ℕ) → IsSpread pairs start t times seen work → IsSet seen o → get_or times (o - 1) 0 ≡ t
      → AreFollowed pairs times seen (λ v. Contains work v ⊎ (v ≡ o))
      → IsSpread pairs start t times' seen' work' × AreFollowed pairs times' seen' (λ v. Contains work' v ⊎ (v ≡ o)) × (get_or times' (o - 1) 0 ≡ t)

pub visiting_none : (pairs : List (ℕ × ℕ)) (o t : ℕ) (times : List ℕ) (seen : List Bool) (work : List ℕ) → IsVisiting pairs o t times seen work times seen work
visiting_none pairs o t times seen work = record {
  grows = λ x s. s;
  spent = refl;
  fewer = omega arith;
  seen_since = λ x positive s. inl s;
  waits_since = λ x c. inl c;
  spreads = λ start spread s time followed. (spread, followed, time);
}

-- one more object is seen
pub visiting_mark : (pairs : List (ℕ × ℕ)) (o t n : ℕ) (times : List ℕ) (seen : List Bool) (work times' : List ℕ) (seen' : List Bool) (work' : List ℕ) (x : ℕ)
    → ArePairsWithin n pairs → Contains pairs (o, x) → length seen' ≡ length times' → x - 1 < length times' → ¬ IsSet seen' x
    → IsVisiting pairs o t times seen work times' seen' work'
    → IsVisiting pairs o t times seen work (set times' (x - 1) t) (set seen' (x - 1) true) (work' ++ x ∷ [])
visiting_mark pairs o t n times seen work times' seen' work' x pairs_within c long within unseen visiting =
    let at = pairs_within o x c in
    let seen_within : x - 1 < length seen' = omega arith in
    let less = unset_less seen' x seen_within unseen in
    record {
      grows = λ y s. set_keeps seen' x seen_within y (visiting.grows y s);
      spent = omega (arith, visiting.spent, less, length-append work' (x ∷ []));
      fewer = omega (arith, visiting.fewer, less);
      seen_since = seen_mark (λ y. Contains pairs (o, y)) seen seen' x seen_within at.2 c visiting.seen_since;
      waits_since = λ y d.
          elim (Contains-push_cases work' x y d) [
            | inl before ↦ visiting.waits_since y before
            | inr e ↦ inr (subst (λ (z : ℕ). Contains pairs (o, z)) e c)
          ];
      spreads = λ start spread s time followed.
          let now = visiting.spreads start spread s time followed in
          let carry = carry_pair pairs start t n times' seen' work' o x pairs_within c within now.2 unseen now.0 in (
            mark_spread pairs start t times' seen' x long at.2 within unseen n work' pairs_within carry now.0,
            mark_followed pairs start t times' seen' x long at.2 within unseen n (λ v. Contains work' v ⊎ (v ≡ o)) (λ v. Contains (work' ++ x ∷ []) v ⊎ (v ≡ o)) pairs_within
                (λ v. elim [ inl d ↦ inl (Contains-append_left work' (x ∷ []) v d) | inr e ↦ inr e ])
                (inl (Contains-append_right work' (x ∷ []) x (Contains-here x []))) now.1,
            other_time pairs start t times' seen' x long at.2 within unseen o at.0 (visiting.grows o s) ∙ now.2,
          );
    }

-- all targets were seen
pub visiting_all : (pairs : List (ℕ × ℕ)) (o t : ℕ) (times : List ℕ) (seen : List Bool) (work times' : List ℕ) (seen' : List Bool) (work' : List ℕ)
    → ((x : ℕ) → Contains pairs (o, x) → IsSet seen' x)
    → IsVisiting pairs o t times seen work times' seen' work' → Visits pairs o t times seen work times' seen' work'
visiting_all pairs o t times seen work times' seen' work' targets visiting = record {
  grows = visiting.grows;
  spent = visiting.spent;
  fewer = visiting.fewer;
  seen_since = visiting.seen_since;
  waits_since = visiting.waits_since;
  spreads = λ start spread s time followed.
      let now = visiting.spreads start spread s time followed in
      (now.0, visited_followed pairs start t o times' seen' work' now.0 now.2 targets now.1);
}

-- the targets of the first pairs were seen
abbrev pub AreSeen : List (ℕ × ℕ) → ℕ → List Bool → Type 0
AreSeen pairs i seen = (k : ℕ) (d : ℕ × ℕ) → k < i → IsSet seen (get_or pairs k d).1

pub seen_more : (pairs : List (ℕ × ℕ)) (i : ℕ) (p : ℕ × ℕ) (seen seen' : List Bool) → i < length pairs → p ≡ get_or pairs i p → ((x : ℕ) → IsSet seen x → IsSet seen' x) → IsSet seen' p.1 → AreSeen pairs i seen → AreSeen pairs (i + 1) seen'
seen_more pairs i p seen seen' within is grows here before k d lt =
    elim (cases_lt k i) [
      | inl less ↦ grows (get_or pairs k d).1 (before k d less)
      | inr le ↦
          let same : i ≡ k = omega arith in
          let at : p ≡ get_or pairs k d = is ∙ get_or_default pairs i p d within ∙ ap (λ (j : ℕ). get_or pairs j d) same in
          subst (λ (q : ℕ × ℕ). IsSet seen' q.1) at here
    ]

pub seen_all : (pairs : List (ℕ × ℕ)) (i : ℕ) (seen : List Bool) (p : ℕ × ℕ) → length pairs ≤ i → AreSeen pairs i seen → Contains pairs p → IsSet seen p.1
seen_all pairs i seen p all are c = subst (λ (q : ℕ × ℕ). IsSet seen q.1) c.2 (are c.0 p (omega (arith, c.1)))

-- the object's pair at a place, and its target
pub target_at : (pairs items : List (ℕ × ℕ)) (n o i : ℕ) (p : ℕ × ℕ) → ArePairsWithin n pairs → ((q : ℕ × ℕ) → Contains items q ↔ (Contains pairs q × (q.0 ≡ o))) → i < length items → p ≡ get_or items i p → Contains pairs (o, p.1) × (0 < p.1) × (p.1 ≤ n)
target_at pairs items n o i p within are lt is =
    let here = (are p).0 (i, lt, sym is) in
    let at = within p.0 p.1 here.0 in
    (subst (λ (u : ℕ). Contains pairs (u, p.1)) here.1 here.0, at.2, at.3)
