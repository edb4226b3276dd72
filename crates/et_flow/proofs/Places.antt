-- Types that join at places one after another.
use Rattle.std.proofs.Common.{◌≡◌, ℕ, ◌+◌, ◌<◌, ◌≤◌, ◌⊎◌, List, [], ◌∷◌, ◌++◌, length, get_or, set, Option, Some, None, sym, ◌∙◌, ap, subst, inl, inr, arith, Contains}
use Rattle.std.specs.Prelude.{sum_by}
use Rattle.std.proofs.lemmas.List.Elements.{Contains-append_left, Contains-push, Contains-push_cases}
use Rattle.std.proofs.lemmas.List.Sums.{sum_by-set, sum_by-le}
use Rattle.et_base.proofs.Lists.{Contains-none}
use Rattle.et_flow.specs.declared.types.EntryType.{EntryType}
use Rattle.et_flow.specs.Types.{TypesOf, rank}
use Rattle.et_flow.specs.Flows.{IsThere, types_at, joined_with, height, heights, IsJoinable}
use Rattle.et_flow.specs.Searching.{States, HasJoined, HaveLocals, Grows, Joins}
use Rattle.et_flow.proofs.Below.{rank_small}
use Rattle.et_flow.proofs.Joining.{there_more, joined_there, joined_grows, joined_least_now, grows_refl, grows_trans}

-- HEIGHTS

ranks_few : (xs : List EntryType) → sum_by rank xs ≤ length xs
ranks_few xs = omega (arith, sum_by-le rank 1 xs (λ k d lt. rank_small (get_or xs k d)))

-- what was found where nothing was
pub joined_new : (locals : ℕ) (states : States) (work : List ℕ) (place : ℕ) (ts : TypesOf) (states' : States) (work' : List ℕ) → place < length states → types_at states place ≡ None → length ts.locals ≤ locals
    → states' ≡ set states place (Some ts) → work' ≡ work ++ place ∷ [] → HasJoined locals states work place ts states' work'
joined_new locals states work place ts states' work' inside none le is put =
    let sum : heights locals (set states place (Some ts)) + height locals (types_at states place) ≡ heights locals states + height locals (Some ts) = sum_by-set (height locals) states place (Some ts) None inside in
    let was : height locals (types_at states place) ≡ locals + 1 = ap (height locals) none in
    let now : heights locals states' ≡ heights locals (set states place (Some ts)) = ap (heights locals) is in
    let few : sum_by rank ts.locals ≤ length ts.locals = ranks_few ts.locals in
    record {
      joinable = subst (λ (o : Option TypesOf). IsJoinable o ts) (sym none) tt;
      found = is ∙ ap (λ (o : Option TypesOf). set states place (Some (joined_with o ts))) (sym none);
      noted = inr (put, omega arith);
    }

-- what changed
pub joined_lower : (locals : ℕ) (states : States) (work : List ℕ) (place : ℕ) (ts us vs : TypesOf) (states' : States) (work' : List ℕ) → place < length states → types_at states place ≡ Some us → IsJoinable (Some us) ts
    → vs ≡ joined_with (Some us) ts → states' ≡ set states place (Some vs) → sum_by rank vs.locals < sum_by rank us.locals → work' ≡ work ++ place ∷ [] → HasJoined locals states work place ts states' work'
joined_lower locals states work place ts us vs states' work' inside some joinable new is less put =
    let sum : heights locals (set states place (Some vs)) + height locals (types_at states place) ≡ heights locals states + height locals (Some vs) = sum_by-set (height locals) states place (Some vs) None inside in
    let was : height locals (types_at states place) ≡ height locals (Some us) = ap (height locals) some in
    let now : heights locals states' ≡ heights locals (set states place (Some vs)) = ap (heights locals) is in
    record {
      joinable = subst (λ (o : Option TypesOf). IsJoinable o ts) (sym some) joinable;
      found = is ∙ (ap (λ (x : TypesOf). set states place (Some x)) new ∙ ap (λ (o : Option TypesOf). set states place (Some (joined_with o ts))) (sym some));
      noted = inr (put, omega arith);
    }

-- what did not change
pub joined_as : (locals : ℕ) (states : States) (work : List ℕ) (place : ℕ) (ts us vs : TypesOf) (states' : States) (work' : List ℕ) → place < length states → types_at states place ≡ Some us → IsJoinable (Some us) ts
    → vs ≡ joined_with (Some us) ts → states' ≡ set states place (Some vs) → vs ≡ us → work' ≡ work → HasJoined locals states work place ts states' work'
joined_as locals states work place ts us vs states' work' inside some joinable new is same put = record {
  joinable = subst (λ (o : Option TypesOf). IsJoinable o ts) (sym some) joinable;
  found = is ∙ (ap (λ (x : TypesOf). set states place (Some x)) new ∙ ap (λ (o : Option TypesOf). set states place (Some (joined_with o ts))) (sym some));
  noted = inl (put, some ∙ (ap (λ (x : TypesOf). Some x) (sym same ∙ new) ∙ ap (λ (o : Option TypesOf). Some (joined_with o ts)) (sym some)));
}

-- PLACE BY PLACE

-- what is noted then was noted, or is the place
pub joined_among : (locals : ℕ) (states : States) (work : List ℕ) (place : ℕ) (ts : TypesOf) (states' : States) (work' : List ℕ) → HasJoined locals states work place ts states' work' → (pc : ℕ) → Contains work' pc → Contains work pc ⊎ (place ≡ pc)
joined_among locals states work place ts states' work' h pc c = elim h.noted [
  | inl old ↦ inl (subst (λ (w : List ℕ). Contains w pc) old.0 c)
  | inr put ↦ Contains-push_cases work place pc (subst (λ (w : List ℕ). Contains w pc) put.0 c)
]

pub joins_none : (locals : ℕ) (states : States) (work : List ℕ) (ts : TypesOf) → HaveLocals locals states → Joins locals states work [] ts states work
joins_none locals states work ts had = record { grows = grows_refl locals states work had; there = λ q c. absurd (Contains-none q c); least = λ typing under there. under; among = λ pc c. inl c }

pub joins_more : (locals : ℕ) (s0 s1 s2 : States) (w0 w1 w2 places : List ℕ) (place : ℕ) (ts : TypesOf) → length ts.locals ≤ locals → place < length s1 → Joins locals s0 w0 places ts s1 w1 → HasJoined locals s1 w1 place ts s2 w2
    → Joins locals s0 w0 (places ++ place ∷ []) ts s2 w2
joins_more locals s0 s1 s2 w0 w1 w2 places place ts le inside a h =
    let b : Grows locals s1 w1 s2 w2 = joined_grows locals s1 w1 place ts s2 w2 inside h le a.grows.locals_kept in
    record {
      grows = grows_trans locals s0 s1 s2 w0 w1 w2 a.grows b;
      there = λ q c. elim (Contains-push_cases places place q c) [
        | inl was ↦ there_more (types_at s1) (types_at s2) q ts (b.under q) (a.there q was)
        | inr same ↦ subst (λ (k : ℕ). IsThere (types_at s2) k ts) same (joined_there locals s1 w1 place ts s2 w2 inside h)
      ];
      least = λ typing under there.
          joined_least_now locals s1 w1 place ts s2 w2 inside h typing
          (a.least typing under (λ q c. there q (Contains-append_left places (place ∷ []) q c)))
          (there place (Contains-push places place));
      among = λ pc c. elim (joined_among locals s1 w1 place ts s2 w2 h pc c) [
        | inl was ↦ elim (a.among pc was) [ inl old ↦ inl old | inr put ↦ inr (Contains-append_left places (place ∷ []) pc put) ]
        | inr here ↦ inr (subst (λ (k : ℕ). Contains (places ++ place ∷ []) k) here (Contains-push places place))
      ];
    }
