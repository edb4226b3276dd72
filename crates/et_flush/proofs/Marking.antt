-- Roots that are marked one after the other, and what is followed from them.
use Rattle.std.proofs.Common.{◌≡◌, ℕ, ◌+◌, ◌-◌, ◌<◌, ◌≤◌, Bool, true, List, [], ◌∷◌, ◌++◌, length, map, drop, get_or, set, Contains, sym, ◌∙◌, ap, subst, inl, inr, arith, get_or-set_same, get_or-set_other}
use Rattle.std.proofs.lemmas.Bool.{cases_eq}
use Rattle.std.proofs.lemmas.List.{drop_more, drop_all, set-get_or, length-append}
use Rattle.std.proofs.lemmas.List.Elements.{Contains-push, Contains-append_left, Contains-push_cases}
use Rattle.et_base.proofs.Lists.{Contains-none}
use Rattle.et_graph.specs.Times.{set_each, IsSet, unset_count, IsSpread, AreFollowed, Visits}
use Rattle.et_graph.proofs.Spreading.{set_here, set_keeps, set_back, unset_less, popped_spread, popped_waits, popped_followed, none_waits}
use Rattle.et_flush.specs.declared.times.TheConstants.{NOW}
use Rattle.et_flush.specs.Reaches.{AreMarked, FollowsPairs}

-- ROOTS

pub marked_none : (ranks : List ℕ) (seen : List Bool) (waiting : List ℕ) → ((rank : ℕ) → ¬ IsSet seen rank) → waiting ≡ [] → AreMarked ranks seen waiting
marked_none ranks seen waiting unseen none = record {
  wait = λ o _ s. absurd (unseen o s);
  marked = λ o c. absurd (Contains-none o (subst (λ (ws : List ℕ). Contains ws o) none c));
}

pub now_none : (times waiting : List ℕ) → waiting ≡ [] → (o : ℕ) → Contains waiting o → get_or times (o - 1) 0 ≡ NOW
now_none times waiting none o c = absurd (Contains-none o (subst (λ (ws : List ℕ). Contains ws o) none c))

-- one more root is marked
module _ (ranks : List ℕ) (times : List ℕ) (seen : List Bool) (waiting : List ℕ) (x : ℕ) (inside : x - 1 < length seen) (px : 0 < x) where
  pub marked_more : Contains ranks x → AreMarked ranks seen waiting → AreMarked ranks (set seen (x - 1) true) (waiting ++ x ∷ [])
  marked_more there are = record {
    wait = λ o po s.
        elim (set_back seen x inside o po px s) [
          | inl e ↦ subst (λ (z : ℕ). Contains (waiting ++ x ∷ []) z) (sym e) (Contains-push waiting x)
          | inr before ↦ Contains-append_left waiting (x ∷ []) o (are.wait o po before)
        ];
    marked = λ o c.
        elim (Contains-push_cases waiting x o c) [
          | inl d ↦ let w = are.marked o d in (set_keeps seen x inside o w.0, w.1)
          | inr e ↦ subst (λ (z : ℕ). IsSet (set seen (x - 1) true) z × Contains ranks z) e (set_here seen x inside, there)
        ];
  }

  pub now_more : x - 1 < length times → ((o : ℕ) → Contains waiting o → get_or times (o - 1) 0 ≡ NOW) → (o : ℕ) → Contains (waiting ++ x ∷ []) o → get_or (set times (x - 1) NOW) (o - 1) 0 ≡ NOW
  now_more within now o c =
      elim (cases_eq (o - 1) (x - 1)) [
        | inl e ↦ ap (λ (i : ℕ). get_or (set times (x - 1) NOW) i 0) e ∙ get_or-set_same times (x - 1) NOW 0 within
        | inr ne ↦
            get_or-set_other times (x - 1) (o - 1) NOW 0 ne
            ∙ elim (Contains-push_cases waiting x o c) [
              | inl d ↦ now o d
              | inr e ↦ absurd (ne (ap (λ (z : ℕ). z - 1) (sym e)))
            ]
      ]

  pub counted_more : (n : ℕ) → ¬ IsSet seen x → length waiting + unset_count seen ≡ n → length (waiting ++ x ∷ []) + unset_count (set seen (x - 1) true) ≡ n
  counted_more n unseen sum = omega (arith, sum, unset_less seen x inside unseen, length-append waiting (x ∷ []))

-- the time of one more root is set
pub set_next : (f : ℕ → ℕ) (roots : List ℕ) (i x t : ℕ) (times all : List ℕ) → i < length roots → x ≡ f (get_or roots i 0) → set_each (map f (drop i roots)) t times ≡ all → set_each (map f (drop (i + 1) roots)) t (set times (x - 1) t) ≡ all
set_next f roots i x t times all lt is whole =
    ap (λ (z : ℕ). set_each (map f (drop (i + 1) roots)) t (set times (z - 1) t)) is
    ∙ (sym (ap (λ (rs : List ℕ). set_each (map f rs) t times) (drop_more roots i 0 lt)) ∙ whole)

-- .. or was before
pub set_before : (f : ℕ → ℕ) (roots : List ℕ) (i x t : ℕ) (times all : List ℕ) → i < length roots → x ≡ f (get_or roots i 0) → get_or times (x - 1) 0 ≡ t → set_each (map f (drop i roots)) t times ≡ all → set_each (map f (drop (i + 1) roots)) t times ≡ all
set_before f roots i x t times all lt is now whole =
    let same : set times (x - 1) t ≡ times = ap (λ (v : ℕ). set times (x - 1) v) (sym now) ∙ set-get_or times (x - 1) 0 in
    ap (λ (ts : List ℕ). set_each (map f (drop (i + 1) roots)) t ts) (sym same) ∙ set_next f roots i x t times all lt is whole

pub set_end : (f : ℕ → ℕ) (roots : List ℕ) (i t : ℕ) (times all : List ℕ) → length roots ≤ i → set_each (map f (drop i roots)) t times ≡ all → times ≡ all
set_end f roots i t times all past whole = sym (ap (λ (rs : List ℕ). set_each (map f rs) t times) (drop_all i roots past)) ∙ whole

-- WHAT IS FOLLOWED

-- What waited was followed as far as the work shows.
abbrev pub IsFollowing : List (ℕ × ℕ) → ℕ → List ℕ → List Bool → List ℕ → List ℕ → List Bool → List ℕ → Type 0
IsFollowing pairs t times seen work times' seen' work' =
    (start : List ℕ) → IsSpread pairs start t times seen work → AreFollowed pairs times seen (λ v. Contains work v)
    → IsSpread pairs start t times' seen' work' × AreFollowed pairs times' seen' (λ v. Contains work' v)

-- one more object's pairs are followed
pub following_visit : (pairs : List (ℕ × ℕ)) (t u : ℕ) (times : List ℕ) (seen : List Bool) (work times₁ : List ℕ) (seen₁ : List Bool) (work₁ times₂ : List ℕ) (seen₂ : List Bool) (work₂ : List ℕ)
    → IsFollowing pairs t times seen work times₁ seen₁ (work₁ ++ u ∷ []) → Visits pairs u t times₁ seen₁ work₁ times₂ seen₂ work₂
    → IsFollowing pairs t times seen work times₂ seen₂ work₂
following_visit pairs t u times seen work times₁ seen₁ work₁ times₂ seen₂ work₂ following visits start spread followed =
    let now = following start spread followed in
    let waits = popped_waits pairs start t times₁ seen₁ work₁ u now.0 in
    visits.spreads start (popped_spread pairs start t times₁ seen₁ work₁ u now.0) waits.1 waits.2 (popped_followed pairs times₁ seen₁ work₁ u now.1)

pub following_end : (pairs : List (ℕ × ℕ)) (t : ℕ) (times : List ℕ) (seen : List Bool) (work times' : List ℕ) (seen' : List Bool) (work' : List ℕ) → work' ≡ [] → IsFollowing pairs t times seen work times' seen' work' → FollowsPairs pairs t times seen work times' seen'
following_end pairs t times seen work times' seen' work' none following = record {
  spreads = λ start spread followed.
      let now = following start spread followed in
      (subst (λ (ws : List ℕ). IsSpread pairs start t times' seen' ws) none now.0, none_waits pairs times' seen' work' none now.1);
}
