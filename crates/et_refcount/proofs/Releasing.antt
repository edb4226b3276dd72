-- The slots of an object no longer refer to anything.
use Rattle.std.proofs.Common.{◌≡◌, ◌≢◌, ℕ, ◌+◌, ◌-◌, ◌<◌, ◌≤◌, Bool, true, false, List, [], ◌∷◌, length, sum, refl, sym, ap, subst, ◌∙◌, arith, inl, inr, ◌⊎◌, length-append}
use Rattle.std.specs.Prelude.{Contains}
use Rattle.std.proofs.Math.ListN.{length-set}
use Rattle.std.proofs.lemmas.List.{get_or_past, get_or-set_same, get_or-set_other}
use Rattle.std.proofs.lemmas.List.Sums.{sum_by-set}
use Rattle.std.proofs.lemmas.List.Elements.{Contains-push, Contains-append_left, Contains-append_cases}
use Rattle.std.proofs.lemmas.Bool.{cases_lt}
use Rattle.et_base.proofs.Lists.{Contains-none, Contains-cons}
use Rattle.et_base.proofs.Tests.{cases_eqb}
use Rattle.et_refcount.specs.Objects.{Slots, is_target, hits, count_at, is_left, dropped, work_with, Released}
use Rattle.et_refcount.proofs.Hits.{left_parts, left_of, hits-cons, target_yes, target_no}

-- the slots `rest` still refer to something
pub record IsReleasing (own : Slots) (dead : List Bool) (counts0 work0 : List ℕ) (rest : Slots) (counts work : List ℕ) : Type 0 where
  pub as_long : length counts ≡ length counts0
  pub less : (t : ℕ) → count_at counts t + hits own t ≡ count_at counts0 t + hits rest t
  pub grows : (o : ℕ) → Contains work0 o → Contains work o
  pub only : (o : ℕ) → Contains work o → Contains work0 o ⊎ (is_left dead counts o ≡ true)
  pub all : (t : ℕ) → is_left dead counts t ≡ true → (hits own t ≡ hits rest t) ⊎ Contains work t
  pub spent : length work + sum counts ≤ length work0 + sum counts0

pub releasing_none : (own : Slots) (dead : List Bool) (counts work : List ℕ) → IsReleasing own dead counts work own counts work
releasing_none own dead counts work = record { as_long = refl; less = λ t. refl; grows = λ o h. h; only = λ o h. inl h; all = λ t e. inl refl; spent = omega arith }

-- the next slot's target has a count
pub releasing_low : (own : Slots) (dead : List Bool) (counts0 work0 : List ℕ) (x : ℕ × ℕ) (rest : Slots) (counts work : List ℕ) → ((t : ℕ) → hits own t ≤ count_at counts0 t) → IsReleasing own dead counts0 work0 (x ∷ rest) counts work → 1 ≤ count_at counts x.1
releasing_low own dead counts0 work0 x rest counts work le r =
    let less = r.less x.1 in
    let most = le x.1 in
    let sum = hits-cons x rest x.1 in
    let one = target_yes x.1 in
    omega (arith, less, most, sum, one)

-- what isn't 0 has a place
pub counted_within : (counts : List ℕ) (o : ℕ) → 1 ≤ count_at counts o → o < length counts
counted_within counts o le = elim (cases_lt o (length counts)) [ inl lt ↦ lt | inr ge ↦ (let z = get_or_past counts o 0 ge in absurd (omega (arith, le, z))) ]

-- one slot fewer
pub releasing_more : (own : Slots) (dead : List Bool) (counts0 work0 : List ℕ) (x : ℕ × ℕ) (rest : Slots) (counts work : List ℕ) → 1 ≤ count_at counts x.1 → IsReleasing own dead counts0 work0 (x ∷ rest) counts work → IsReleasing own dead counts0 work0 rest (dropped counts x.1) (work_with work (is_left dead (dropped counts x.1) x.1) x.1)
releasing_more own dead counts0 work0 x rest counts work one r =
    let d = x.1 in
    let counts' = dropped counts d in
    let work' = work_with work (is_left dead counts' d) d in
    let lt = counted_within counts d one in
    let here : count_at counts' d ≡ count_at counts d - 1 = get_or-set_same counts d (count_at counts d - 1) 0 lt in
    let there : (t : ℕ) → t ≢ d → count_at counts' t ≡ count_at counts t = λ t ne. get_or-set_other counts d t (count_at counts d - 1) 0 ne in
    let stays : (o : ℕ) → Contains work o → Contains work' o = λ o c. stay work (is_left dead counts' d) d o c in
    let left_on : (o : ℕ) → is_left dead counts o ≡ true → is_left dead counts' o ≡ true = λ o e. (let p = left_parts dead counts o e in elim (cases_eqb o d) [
      | inl q ↦ (let same : count_at counts o ≡ count_at counts d = ap (λ (k : ℕ). count_at counts k) q.1 in let z = p.1 in absurd (omega (arith, same, z, one)))
      | inr q ↦ left_of dead counts' o p.0 (there o q.1 ∙ p.1)
    ]) in
    record {
      as_long = length-set counts d (count_at counts d - 1) ∙ r.as_long;
      less = λ t. (let less = r.less t in let cons = hits-cons x rest t in elim (cases_eqb d t) [
        | inl q ↦
            let hit : is_target t d ≡ 1 = subst (λ (k : ℕ). is_target k d ≡ 1) q.1 (target_yes d) in
            let now : count_at counts' t ≡ count_at counts t - 1 = subst (λ (k : ℕ). count_at counts' k ≡ count_at counts k - 1) q.1 here in
            let low : 1 ≤ count_at counts t = subst (λ (k : ℕ). 1 ≤ count_at counts k) q.1 one in
            omega (arith, less, cons, hit, now, low)
        | inr q ↦
            let miss = target_no t d q.1 in
            let far = q.1 in
            let now = there t (λ e. far (sym e)) in
            omega (arith, less, cons, miss, now)
      ]);
      grows = λ o c. stays o (r.grows o c);
      only = λ o c. elim (came work (is_left dead counts' d) d o c) [
        | inl old ↦ elim (r.only o old) [ inl f ↦ inl f | inr e ↦ inr (left_on o e) ]
        | inr new ↦ inr (subst (λ (k : ℕ). is_left dead counts' k ≡ true) (sym new.0) new.1)
      ];
      all = λ t e. elim (cases_eqb t d) [
        | inl q ↦ inr (subst (λ (k : ℕ). Contains work' k) (sym q.1) (comes work (is_left dead counts' d) d (subst (λ (k : ℕ). is_left dead counts' k ≡ true) q.1 e)))
        | inr q ↦
            let p = left_parts dead counts' t e in
            let before = left_of dead counts t p.0 (sym (there t q.1) ∙ p.1) in
            let far = q.1 in
            let miss = target_no t d (λ f. far (sym f)) in
            let cons = hits-cons x rest t in
            elim (r.all t before) [
              | inl same ↦ inl (omega (arith, same, cons, miss))
              | inr c ↦ inr (stays t c)
            ]
      ];
      spent = (let s = sum_by-set (λ (k : ℕ). k) counts d (count_at counts d - 1) 0 lt in let long = longer work (is_left dead counts' d) d in let spent = r.spent in omega (arith, s, long, spent, one));
    }
  where
    stay : (work : List ℕ) (b : Bool) (d o : ℕ) → Contains work o → Contains (work_with work b d) o
    stay work true d o c = Contains-append_left work (d ∷ []) o c
    stay work false d o c = c

    came : (work : List ℕ) (b : Bool) (d o : ℕ) → Contains (work_with work b d) o → Contains work o ⊎ ((o ≡ d) × (b ≡ true))
    came work true d o c = elim (Contains-append_cases work (d ∷ []) o c) [ inl f ↦ inl f | inr f ↦ elim (Contains-cons d [] o f) [ inl e ↦ inr (sym e, refl) | inr n ↦ absurd (Contains-none o n) ] ]
    came work false d o c = inl c

    comes : (work : List ℕ) (b : Bool) (d : ℕ) → b ≡ true → Contains (work_with work b d) d
    comes work true d e = Contains-push work d
    comes work false d e = absurd cc

    longer : (work : List ℕ) (b : Bool) (d : ℕ) → length (work_with work b d) ≤ length work + 1
    longer work true d = omega (arith, length-append work (d ∷ []))
    longer work false d = omega arith

pub releasing_done : (own : Slots) (dead : List Bool) (counts0 work0 counts work : List ℕ) → IsReleasing own dead counts0 work0 [] counts work → Released own dead counts0 work0 counts work
releasing_done own dead counts0 work0 counts work r = record {
  as_long = r.as_long;
  less = λ t. (let less = r.less t in let z : hits [] t ≡ 0 = refl in omega (arith, less, z));
  grows = r.grows;
  only = r.only;
  all = λ t e. r.all t e;
  spent = r.spent;
}

pub releasing_step : (own : Slots) (dead : List Bool) (counts0 work0 : List ℕ) (x : ℕ × ℕ) (before rest : Slots) (counts work counts' work' : List ℕ) → before ≡ x ∷ rest → 1 ≤ count_at counts x.1 → counts' ≡ dropped counts x.1 → work' ≡ work_with work (is_left dead counts' x.1) x.1 → IsReleasing own dead counts0 work0 before counts work → IsReleasing own dead counts0 work0 rest counts' work'
releasing_step own dead counts0 work0 x before rest counts work counts' work' e one f g r =
    let now = releasing_more own dead counts0 work0 x rest counts work one (subst (λ (l : Slots). IsReleasing own dead counts0 work0 l counts work) e r) in
    let here = subst (λ (k : List ℕ). IsReleasing own dead counts0 work0 rest k (work_with work (is_left dead k x.1) x.1)) (sym f) now in
    subst (λ (w : List ℕ). IsReleasing own dead counts0 work0 rest counts' w) (sym g) here

pub releasing_needs : (own : Slots) (dead : List Bool) (counts0 work0 : List ℕ) (x : ℕ × ℕ) (before rest : Slots) (counts work : List ℕ) → before ≡ x ∷ rest → ((t : ℕ) → hits own t ≤ count_at counts0 t) → IsReleasing own dead counts0 work0 before counts work → 1 ≤ count_at counts x.1
releasing_needs own dead counts0 work0 x before rest counts work e le r = releasing_low own dead counts0 work0 x rest counts work le (subst (λ (l : Slots). IsReleasing own dead counts0 work0 l counts work) e r)

pub releasing_ends : (own : Slots) (dead : List Bool) (counts0 work0 : List ℕ) (before : Slots) (counts work : List ℕ) → before ≡ [] → IsReleasing own dead counts0 work0 before counts work → Released own dead counts0 work0 counts work
releasing_ends own dead counts0 work0 before counts work e r = releasing_done own dead counts0 work0 counts work (subst (λ (l : Slots). IsReleasing own dead counts0 work0 l counts work) e r)

pub releasing_begins : (own start : Slots) (dead : List Bool) (counts work : List ℕ) → start ≡ own → IsReleasing own dead counts work start counts work
releasing_begins own start dead counts work e = subst (λ (l : Slots). IsReleasing own dead counts work l counts work) (sym e) (releasing_none own dead counts work)
