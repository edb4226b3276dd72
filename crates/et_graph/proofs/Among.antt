-- A search that keeps to the objects of which P holds.
use Rattle.std.proofs.Common.{◌≡◌, ℕ, ◌+◌, ◌-◌, ◌<◌, ◌≤◌, ◌⊎◌, Bool, true, List, [], ◌∷◌, ◌++◌, length, set, Contains, sym, ◌∙◌, ap, subst, inl, inr, arith, length-append}
use Rattle.std.proofs.lemmas.List.Elements.{Contains-append_left, Contains-append_right, Contains-push_cases}
use Rattle.et_graph.specs.Times.{ArePairsWithin, ArePairsAmong, AreSeenAmong, IsSet, unset_count}
use Rattle.et_graph.specs.Order.{IsOneOf}
use Rattle.et_base.proofs.Lists.{Contains-none, Contains-here}
use Rattle.et_graph.proofs.Spreading.{set_back, unset_less}

pub among_within : (P : ℕ → Type 0) (n : ℕ) (pairs : List (ℕ × ℕ)) → ((o : ℕ) → P o → IsOneOf n o) → ArePairsAmong P pairs → ArePairsWithin n pairs
among_within P n pairs within among u x c =
    let ends = among u x c in
    let from = within u ends.0 in
    let to = within x ends.1 in
    (from.0, from.1, to.0, to.1)

-- WHAT WAITS

pub waits_one : (P : ℕ → Type 0) (x : ℕ) → P x → (o : ℕ) → Contains (x ∷ []) o → P o
waits_one P x here o c =
    elim (Contains-push_cases [] x o c) [
      | inl none ↦ absurd (Contains-none o none)
      | inr e ↦ subst P e here
    ]

pub waits_front : (P : ℕ → Type 0) (work front : List ℕ) (x : ℕ) → work ≡ front ++ x ∷ [] → ((o : ℕ) → Contains work o → P o) → (o : ℕ) → Contains front o → P o
waits_front P work front x is are o c = are o (subst (λ (ws : List ℕ). Contains ws o) (sym is) (Contains-append_left front (x ∷ []) o c))

pub waits_last : (P : ℕ → Type 0) (work front : List ℕ) (x : ℕ) → work ≡ front ++ x ∷ [] → ((o : ℕ) → Contains work o → P o) → P x
waits_last P work front x is are = are x (subst (λ (ws : List ℕ). Contains ws x) (sym is) (Contains-append_right front (x ∷ []) x (Contains-here x [])))

-- once the pairs of an object are followed
pub waits_visit : (P : ℕ → Type 0) (pairs : List (ℕ × ℕ)) (u : ℕ) (work work' : List ℕ) → ArePairsAmong P pairs → ((o : ℕ) → Contains work' o → Contains work o ⊎ Contains pairs (u, o))
    → ((o : ℕ) → Contains work o → P o) → (o : ℕ) → Contains work' o → P o
waits_visit P pairs u work work' among since are o c =
    elim (since o c) [
      | inl before ↦ are o before
      | inr d ↦ (among u o d).1
    ]

-- WHAT IS SEEN

pub seen_none : (P : ℕ → Type 0) (seen : List Bool) → AreSeenAmong P seen seen
seen_none P seen o positive s = inl s

pub seen_mark : (P : ℕ → Type 0) (before seen : List Bool) (x : ℕ) → x - 1 < length seen → 0 < x → P x → AreSeenAmong P before seen → AreSeenAmong P before (set seen (x - 1) true)
seen_mark P before seen x within above here are o positive s =
    elim (set_back seen x within o positive above s) [
      | inl e ↦ inr (subst P (sym e) here)
      | inr was ↦ are o positive was
    ]

pub seen_on : (P : ℕ → Type 0) (first second third : List Bool) → AreSeenAmong P first second → AreSeenAmong P second third → AreSeenAmong P first third
seen_on P first second third f g o positive s =
    elim (g o positive s) [
      | inl before ↦ f o positive before
      | inr here ↦ inr here
    ]

pub seen_visit : (P : ℕ → Type 0) (pairs : List (ℕ × ℕ)) (u : ℕ) (first second third : List Bool) → ArePairsAmong P pairs → AreSeenAmong P first second
    → AreSeenAmong (λ x. Contains pairs (u, x)) second third → AreSeenAmong P first third
seen_visit P pairs u first second third among f since =
    seen_on P first second third f (λ o positive s. elim (since o positive s) [ inl before ↦ inl before | inr c ↦ inr (among u o c).1 ])

-- what is seen waits until it is visited
pub counted_mark : (seen seen' : List Bool) (x n : ℕ) (work' work : List ℕ) → x - 1 < length seen → ¬ IsSet seen x → seen' ≡ set seen (x - 1) true → work' ≡ work ++ x ∷ [] → work ≡ []
    → n + unset_count seen' + length work' ≤ n + unset_count seen
counted_mark seen seen' x n work' work inside unseen now push empty =
    let less : unset_count (set seen (x - 1) true) + 1 ≡ unset_count seen = unset_less seen x inside unseen in
    let same : unset_count seen' ≡ unset_count (set seen (x - 1) true) = ap unset_count now in
    let none : length work ≡ 0 = ap length empty in
    let one : length work' ≡ length work + 1 = ap length push ∙ length-append work (x ∷ []) in
    omega arith
