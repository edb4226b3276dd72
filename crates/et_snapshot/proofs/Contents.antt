-- The slots that are shown are those that hold something, each with what was written there last.
use Rattle.std.proofs.Common.{◌≡◌, ◌≢◌, ◌∙◌, ℕ, ◌<◌, Bool, true, false, cond, not, eqb, List, [], ◌∷◌, Option, Some, None, refl, sym, ap, subst, arith, inl, inr}
use Rattle.std.specs.Prelude.{Contains, filter, unwrap_or}
use Rattle.std.specs.List.{filter_map, fold, cons_option, last_or, AllByRecursion}
use Rattle.std.specs.List.Sorted.{IsStrictlySortedBy}
use Rattle.std.specs.Map.{keys_of, lookup}
use Rattle.std.specs.BTreeMap.{insert_entry, is_at}
use Rattle.std.specs.Ordering.{nat_cmp, match_ordering}
use Rattle.std.specs.declared.cmp.Ordering.{Ordering}
use Rattle.std.specs.declared.cmp.Ordering.TheVariants.{Less, Equal, Greater}
use Rattle.std.proofs.lemmas.Bool.Decides.{nat_tests}
use Rattle.std.proofs.lemmas.Bool.{ne_eqb, eq-eqb}
use Rattle.et_base.proofs.Lists.{Contains-none, Contains-here, Contains-there, Contains-cons, pair_from, filter_kept, filter_keeps}
use Rattle.et_base.specs.declared.line.TraceLine.{TraceLine}
use Rattle.et_base.proofs.Tests.{cases_eqb}
use Rattle.et_base.proofs.Options.{some_number}
use Rattle.et_snapshot.specs.Snapshot.{writes, put_into, content, written, is_set, slots_at}
use Rattle.et_snapshot.proofs.Keeping.{cmp_equal}

abbrev Slots : Type 0
Slots = List (ℕ × ℕ)

abbrev put : Slots → ℕ × ℕ → Slots
put slots w = insert_entry nat_cmp slots w.0 w.1

-- HOW TWO NUMBERS COMPARE
below_is : (a b : ℕ) → a < b → nat_cmp a b ≡ Less
below_is a b lt = grind (arith, nat_tests)

is_below : (a b : ℕ) → nat_cmp a b ≡ Less → a < b
is_below a b e = grind (arith, nat_tests)

is_same : (a b : ℕ) → nat_cmp a b ≡ Equal → a ≡ b
is_same a b e = grind (arith, nat_tests)

is_above : (a b : ℕ) → nat_cmp a b ≡ Greater → b < a
is_above a b e = grind (arith, nat_tests)

-- SLOTS RISE

-- each is above
abbrev AllAbove : ℕ → Slots → Type 0
AllAbove k [] = Unit {0}
AllAbove k (e ∷ es) = (k < e.0) × AllAbove k es

abbrev Rises : Slots → Type 0
Rises [] = Unit {0}
Rises (e ∷ es) = AllAbove e.0 es × Rises es

above_more : (a b : ℕ) (es : Slots) → a < b → AllAbove b es → AllAbove a es
above_more a b [] lt h = tt
above_more a b (e ∷ es) lt h = ((let m = h.0 in omega (arith, lt, m)), above_more a b es lt h.1)

above_put : (a k v : ℕ) (es : Slots) → a < k → AllAbove a es → AllAbove a (insert_entry nat_cmp es k v)
above_put a k v [] lt h = (lt, tt)
above_put a k v (e ∷ es) lt h =
    elim (nat_cmp k e.0) as (λ o. AllAbove a (match_ordering o ((k, v) ∷ e ∷ es) ((e.0, v) ∷ es) (e ∷ insert_entry nat_cmp es k v))) [
      | Less ↦ (lt, h)
      | Equal ↦ h
      | Greater ↦ (h.0, above_put a k v es lt h.1)
    ]

rises_by : (o : Ordering) (k v : ℕ) (e : ℕ × ℕ) (es : Slots) → nat_cmp k e.0 ≡ o → Rises (e ∷ es) → Rises (insert_entry nat_cmp es k v) → Rises (match_ordering o ((k, v) ∷ e ∷ es) ((e.0, v) ∷ es) (e ∷ insert_entry nat_cmp es k v))
rises_by Less k v e es is h more = let lt = is_below k e.0 is in ((lt, above_more k e.0 es lt h.0), h)
rises_by Equal k v e es is h more = h
rises_by Greater k v e es is h more = (above_put e.0 k v es (is_above k e.0 is) h.0, more)

rises_put : (k v : ℕ) (es : Slots) → Rises es → Rises (insert_entry nat_cmp es k v)
rises_put k v [] h = (tt, tt)
rises_put k v (e ∷ es) h = rises_by (nat_cmp k e.0) k v e es refl h (rises_put k v es h.1)

rises_from : (ws acc : Slots) → Rises acc → Rises (fold put acc ws)
rises_from [] acc h = h
rises_from (w ∷ ws) acc h = rises_from ws (put acc w) (rises_put w.0 w.1 acc h)

rises : (ws : Slots) → Rises (written ws)
rises ws = rises_from ws [] tt

above_filter : (k : ℕ) (p : ℕ × ℕ → Bool) (es : Slots) → AllAbove k es → AllAbove k (filter p es)
above_filter k p [] h = tt
above_filter k p (e ∷ es) h = elim (p e) as (λ b. AllAbove k (cond b (e ∷ filter p es) (filter p es))) [ true ↦ (h.0, above_filter k p es h.1) | false ↦ above_filter k p es h.1 ]

rises_filter : (p : ℕ × ℕ → Bool) (es : Slots) → Rises es → Rises (filter p es)
rises_filter p [] h = tt
rises_filter p (e ∷ es) h = elim (p e) as (λ b. Rises (cond b (e ∷ filter p es) (filter p es))) [ true ↦ (above_filter e.0 p es h.0, rises_filter p es h.1) | false ↦ rises_filter p es h.1 ]

all_less : (k : ℕ) (es : Slots) → AllAbove k es → AllByRecursion (λ y. nat_cmp k y ≡ Less) (keys_of es)
all_less k [] h = tt
all_less k (e ∷ es) h = (below_is k e.0 h.0, all_less k es h.1)

sorted : (es : Slots) → Rises es → IsStrictlySortedBy nat_cmp (keys_of es)
unfolding IsStrictlySortedBy
sorted [] h = tt
sorted (e ∷ es) h = (all_less e.0 es h.0, sorted es h.1)

pub slots_rise : (lines : List TraceLine) (e object : ℕ) → IsStrictlySortedBy nat_cmp (keys_of (slots_at lines e object))
slots_rise lines e object = sorted (slots_at lines e object) (rises_filter is_set (written (writes lines e object)) (rises (writes lines e object)))

-- WHAT A SLOT HAS
abbrev has : ℕ → Slots → Option ℕ
has slot es = lookup (is_at (nat_cmp slot)) es

abbrev hit : ℕ → ℕ × ℕ → Option ℕ → Option ℕ
hit slot e rest = cond (eqb slot e.0) (Some e.1) rest

has_cons : (slot : ℕ) (e : ℕ × ℕ) (es : Slots) → has slot (e ∷ es) ≡ hit slot e (has slot es)
has_cons slot e es = ap (λ (b : Bool). cond b (Some e.1) (has slot es)) (cmp_equal slot e.0)

has_by : (o : Ordering) (slot k v : ℕ) (e : ℕ × ℕ) (es : Slots) → nat_cmp k e.0 ≡ o → has slot (insert_entry nat_cmp es k v) ≡ hit slot (k, v) (has slot es)
    → has slot (match_ordering o ((k, v) ∷ e ∷ es) ((e.0, v) ∷ es) (e ∷ insert_entry nat_cmp es k v)) ≡ hit slot (k, v) (has slot (e ∷ es))
has_by Less slot k v e es is rest = has_cons slot (k, v) (e ∷ es)
has_by Equal slot k v e es is rest =
    let same = is_same k e.0 is in
    has_cons slot (e.0, v) es
    ∙ (elim (eqb slot e.0) as (λ b. cond b (Some v) (has slot es) ≡ cond b (Some v) (cond b (Some e.1) (has slot es))) [ true ↦ refl | false ↦ refl ]
    ∙ (ap (λ (t : Option ℕ). cond (eqb slot e.0) (Some v) t) (sym (has_cons slot e es)) ∙ ap (λ (j : ℕ). cond (eqb slot j) (Some v) (has slot (e ∷ es))) (sym same)))
has_by Greater slot k v e es is rest =
    let gt = is_above k e.0 is in
    has_cons slot e (insert_entry nat_cmp es k v)
    ∙ (ap (λ (t : Option ℕ). hit slot e t) rest ∙ (apart slot k v e (has slot es) gt ∙ ap (λ (t : Option ℕ). hit slot (k, v) t) (sym (has_cons slot e es))))
  where
    apart : (slot k v : ℕ) (e : ℕ × ℕ) (rest : Option ℕ) → e.0 < k → hit slot e (hit slot (k, v) rest) ≡ hit slot (k, v) (hit slot e rest)
    apart slot k v e rest gt = elim (cases_eqb slot e.0) [
      | inl a ↦
          let s = a.1 in
          let n : eqb slot k ≡ false = ne_eqb slot k (λ q. omega (arith, q, s, gt)) in
          ap (λ (b : Bool). cond b (Some e.1) (hit slot (k, v) rest)) a.0 ∙ sym (ap (λ (b : Bool). cond b (Some v) (hit slot e rest)) n ∙ ap (λ (b : Bool). cond b (Some e.1) rest) a.0)
      | inr a ↦ ap (λ (b : Bool). cond b (Some e.1) (hit slot (k, v) rest)) a.0 ∙ sym (ap (λ (b : Bool). hit slot (k, v) (cond b (Some e.1) rest)) a.0)
    ]

has_put : (slot k v : ℕ) (es : Slots) → has slot (insert_entry nat_cmp es k v) ≡ hit slot (k, v) (has slot es)
has_put slot k v [] = has_cons slot (k, v) []
has_put slot k v (e ∷ es) = has_by (nat_cmp k e.0) slot k v e es refl (has_put slot k v es)

last_put : (slot : ℕ) (w : ℕ × ℕ) (before : Option ℕ) (rest : List ℕ) → last_or (hit slot w before) rest ≡ last_or before (cons_option (put_into slot w) rest)
last_put slot w before rest = elim (cases_eqb slot w.0) [
  | inl e ↦ ap (λ (b : Bool). last_or (cond b (Some w.1) before) rest) e.0 ∙ sym (ap (λ (b : Bool). last_or before (cons_option (cond b (Some w.1) None) rest)) (eq-eqb w.0 slot (sym e.1)))
  | inr n ↦ ap (λ (b : Bool). last_or (cond b (Some w.1) before) rest) n.0 ∙ sym (ap (λ (b : Bool). last_or before (cons_option (cond b (Some w.1) None) rest)) (ne_eqb w.0 slot (λ q. n.1 (sym q))))
]

has_from : (slot : ℕ) (ws acc : Slots) → has slot (fold put acc ws) ≡ last_or (has slot acc) (filter_map (put_into slot) ws)
has_from slot [] acc = refl
has_from slot (w ∷ ws) acc =
    has_from slot ws (put acc w)
    ∙ (ap (λ (o : Option ℕ). last_or o (filter_map (put_into slot) ws)) (has_put slot w.0 w.1 acc) ∙ last_put slot w (has slot acc) (filter_map (put_into slot) ws))

-- WHAT IS LISTED
above_has : (k slot target : ℕ) (es : Slots) → AllAbove k es → Contains es (slot, target) → k < slot
above_has k slot target [] h c = absurd (Contains-none (slot, target) c)
above_has k slot target (e ∷ es) h c = elim (Contains-cons e es (slot, target) c) [
  | inl is ↦ subst (λ (p : ℕ × ℕ). k < p.0) is h.0
  | inr more ↦ above_has k slot target es h.1 more
]

listed_has : (slot target : ℕ) (es : Slots) → Rises es → Contains es (slot, target) → has slot es ≡ Some target
listed_has slot target [] h c = absurd (Contains-none (slot, target) c)
listed_has slot target (e ∷ es) h c = has_cons slot e es ∙ elim (Contains-cons e es (slot, target) c) [
  | inl is ↦
      let key : e.0 ≡ slot = ap (λ (p : ℕ × ℕ). p.0) is in
      ap (λ (b : Bool). cond b (Some e.1) (has slot es)) (eq-eqb slot e.0 (sym key)) ∙ ap (λ (p : ℕ × ℕ). Some p.1) is
  | inr more ↦
      let lt = above_has e.0 slot target es h.0 more in
      ap (λ (b : Bool). cond b (Some e.1) (has slot es)) (ne_eqb slot e.0 (λ q. omega (arith, q, lt))) ∙ listed_has slot target es h.1 more
]

has_listed : (slot target : ℕ) (es : Slots) → has slot es ≡ Some target → Contains es (slot, target)
has_listed slot target [] is = absurd cc
has_listed slot target (e ∷ es) is = elim (cases_eqb slot e.0) [
  | inl q ↦
      let value : Some e.1 ≡ Some target = sym (ap (λ (b : Bool). cond b (Some e.1) (has slot es)) q.0) ∙ (sym (has_cons slot e es) ∙ is) in
      let same : e.1 ≡ target = ap (λ (o : Option ℕ). unwrap_or o 0) value in
      let whole : e ≡ (slot, target) = pair_from e (slot, target) (sym q.1) same in
      subst (λ (p : ℕ × ℕ). Contains (e ∷ es) p) whole (Contains-here e es)
  | inr n ↦
      let rest : has slot es ≡ Some target = sym (ap (λ (b : Bool). cond b (Some e.1) (has slot es)) n.0) ∙ (sym (has_cons slot e es) ∙ is) in
      Contains-there e es (slot, target) (has_listed slot target es rest)
]

set_is : (slot target : ℕ) → is_set (slot, target) ≡ true → target ≢ 0
set_is slot target e z = absurd (let y = eq-eqb target 0 z in cc)

is_set_of : (slot target : ℕ) → target ≢ 0 → is_set (slot, target) ≡ true
is_set_of slot target ne = ap (λ (b : Bool). not b) (ne_eqb target 0 ne)

pub shown_holds : (lines : List TraceLine) (e object slot target : ℕ) → Contains (slots_at lines e object) (slot, target) → (content lines e object slot ≡ target) × (target ≢ 0)
shown_holds lines e object slot target c =
    let ws = writes lines e object in
    let k = filter_kept is_set (written ws) (slot, target) c in
    let has : lookup (is_at (nat_cmp slot)) (written ws) ≡ Some target = listed_has slot target (written ws) (rises ws) k.0 in
    (ap (λ (o : Option ℕ). unwrap_or o 0) (sym (has_from slot ws []) ∙ has), set_is slot target k.1)

pub held_shows : (lines : List TraceLine) (e object slot target : ℕ) → (content lines e object slot ≡ target) × (target ≢ 0) → Contains (slots_at lines e object) (slot, target)
held_shows lines e object slot target h =
    let ws = writes lines e object in
    let is = some_number (last_or None (filter_map (put_into slot) ws)) target h.0 h.1 in
    filter_keeps is_set (written ws) (slot, target) (has_listed slot target (written ws) (has_from slot ws [] ∙ is)) (is_set_of slot target h.1)
