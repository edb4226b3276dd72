-- Types that join at a place.
use Rattle.std.proofs.Common.{◌≡◌, ℕ, ◌+◌, ◌*◌, ◌<◌, ◌≤◌, ◌⊎◌, List, [], ◌∷◌, length, get_or, set, Option, Some, None, refl, sym, ◌∙◌, ap, subst, inl, inr, arith, Contains, get_or-set_same, get_or-set_other}
use Rattle.std.proofs.lemmas.Bool.{cases_eq}
use Rattle.std.proofs.lemmas.List.{length-set, length-append}
use Rattle.std.proofs.lemmas.List.Elements.{Contains-append_left, Contains-push, Contains-push_cases}
use Rattle.std.proofs.lemmas.List.Sums.{sum_by-set}
use Rattle.std.proofs.lemmas.Option.{same_Some, none-some}
use Rattle.et_flow.specs.Types.{TypesOf, AreTypesBelow}
use Rattle.et_flow.specs.Flows.{LeadOf, Typing, AreAbove, IsThere, LeadsThere, types_at, joined_with, height, heights, IsJoinable, HasLocals}
use Rattle.et_flow.specs.Searching.{States, HasJoined, HaveLocals, IsUnder, Grows}
use Rattle.et_flow.proofs.Below.{length-joined_lists, lists_joined_left, lists_joined_right, lists_joined_below, types_refl, types_trans}

-- WHAT IS THERE

pub above_more : (ts us : TypesOf) (o : Option TypesOf) → AreTypesBelow ts us → AreAbove us o → AreAbove ts o
above_more ts us None p h = h
above_more ts us (Some vs) p h = types_trans ts us vs p h

pub is_above : (ts us : TypesOf) (o : Option TypesOf) → o ≡ Some us → AreTypesBelow ts us → AreAbove ts o
is_above ts us o e p = subst (λ (x : Option TypesOf). AreAbove ts x) (sym e) p

-- what is there stays there, where more was found
pub there_more : (s s' : Typing) (pc : ℕ) (ts : TypesOf) → ((us : TypesOf) → s pc ≡ Some us → IsThere s' pc us) → IsThere s pc ts → IsThere s' pc ts
there_more s s' pc ts grows h = by (s pc) refl h
  where
    by : (o : Option TypesOf) → s pc ≡ o → AreAbove ts o → IsThere s' pc ts
    by None e q = absurd q
    by (Some us) e q = above_more ts us (s' pc) q (grows us e)

pub leads_more : (s s' : Typing) (o : Option LeadOf) → ((pc : ℕ) (us : TypesOf) → s pc ≡ Some us → IsThere s' pc us) → LeadsThere s o → LeadsThere s' o
leads_more s s' None grows h = h
leads_more s s' (Some l) grows h = (λ q c. there_more s s' q l.after (grows q) (h.0 q c), λ q c. there_more s s' q l.caught (grows q) (h.1 q c))

-- TYPES THAT JOIN WITH WHAT IS THERE

pub joined_left : (o : Option TypesOf) (ts us : TypesOf) → IsJoinable o ts → o ≡ Some us → AreTypesBelow us (joined_with o ts)
joined_left None ts us j e = absurd (none-some us e)
joined_left (Some vs) ts us j e = subst (λ (x : TypesOf). AreTypesBelow x (joined_with (Some vs) ts)) (same_Some vs us e) (record { operands = refl; locals = lists_joined_left vs.locals ts.locals j.1 })

pub joined_right : (o : Option TypesOf) (ts : TypesOf) → IsJoinable o ts → AreTypesBelow ts (joined_with o ts)
joined_right None ts j = types_refl ts
joined_right (Some vs) ts j = record { operands = sym j.0; locals = lists_joined_right vs.locals ts.locals j.1 }

pub joined_least : (o : Option TypesOf) (ts vs : TypesOf) → ((us : TypesOf) → o ≡ Some us → AreTypesBelow us vs) → AreTypesBelow ts vs → AreTypesBelow (joined_with o ts) vs
joined_least None ts vs h p = p
joined_least (Some us) ts vs h p = let q : AreTypesBelow us vs = h us refl in record { operands = q.operands; locals = lists_joined_below us.locals ts.locals vs.locals q.locals p.locals }

-- .. do so where both are below one
pub joinable_below : (o : Option TypesOf) (ts vs : TypesOf) → ((us : TypesOf) → o ≡ Some us → AreTypesBelow us vs) → AreTypesBelow ts vs → IsJoinable o ts
joinable_below None ts vs h p = tt
joinable_below (Some us) ts vs h p = let q : AreTypesBelow us vs = h us refl in (q.operands ∙ sym p.operands, q.locals.long ∙ sym p.locals.long)

joined_long : (locals : ℕ) (o : Option TypesOf) (ts : TypesOf) → HasLocals locals o → length ts.locals ≤ locals → length (joined_with o ts).locals ≤ locals
joined_long locals None ts h le = le
joined_long locals (Some us) ts h le = omega (arith, length-joined_lists us.locals ts.locals, h)

-- THE STATES then

module _ (locals : ℕ) (states : States) (work : List ℕ) (place : ℕ) (ts : TypesOf) (states' : States) (work' : List ℕ) (inside : place < length states) (h : HasJoined locals states work place ts states' work') where
  abbrev new : TypesOf
  new = joined_with (types_at states place) ts

  there_now : types_at states' place ≡ Some new
  there_now = ap (λ (s : States). get_or s place None) h.found ∙ get_or-set_same states place (Some new) None inside

  other_now : (pc : ℕ) → (pc ≡ place → ⊥) → types_at states' pc ≡ types_at states pc
  other_now pc ne = ap (λ (s : States). get_or s pc None) h.found ∙ get_or-set_other states place pc (Some new) None ne

  under_now : (pc : ℕ) (us : TypesOf) → types_at states pc ≡ Some us → IsThere (types_at states') pc us
  under_now pc us e = elim (cases_eq pc place) [
    | inl same ↦ subst (λ (k : ℕ). IsThere (types_at states') k us) (sym same) (is_above us new (types_at states' place) there_now (joined_left (types_at states place) ts us h.joinable (subst (λ (k : ℕ). types_at states k ≡ Some us) same e)))
    | inr ne ↦ is_above us us (types_at states' pc) (other_now pc ne ∙ e) (types_refl us)
  ]

  pub joined_there : IsThere (types_at states') place ts
  joined_there = is_above ts new (types_at states' place) there_now (joined_right (types_at states place) ts h.joinable)

  noted_now : (pc : ℕ) (us : TypesOf) → types_at states' pc ≡ Some us → (types_at states pc ≡ Some us) ⊎ Contains work' pc
  noted_now pc us e = elim (cases_eq pc place) [
    | inl same ↦ elim h.noted [
      | inl old ↦ inl (subst (λ (k : ℕ). types_at states k ≡ Some us) (sym same) (old.1 ∙ (sym there_now ∙ subst (λ (k : ℕ). types_at states' k ≡ Some us) same e)))
      | inr put ↦ inr (subst (λ (k : ℕ). Contains work' k) (sym same) (subst (λ (w : List ℕ). Contains w place) (sym put.0) (Contains-push work place)))
    ]
    | inr ne ↦ inl (sym (other_now pc ne) ∙ e)
  ]

  kept_now : (pc : ℕ) → Contains work pc → Contains work' pc
  kept_now pc c = elim h.noted [
    | inl old ↦ subst (λ (w : List ℕ). Contains w pc) (sym old.0) c
    | inr put ↦ subst (λ (w : List ℕ). Contains w pc) (sym put.0) (Contains-append_left work (place ∷ []) pc c)
  ]

  within_now : (pc : ℕ) → Contains work' pc → Contains work pc ⊎ (pc < length states)
  within_now pc c = elim h.noted [
    | inl old ↦ inl (subst (λ (w : List ℕ). Contains w pc) old.0 c)
    | inr put ↦ elim (Contains-push_cases work place pc (subst (λ (w : List ℕ). Contains w pc) put.0 c)) [
      | inl was ↦ inl was
      | inr same ↦ inr (subst (λ (k : ℕ). k < length states) same inside)
    ]
  ]

  locals_now : length ts.locals ≤ locals → HaveLocals locals states → HaveLocals locals states'
  locals_now le had pc = elim (cases_eq pc place) [
    | inl same ↦ subst (λ (k : ℕ). HasLocals locals (types_at states' k)) (sym same) (subst (λ (o : Option TypesOf). HasLocals locals o) (sym there_now) (joined_long locals (types_at states place) ts (had place) le))
    | inr ne ↦ subst (λ (o : Option TypesOf). HasLocals locals o) (sym (other_now pc ne)) (had pc)
  ]

  same_states : types_at states place ≡ Some new → (pc : ℕ) → types_at states' pc ≡ types_at states pc
  same_states e pc = elim (cases_eq pc place) [
    | inl same ↦ subst (λ (k : ℕ). types_at states' k ≡ types_at states k) (sym same) (there_now ∙ sym e)
    | inr ne ↦ other_now pc ne
  ]

  -- nothing changed: the heights are the same
  height_same : types_at states place ≡ Some new → heights locals states' ≡ heights locals states
  height_same e =
      let sum : heights locals (set states place (Some new)) + height locals (types_at states place) ≡ heights locals states + height locals (Some new) = sum_by-set (height locals) states place (Some new) None inside in
      let same : height locals (types_at states place) ≡ height locals (Some new) = ap (height locals) e in
      let now : heights locals states' ≡ heights locals (set states place (Some new)) = ap (heights locals) h.found in
      omega arith

  falls_now : 2 * heights locals states' + length work' ≤ 2 * heights locals states + length work
  falls_now = elim h.noted [
    | inl old ↦ (let same : heights locals states' ≡ heights locals states = height_same old.1 in let len : length work' ≡ length work = ap length old.0 in omega arith)
    | inr put ↦ (let len : length work' ≡ length work + 1 = ap length put.0 ∙ length-append work (place ∷ []) in let less = put.1 in omega arith)
  ]

  pub joined_grows : length ts.locals ≤ locals → HaveLocals locals states → Grows locals states work states' work'
  joined_grows le had = record {
    long = ap length h.found ∙ length-set states place (Some new);
    under = under_now;
    noted = noted_now;
    kept = kept_now;
    within = within_now;
    locals_kept = locals_now le had;
    falls = falls_now;
  }

  pub joined_least_now : (typing : Typing) → IsUnder typing states → IsThere typing place ts → IsUnder typing states'
  joined_least_now typing under there pc us e = elim (cases_eq pc place) [
    | inl same ↦ subst (λ (k : ℕ). IsThere typing k us) (sym same) (by (typing place) refl there (same_Some new us (sym there_now ∙ subst (λ (k : ℕ). types_at states' k ≡ Some us) same e)))
    | inr ne ↦ under pc us (sym (other_now pc ne) ∙ e)
  ]
    where
      by : (o : Option TypesOf) → typing place ≡ o → AreAbove ts o → new ≡ us → AreAbove us (typing place)
      by None q a n = absurd a
      by (Some vs) q a n =
          let below : (xs : TypesOf) → types_at states place ≡ Some xs → AreTypesBelow xs vs = λ xs f. subst (λ (o : Option TypesOf). AreAbove xs o) q (under place xs f) in
          is_above us vs (typing place) q (subst (λ (x : TypesOf). AreTypesBelow x vs) n (joined_least (types_at states place) ts vs below a))

-- no typing is above both what was found at a place and types that don't join with that
pub not_joinable : (typing : Typing) (states : States) (place : ℕ) (ts : TypesOf) → IsUnder typing states → IsThere typing place ts → IsJoinable (types_at states place) ts
not_joinable typing states place ts under there = by (typing place) refl there
  where
    by : (o : Option TypesOf) → typing place ≡ o → AreAbove ts o → IsJoinable (types_at states place) ts
    by None e a = absurd a
    by (Some vs) e a = joinable_below (types_at states place) ts vs (λ us f. subst (λ (o : Option TypesOf). AreAbove us o) e (under place us f)) a

-- GROWING, step by step

pub grows_refl : (locals : ℕ) (states : States) (work : List ℕ) → HaveLocals locals states → Grows locals states work states work
grows_refl locals states work had = record {
  long = refl;
  under = λ pc us e. is_above us us (types_at states pc) e (types_refl us);
  noted = λ pc us e. inl e;
  kept = λ pc c. c;
  within = λ pc c. inl c;
  locals_kept = had;
  falls = omega arith;
}

pub grows_trans : (locals : ℕ) (s0 s1 s2 : States) (w0 w1 w2 : List ℕ) → Grows locals s0 w0 s1 w1 → Grows locals s1 w1 s2 w2 → Grows locals s0 w0 s2 w2
grows_trans locals s0 s1 s2 w0 w1 w2 a b = record {
  long = b.long ∙ a.long;
  under = λ pc us e. there_more (types_at s1) (types_at s2) pc us (b.under pc) (a.under pc us e);
  noted = λ pc us e. elim (b.noted pc us e) [
    | inl was ↦ elim (a.noted pc us was) [ inl old ↦ inl old | inr put ↦ inr (b.kept pc put) ]
    | inr put ↦ inr put
  ];
  kept = λ pc c. b.kept pc (a.kept pc c);
  within = λ pc c. elim (b.within pc c) [
    | inl was ↦ a.within pc was
    | inr lt ↦ inr (omega (arith, a.long, lt))
  ];
  locals_kept = b.locals_kept;
  falls = omega (arith, a.falls, b.falls);
}
