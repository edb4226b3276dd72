-- A step of the search: an instruction is followed to where it leads.
use Rattle.std.proofs.Common.{◌≡◌, ℕ, ◌<◌, ◌≤◌, ◌⊎◌, eqb, Bool, true, false, List, [], ◌∷◌, ◌++◌, length, Option, Some, None, refl, sym, ◌∙◌, ap, subst, inl, inr, arith, Contains}
use Rattle.std.specs.Prelude.{if◌then◌else◌}
use Rattle.std.proofs.lemmas.Bool.{cases_Bool, false≢true, eqb-true, eq-eqb}
use Rattle.std.proofs.lemmas.List.Elements.{Contains-append_left, Contains-append_right, Contains-append_cases, Contains-push, Contains-push_cases}
use Rattle.std.proofs.lemmas.Option.{same_Some, none-some}
use Rattle.et_flow.specs.Types.{TypesOf, AreTypesBelow}
use Rattle.et_flow.specs.Flows.{LeadOf, Typing, AreAbove, IsThere, LeadsThere, IsTyping, HasTyping, IsLeadBelow, IsMonotone, IsStraight, some_place, types_at, HasLocals}
use Rattle.et_flow.specs.Searching.{States, HasJoined, HaveLocals, Grows, Joins, IsUnder, found, IsPassed, IsSearching}
use Rattle.et_flow.proofs.Below.{types_refl}
use Rattle.et_flow.proofs.Places.{joined_among}
use Rattle.et_flow.proofs.Joining.{above_more, is_above, there_more, leads_more, joined_there, joined_grows, joined_least_now}

-- A TYPING is above what leads from below it

there_lower : (typing : Typing) (q : ℕ) (ts us : TypesOf) → AreTypesBelow ts us → IsThere typing q us → IsThere typing q ts
there_lower typing q ts us p h = above_more ts us (typing q) p h

leads_lower : (typing : Typing) (x y : Option LeadOf) → IsLeadBelow x y → LeadsThere typing y → LeadsThere typing x
leads_lower typing x None p h = absurd h
leads_lower typing None (Some u) p h = p
leads_lower typing (Some l) (Some u) p h = (
  λ q c. there_lower typing q l.after u.after p.0 (h.0 q (subst (λ (qs : List ℕ). Contains qs q) p.1 c)),
  λ q c. there_lower typing q l.caught u.caught p.2 (h.1 q (subst (λ (qs : List ℕ). Contains qs q) p.3 c)),
)

-- WHAT IS FOUND, at places of which it is kept and at straight ones

module _ (straight : ℕ → Bool) (passed : Typing) (states : States) where
  pub found_kept : (pc : ℕ) → straight pc ≡ false → found straight passed states pc ≡ types_at states pc
  found_kept pc e = ap (λ (b : Bool). if b then passed pc else types_at states pc) e

  pub found_passed : (pc : ℕ) → straight pc ≡ true → found straight passed states pc ≡ passed pc
  found_passed pc e = ap (λ (b : Bool). if b then passed pc else types_at states pc) e

-- .. where the code goes on at a place, if at one, with these types
abbrev pub is_place : Option ℕ → ℕ → Bool
is_place None q = false
is_place (Some k) q = eqb q k

abbrev pub passed_on : Option ℕ → TypesOf → Typing → Typing
passed_on on after passed q = if is_place on q then Some after else passed q

abbrev pub noted_on : List ℕ → Option ℕ → List ℕ
noted_on work None = work
noted_on work (Some q) = work ++ q ∷ []

noted_more : (work : List ℕ) (on : Option ℕ) (pc : ℕ) → Contains work pc → Contains (noted_on work on) pc
noted_more work None pc c = c
noted_more work (Some q) pc c = Contains-append_left work (q ∷ []) pc c

noted_here : (work : List ℕ) (on : Option ℕ) (pc : ℕ) → is_place on pc ≡ true → Contains (noted_on work on) pc
noted_here work None pc e = absurd (false≢true e)
noted_here work (Some q) pc e = subst (λ (k : ℕ). Contains (work ++ q ∷ []) k) (sym (eqb-true pc q e)) (Contains-push work q)

pub is_on : (on : Option ℕ) (pc : ℕ) → is_place on pc ≡ true → Contains (some_place on) pc
is_on None pc e = absurd (false≢true e)
is_on (Some q) pc e = subst (λ (k : ℕ). Contains (q ∷ []) k) (sym (eqb-true pc q e)) (Contains-push [] q)

pub on_is : (on : Option ℕ) (pc : ℕ) → Contains (some_place on) pc → is_place on pc ≡ true
on_is None pc c = absurd (omega (arith, c.1))
on_is (Some q) pc c = elim (Contains-push_cases [] q pc c) [
  | inl none ↦ absurd (omega (arith, none.1))
  | inr same ↦ eq-eqb pc q (sym same)
]

module _ (leads : ℕ → TypesOf → Option LeadOf) (straight : ℕ → Bool) (entry : TypesOf) (monotone : IsMonotone leads) (code : IsStraight leads straight) where
  pub typing_leads : (typing : Typing) (place : ℕ) (ts : TypesOf) → IsTyping leads entry typing → IsThere typing place ts → LeadsThere typing (leads place ts)
  typing_leads typing place ts is there = by (typing place) refl there
    where
      by : (o : Option TypesOf) → typing place ≡ o → AreAbove ts o → LeadsThere typing (leads place ts)
      by None e a = absurd a
      by (Some us) e a = leads_lower typing (leads place ts) (leads place us) (monotone place ts us a) (is.closed place us e)

  -- THE FIRST STEP

  pub first_found : (states : States) (states' : States) (work' : List ℕ) → 0 < length states → ((pc : ℕ) → types_at states pc ≡ None) → HasJoined (length entry.locals) states [] 0 entry states' work' → IsSearching leads straight entry (length entry.locals) states' work' (λ pc. None)
  first_found states states' work' some none h =
      let had : HaveLocals (length entry.locals) states = λ pc. subst (λ (o : Option TypesOf). HasLocals (length entry.locals) o) (sym (none pc)) tt in
      let few : length entry.locals ≤ length entry.locals = omega arith in
      let g : Grows (length entry.locals) states [] states' work' = joined_grows (length entry.locals) states [] 0 entry states' work' some h few had in
      let empty : (pc : ℕ) (us : TypesOf) → types_at states pc ≡ Some us → ⊥ = λ pc us e. none-some us (sym (none pc) ∙ e) in
      let T : Typing = found straight (λ pc. None) states' in
      let kept : (pc : ℕ) (us : TypesOf) → T pc ≡ Some us → (straight pc ≡ false) × (types_at states' pc ≡ Some us) = λ pc us e. elim (cases_Bool (straight pc)) [
        | inl on ↦ absurd (none-some us (sym (found_passed straight (λ q. None) states' pc on) ∙ e))
        | inr off ↦ (off, sym (found_kept straight (λ q. None) states' pc off) ∙ e)
      ] in
      record {
        entry_there = subst (λ (o : Option TypesOf). AreAbove entry o) (sym (found_kept straight (λ q. None) states' 0 code.first)) (joined_there (length entry.locals) states [] 0 entry states' work' some h);
        closed = λ pc us e. elim (g.noted pc us (kept pc us e).1) [ inl was ↦ absurd (empty pc us was) | inr put ↦ inl put ];
        least = λ typing is pc us e. joined_least_now (length entry.locals) states [] 0 entry states' work' some h typing (λ q vs was. absurd (empty q vs was)) is.entry_there pc us (kept pc us e).1;
        runs = λ pc us on e. absurd (none-some us e);
        kept = λ pc us e. elim (g.noted pc us e) [
          | inl was ↦ absurd (empty pc us was)
          | inr put ↦ elim (joined_among (length entry.locals) states [] 0 entry states' work' h pc put) [
            | inl was ↦ absurd (omega (arith, was.1))
            | inr same ↦ subst (λ (k : ℕ). straight k ≡ false) same code.first
          ]
        ];
        locals_are = g.locals_kept;
      }

  -- NOTHING WAS FOUND at a place

  pub nothing_there : (locals : ℕ) (states : States) (front : List ℕ) (place : ℕ) (passed : Typing) → IsSearching leads straight entry locals states (front ++ place ∷ []) passed → found straight passed states place ≡ None → IsSearching leads straight entry locals states front passed
  nothing_there locals states front place passed h none = record {
    entry_there = h.entry_there;
    closed = λ pc us e. elim (h.closed pc us e) [
      | inl c ↦ elim (Contains-push_cases front place pc c) [
        | inl was ↦ inl was
        | inr same ↦ absurd (none-some us (sym none ∙ subst (λ (k : ℕ). found straight passed states k ≡ Some us) (sym same) e))
      ]
      | inr l ↦ inr l
    ];
    least = h.least;
    runs = h.runs;
    kept = h.kept;
    locals_are = h.locals_are;
  }

  -- THE INSTRUCTION DOESN'T ACCEPT what was found

  pub refused_there : (locals : ℕ) (states : States) (work : List ℕ) (place : ℕ) (ts : TypesOf) (passed : Typing) → IsSearching leads straight entry locals states work passed → found straight passed states place ≡ Some ts → leads place ts ≡ None → HasTyping leads entry → ⊥
  refused_there locals states work place ts passed h some none has =
      subst (λ (o : Option LeadOf). LeadsThere has.typing o) none (typing_leads has.typing place ts has.is (h.least has.typing has.is place ts some))

  -- IT LEADS on

  pub typing_there : (locals : ℕ) (states : States) (work : List ℕ) (place : ℕ) (ts : TypesOf) (l : LeadOf) (passed : Typing) → IsSearching leads straight entry locals states work passed → found straight passed states place ≡ Some ts → leads place ts ≡ Some l → (typing : Typing) → IsTyping leads entry typing → LeadsThere typing (Some l)
  typing_there locals states work place ts l passed h some leading typing is =
      subst (λ (o : Option LeadOf). LeadsThere typing o) leading (typing_leads typing place ts is (h.least typing is place ts some))

  -- what is kept is below each typing
  pub kept_under : (locals : ℕ) (states : States) (work : List ℕ) (passed : Typing) → IsSearching leads straight entry locals states work passed → (typing : Typing) → IsTyping leads entry typing → IsUnder typing states
  kept_under locals states work passed h typing is pc us e = h.least typing is pc us (found_kept straight passed states pc (h.kept pc us e) ∙ e)

  -- what was found at the place, what is found where it leads, and what is noted then
  module _ (locals : ℕ) (s0 s1 s2 : States) (front w1 w2 : List ℕ) (passed : Typing) (pc : ℕ) (ts : TypesOf) (l : LeadOf) (on : Option ℕ) (others : List ℕ)
      (h : IsSearching leads straight entry locals s0 (front ++ pc ∷ []) passed)
      (here : found straight passed s0 pc ≡ Some ts)
      (leading : leads pc ts ≡ Some l)
      (nexts : l.nexts ≡ some_place on ++ others)
      (goes_straight : (q : ℕ) → Contains (some_place on) q → straight q ≡ true)
      (turns : (q : ℕ) → Contains others q → straight q ≡ false)
      (kept : (q : ℕ) → Contains front q → straight q ≡ false)
      (a : Joins locals s0 front l.handlers l.caught s1 w1)
      (b : Joins locals s1 w1 others l.after s2 w2) where
    pub work_kept : (q : ℕ) → Contains w2 q → straight q ≡ false
    work_kept q c = elim (b.among q c) [
      | inl c1 ↦ elim (a.among q c1) [ inl was ↦ kept q was | inr handler ↦ code.handlers pc ts l q leading handler ]
      | inr next ↦ turns q next
    ]

    states_kept : (q : ℕ) (us : TypesOf) → types_at s2 q ≡ Some us → straight q ≡ false
    states_kept q us e = elim (b.grows.noted q us e) [
      | inl e1 ↦ elim (a.grows.noted q us e1) [ inl e0 ↦ h.kept q us e0 | inr put ↦ work_kept q (b.grows.kept q put) ]
      | inr put ↦ work_kept q put
    ]

    next_on : (q : ℕ) → is_place on q ≡ true → Contains l.nexts q
    next_on q e = subst (λ (xs : List ℕ). Contains xs q) (sym nexts) (Contains-append_left (some_place on) others q (is_on on q e))

    straight_on : (q : ℕ) → is_place on q ≡ true → straight q ≡ true
    straight_on q e = goes_straight q (is_on on q e)

    pub on_there : (q : ℕ) → is_place on q ≡ true → found straight (passed_on on l.after passed) s2 q ≡ Some l.after
    on_there q e = found_passed straight (passed_on on l.after passed) s2 q (straight_on q e) ∙ ap (λ (x : Bool). if x then Some l.after else passed q) e

    not_on : (q : ℕ) → straight q ≡ true → is_place on q ≡ false → found straight (passed_on on l.after passed) s2 q ≡ passed q
    not_on q st e = found_passed straight (passed_on on l.after passed) s2 q st ∙ ap (λ (x : Bool). if x then Some l.after else passed q) e

    -- what was found where the code goes straight on is below what is found there now
    passed_lower : (q : ℕ) (us : TypesOf) → is_place on q ≡ true → passed q ≡ Some us → AreTypesBelow us l.after
    passed_lower q us e p =
        let f : IsPassed leads (found straight passed s0) q us = h.runs q us (straight_on q e) p in
        let same : f.pc ≡ pc = code.alone f.pc pc f.types ts f.lead l q f.is leading f.there (next_on q e) (straight_on q e) in
        let lower : AreTypesBelow f.types ts = subst (λ (o : Option TypesOf). AreAbove f.types o) here (subst (λ (k : ℕ). IsThere (found straight passed s0) k f.types) same f.lower) in
        let is : leads pc f.types ≡ Some f.lead = subst (λ (k : ℕ). leads k f.types ≡ Some f.lead) same f.is in
        let below : IsLeadBelow (Some f.lead) (Some l) = subst (λ (o : Option LeadOf). IsLeadBelow (Some f.lead) o) leading (subst (λ (o : Option LeadOf). IsLeadBelow o (leads pc ts)) is (monotone pc f.types ts lower)) in
        subst (λ (x : TypesOf). AreTypesBelow x l.after) f.after_is below.0

    kept_there : (q : ℕ) (us : TypesOf) → straight q ≡ false → IsThere (types_at s2) q us → IsThere (found straight (passed_on on l.after passed) s2) q us
    kept_there q us e there = subst (λ (o : Option TypesOf). AreAbove us o) (sym (found_kept straight (passed_on on l.after passed) s2 q e)) there

    grow : (q : ℕ) (us : TypesOf) → found straight passed s0 q ≡ Some us → IsThere (found straight (passed_on on l.after passed) s2) q us
    grow q us e = elim (cases_Bool (straight q)) [
      | inl st ↦ (let p : passed q ≡ Some us = sym (found_passed straight passed s0 q st) ∙ e in elim (cases_Bool (is_place on q)) [
        | inl here ↦ is_above us l.after (found straight (passed_on on l.after passed) s2 q) (on_there q here) (passed_lower q us here p)
        | inr off ↦ is_above us us (found straight (passed_on on l.after passed) s2 q) (not_on q st off ∙ p) (types_refl us)
      ])
      | inr ks ↦ kept_there q us ks (there_more (types_at s1) (types_at s2) q us (b.grows.under q) (a.grows.under q us (sym (found_kept straight passed s0 q ks) ∙ e)))
    ]

    next_there : (q : ℕ) → Contains (some_place on) q ⊎ Contains others q → IsThere (found straight (passed_on on l.after passed) s2) q l.after
    next_there q (inl c) = is_above l.after l.after (found straight (passed_on on l.after passed) s2 q) (on_there q (on_is on q c)) (types_refl l.after)
    next_there q (inr c) = kept_there q l.after (turns q c) (b.there q c)

    led : LeadsThere (found straight (passed_on on l.after passed) s2) (Some l)
    led = (
      λ q c. next_there q (Contains-append_cases (some_place on) others q (subst (λ (xs : List ℕ). Contains xs q) nexts c)),
      λ q c. kept_there q l.caught (code.handlers pc ts l q leading c) (there_more (types_at s1) (types_at s2) q l.caught (b.grows.under q) (a.there q c)),
    )

    closed_before : (q : ℕ) (us : TypesOf) → found straight passed s0 q ≡ Some us → Contains (noted_on w2 on) q ⊎ LeadsThere (found straight (passed_on on l.after passed) s2) (leads q us)
    closed_before q us e = elim (h.closed q us e) [
      | inl c ↦ elim (Contains-push_cases front pc q c) [
        | inl was ↦ inl (noted_more w2 on q (b.grows.kept q (a.grows.kept q was)))
        | inr same ↦ inr (subst (λ (k : ℕ). LeadsThere (found straight (passed_on on l.after passed) s2) (leads k us)) same
            (subst (λ (x : TypesOf). LeadsThere (found straight (passed_on on l.after passed) s2) (leads pc x)) (same_Some ts us (sym here ∙ subst (λ (k : ℕ). found straight passed s0 k ≡ Some us) (sym same) e))
            (subst (λ (o : Option LeadOf). LeadsThere (found straight (passed_on on l.after passed) s2) o) (sym leading) led)))
      ]
      | inr there ↦ inr (leads_more (found straight passed s0) (found straight (passed_on on l.after passed) s2) (leads q us) grow there)
    ]

    closed_now : (q : ℕ) (us : TypesOf) → found straight (passed_on on l.after passed) s2 q ≡ Some us → Contains (noted_on w2 on) q ⊎ LeadsThere (found straight (passed_on on l.after passed) s2) (leads q us)
    closed_now q us e = elim (cases_Bool (straight q)) [
      | inl st ↦ elim (cases_Bool (is_place on q)) [
        | inl on_it ↦ inl (noted_here w2 on q on_it)
        | inr off ↦ closed_before q us (found_passed straight passed s0 q st ∙ (sym (not_on q st off) ∙ e))
      ]
      | inr ks ↦ elim (b.grows.noted q us (sym (found_kept straight (passed_on on l.after passed) s2 q ks) ∙ e)) [
        | inl e1 ↦ elim (a.grows.noted q us e1) [
          | inl e0 ↦ closed_before q us (found_kept straight passed s0 q ks ∙ e0)
          | inr put ↦ inl (noted_more w2 on q (b.grows.kept q put))
        ]
        | inr put ↦ inl (noted_more w2 on q put)
      ]
    ]

    leads_typing : (typing : Typing) → IsTyping leads entry typing → LeadsThere typing (Some l)
    leads_typing typing is = typing_there locals s0 (front ++ pc ∷ []) pc ts l passed h here leading typing is

    others_there : (typing : Typing) → IsTyping leads entry typing → (q : ℕ) → Contains others q → IsThere typing q l.after
    others_there typing is q c = (leads_typing typing is).0 q (subst (λ (xs : List ℕ). Contains xs q) (sym nexts) (Contains-append_right (some_place on) others q c))

    least_now : (typing : Typing) → IsTyping leads entry typing → (q : ℕ) (us : TypesOf) → found straight (passed_on on l.after passed) s2 q ≡ Some us → IsThere typing q us
    least_now typing is q us e = elim (cases_Bool (straight q)) [
      | inl st ↦ elim (cases_Bool (is_place on q)) [
        | inl on_it ↦ subst (λ (x : TypesOf). IsThere typing q x) (same_Some l.after us (sym (on_there q on_it) ∙ e)) ((leads_typing typing is).0 q (next_on q on_it))
        | inr off ↦ h.least typing is q us (found_passed straight passed s0 q st ∙ (sym (not_on q st off) ∙ e))
      ]
      | inr ks ↦ b.least typing (a.least typing (kept_under locals s0 (front ++ pc ∷ []) passed h typing is) (leads_typing typing is).1) (others_there typing is) q us (sym (found_kept straight (passed_on on l.after passed) s2 q ks) ∙ e)
    ]

    runs_now : (q : ℕ) (us : TypesOf) → straight q ≡ true → passed_on on l.after passed q ≡ Some us → IsPassed leads (found straight (passed_on on l.after passed) s2) q us
    runs_now q us st e = elim (cases_Bool (is_place on q)) [
      | inl on_it ↦ record {
        pc = pc;
        types = ts;
        lower = grow pc ts here;
        lead = l;
        is = leading;
        there = next_on q on_it;
        after_is = same_Some l.after us (sym (ap (λ (x : Bool). if x then Some l.after else passed q) on_it) ∙ e);
      }
      | inr off ↦ (let f : IsPassed leads (found straight passed s0) q us = h.runs q us st (sym (ap (λ (x : Bool). if x then Some l.after else passed q) off) ∙ e) in record {
        pc = f.pc;
        types = f.types;
        lower = there_more (found straight passed s0) (found straight (passed_on on l.after passed) s2) f.pc f.types (grow f.pc) f.lower;
        lead = f.lead;
        is = f.is;
        there = f.there;
        after_is = f.after_is;
      })
    ]

    pub stepped : IsSearching leads straight entry locals s2 (noted_on w2 on) (passed_on on l.after passed)
    stepped = record {
      entry_there = there_more (found straight passed s0) (found straight (passed_on on l.after passed) s2) 0 entry (grow 0) h.entry_there;
      closed = closed_now;
      least = least_now;
      runs = runs_now;
      kept = states_kept;
      locals_are = b.grows.locals_kept;
    }

  -- THE END

  pub all_found : (locals : ℕ) (states : States) (passed : Typing) → IsSearching leads straight entry locals states [] passed → HasTyping leads entry
  all_found locals states passed h = record {
    typing = found straight passed states;
    is = record {
      entry_there = h.entry_there;
      closed = λ pc us e. elim (h.closed pc us e) [ inl c ↦ absurd (omega (arith, c.1)) | inr l ↦ l ];
    };
  }
