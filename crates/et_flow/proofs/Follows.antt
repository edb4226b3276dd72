-- The code is followed from a place, straight on.
use Rattle.std.proofs.Common.{◌≡◌, ℕ, ◌+◌, ◌*◌, ◌-◌, ◌<◌, ◌≤◌, Bool, true, false, List, [], ◌∷◌, ◌++◌, length, Option, Some, None, sym, ◌∙◌, ap, subst, inl, inr, arith, Contains}
use Rattle.std.specs.Prelude.{IfSome}
use Rattle.std.proofs.lemmas.List.Elements.{Contains-append_left, Contains-append_right, Contains-push}
use Rattle.et_base.proofs.Lists.{Contains-one}
use Rattle.et_flow.specs.declared.search.Lead.{Lead}
use Rattle.et_flow.specs.Types.{TypesOf}
use Rattle.et_flow.specs.Flows.{LeadOf, Typing, IsThere, LeadsThere, IsTyping, HasTyping, IsMonotone, IsWithin, IsLeadWithin, IsStraight, HasLed, some_place, types_at, heights, HasLocals}
use Rattle.et_flow.specs.Searching.{States, HaveLocals, IsUnder, AreThere, Joins, found, IsSearching, Searches, AreKept}
use Rattle.et_flow.proofs.Rounds.{found_kept, passed_on, noted_on, on_is, nothing_there, refused_there, typing_there, kept_under, stepped, on_there, work_kept}

-- the search, where the code is followed at a place with these types, or to its end
abbrev pub IsRunning : (ℕ → TypesOf → Option LeadOf) → (ℕ → Bool) → TypesOf → ℕ → States → List ℕ → TypesOf → Option ℕ → Type 0
IsRunning leads straight entry locals states work types None = Searches leads straight entry locals states work
IsRunning leads straight entry locals states work types (Some pc) =
    (passed : Typing) × IsSearching leads straight entry locals states (work ++ pc ∷ []) passed × (found straight passed states pc ≡ Some types) × (length types.locals ≤ locals)

-- how many places are ahead
abbrev pub ahead : ℕ → Option ℕ → ℕ
ahead count None = 0
ahead count (Some pc) = count + 1 - pc

module _ (leads : ℕ → TypesOf → Option LeadOf) (straight : ℕ → Bool) (monotone : IsMonotone leads) (code : IsStraight leads straight) where
  pub begins : (entry : TypesOf) (locals : ℕ) (states : States) (front : List ℕ) (place : ℕ) (ts : TypesOf) → straight place ≡ false → types_at states place ≡ Some ts → Searches leads straight entry locals states (front ++ place ∷ []) → IsRunning leads straight entry locals states front ts (Some place)
  begins entry locals states front place ts kept e h = (h.0, h.1, found_kept straight h.0 states place kept ∙ e, subst (λ (o : Option TypesOf). HasLocals locals o) e (h.1.locals_are place))

  pub no_types : (entry : TypesOf) (locals : ℕ) (states : States) (front : List ℕ) (place : ℕ) → straight place ≡ false → types_at states place ≡ None → Searches leads straight entry locals states (front ++ place ∷ []) → Searches leads straight entry locals states front
  no_types entry locals states front place kept e h = (h.0, nothing_there leads straight entry monotone code locals states front place h.0 h.1 (found_kept straight h.0 states place kept ∙ e))

  pub refuses : (entry : TypesOf) (locals : ℕ) (states : States) (front : List ℕ) (pc : ℕ) (ts : TypesOf) → IsRunning leads straight entry locals states front ts (Some pc) → leads pc ts ≡ None → HasTyping leads entry → ⊥
  refuses entry locals states front pc ts h none has = refused_there leads straight entry monotone code locals states (front ++ pc ∷ []) pc ts h.0 h.1 h.2 none has

  module _ (count : ℕ) (within : IsWithin count leads) (pc : ℕ) (ts after : TypesOf) (x : Lead) (led : HasLed straight x after (leads pc ts)) where
    leads_within : IsLeadWithin count (length ts.locals) (Some led.lead)
    leads_within = subst (λ (o : Option LeadOf). IsLeadWithin count (length ts.locals) o) led.is (within pc ts)

    pub nexts_within : (q : ℕ) → Contains x.nexts.items q → q < count
    nexts_within q c = leads_within.0 q (subst (λ (xs : List ℕ). Contains xs q) (sym led.nexts) (Contains-append_right (some_place x.on) x.nexts.items q c))

    pub handlers_within : (q : ℕ) → Contains x.handlers.items q → q < count
    handlers_within q c = leads_within.2 q (subst (λ (xs : List ℕ). Contains xs q) (sym led.handlers) c)

    on_next : (q : ℕ) → Contains (some_place x.on) q → Contains led.lead.nexts q
    on_next q c = subst (λ (xs : List ℕ). Contains xs q) (sym led.nexts) (Contains-append_left (some_place x.on) x.nexts.items q c)

    on_straight : (q : ℕ) → Contains (some_place x.on) q → straight q ≡ true
    on_straight q c = by x.on led.on c
      where
        by : (on : Option ℕ) → IfSome on (λ k. straight k ≡ true) → Contains (some_place on) q → straight q ≡ true
        by None t m = absurd (omega (arith, m.1))
        by (Some k) t m = subst (λ (n : ℕ). straight n ≡ true) (Contains-one k q m) t

    -- where the code goes straight on is ahead
    pub on_ahead : IfSome x.on (λ q. (pc < q) × (q < count))
    on_ahead = by x.on (λ q c. code.forward pc ts led.lead q led.is (on_next q c) (on_straight q c)) (λ q c. leads_within.0 q (on_next q c))
      where
        by : (on : Option ℕ) → ((q : ℕ) → Contains (some_place on) q → pc < q) → ((q : ℕ) → Contains (some_place on) q → q < count) → IfSome on (λ q. (pc < q) × (q < count))
        by None f g = tt
        by (Some q) f g = (f q (Contains-push [] q), g q (Contains-push [] q))

    pub on_inside : IfSome x.on (λ q. q < count)
    on_inside = by x.on on_ahead
      where
        by : (on : Option ℕ) → IfSome on (λ q. (pc < q) × (q < count)) → IfSome on (λ q. q < count)
        by None h = tt
        by (Some q) h = h.1

    pub falls : pc < count → ahead count x.on < ahead count (Some pc)
    falls lt = by x.on on_ahead
      where
        by : (on : Option ℕ) → IfSome on (λ q. (pc < q) × (q < count)) → ahead count on < ahead count (Some pc)
        by None h = omega (arith, lt)
        by (Some q) h = omega (arith, lt, h.0, h.1)

    module _ (entry : TypesOf) (locals : ℕ) (s0 s1 s2 : States) (front w1 w2 : List ℕ) (h : IsRunning leads straight entry locals s0 front ts (Some pc)) where
      there : (typing : Typing) → IsTyping leads entry typing → LeadsThere typing (Some led.lead)
      there typing is = typing_there leads straight entry monotone code locals s0 (front ++ pc ∷ []) pc ts led.lead h.0 h.1 h.2 led.is typing is

      caught_there : (typing : Typing) → IsTyping leads entry typing → AreThere typing x.handlers.items x.caught
      caught_there typing is q c = subst (λ (t : TypesOf). IsThere typing q t) (led.caught q c) ((there typing is).1 q (subst (λ (xs : List ℕ). Contains xs q) (sym led.handlers) c))

      pub no_handlers : ((typing : Typing) → IsUnder typing s0 → AreThere typing x.handlers.items x.caught → ⊥) → HasTyping leads entry → ⊥
      no_handlers none has =
          none has.typing (kept_under leads straight entry monotone code locals s0 (front ++ pc ∷ []) h.0 h.1 has.typing has.is) (caught_there has.typing has.is)

      module _ (joined : (n : ℕ) → ((q : ℕ) → Contains x.handlers.items q → length x.caught.locals ≤ n) → HaveLocals n s0 → Joins n s0 front x.handlers.items x.caught s1 w1) where
        caught_few : (q : ℕ) → Contains x.handlers.items q → length x.caught.locals ≤ locals
        caught_few q c = omega (arith, leads_within.3, h.3, ap (λ (t : TypesOf). length t.locals) (led.caught q c))

        joined_handlers : Joins locals s0 front x.handlers.items x.caught s1 w1
        joined_handlers = joined locals caught_few h.1.locals_are

        at_handlers : Joins locals s0 front led.lead.handlers led.lead.caught s1 w1
        at_handlers = subst (λ (ps : List ℕ). Joins locals s0 front ps led.lead.caught s1 w1) (sym led.handlers) (record {
          grows = joined_handlers.grows;
          there = λ q c. subst (λ (t : TypesOf). IsThere (types_at s1) q t) (sym (led.caught q c)) (joined_handlers.there q c);
          least = λ typing under there. joined_handlers.least typing under (λ q c. subst (λ (t : TypesOf). IsThere typing q t) (led.caught q c) (there q c));
          among = joined_handlers.among;
        })

        pub no_nexts : ((typing : Typing) → IsUnder typing s1 → AreThere typing x.nexts.items after → ⊥) → HasTyping leads entry → ⊥
        no_nexts none has =
            none has.typing (at_handlers.least has.typing (kept_under leads straight entry monotone code locals s0 (front ++ pc ∷ []) h.0 h.1 has.typing has.is) (there has.typing has.is).1)
            (subst (λ (t : TypesOf). AreThere has.typing x.nexts.items t) led.after_is (λ q c. (there has.typing has.is).0 q (subst (λ (xs : List ℕ). Contains xs q) (sym led.nexts) (Contains-append_right (some_place x.on) x.nexts.items q c))))

        module _ (nexts : (n : ℕ) → ((q : ℕ) → Contains x.nexts.items q → length after.locals ≤ n) → HaveLocals n s1 → Joins n s1 w1 x.nexts.items after s2 w2) (kept : AreKept straight count front) where
          long_after : length after.locals ≡ length ts.locals
          long_after = sym (ap (λ (t : TypesOf). length t.locals) led.after_is) ∙ leads_within.1

          at_nexts : Joins locals s1 w1 x.nexts.items led.lead.after s2 w2
          at_nexts = subst (λ (t : TypesOf). Joins locals s1 w1 x.nexts.items t s2 w2) (sym led.after_is) (nexts locals (λ q c. omega (arith, long_after, h.3)) at_handlers.grows.locals_kept)

          front_kept : (q : ℕ) → Contains front q → straight q ≡ false
          front_kept q c = (kept q c).0

          now : IsSearching leads straight entry locals s2 (noted_on w2 x.on) (passed_on x.on led.lead.after h.0)
          now = stepped leads straight entry monotone code locals s0 s1 s2 front w1 w2 h.0 pc ts led.lead x.on x.nexts.items h.1 h.2 led.is led.nexts on_straight led.others front_kept at_handlers at_nexts

          on_now : (q : ℕ) → Contains (some_place x.on) q → found straight (passed_on x.on led.lead.after h.0) s2 q ≡ Some after
          on_now q c =
              on_there leads straight entry monotone code locals s0 s1 s2 front w1 w2 h.0 pc ts led.lead x.on x.nexts.items h.1 h.2 led.is led.nexts on_straight led.others front_kept at_handlers at_nexts q (on_is x.on q c)
              ∙ ap (λ (t : TypesOf). Some t) led.after_is

          pub runs_on : IsRunning leads straight entry locals s2 w2 after x.on
          runs_on = by x.on (passed_on x.on led.lead.after h.0) now on_now
            where
              by : (on : Option ℕ) (passed : Typing) → IsSearching leads straight entry locals s2 (noted_on w2 on) passed → ((q : ℕ) → Contains (some_place on) q → found straight passed s2 q ≡ Some after) → IsRunning leads straight entry locals s2 w2 after on
              by None passed is at = (passed, is)
              by (Some q) passed is at = (passed, is, at q (Contains-push [] q), omega (arith, long_after, h.3))

          pub falls_on : 2 * heights locals s2 + length w2 ≤ 2 * heights locals s0 + length front
          falls_on = omega (arith, at_handlers.grows.falls, at_nexts.grows.falls)

          pub noted_now : length s1 ≡ count → length s0 ≡ count → AreKept straight count w2
          noted_now long long0 q c = (
            work_kept leads straight entry monotone code locals s0 s1 s2 front w1 w2 h.0 pc ts led.lead x.on x.nexts.items h.1 h.2 led.is led.nexts on_straight led.others front_kept at_handlers at_nexts q c,
            elim (at_nexts.grows.within q c) [
              | inl c1 ↦ elim (at_handlers.grows.within q c1) [ inl c0 ↦ (kept q c0).1 | inr lt ↦ omega (arith, lt, long0) ]
              | inr lt ↦ omega (arith, lt, long)
            ],
          )
