-- What a flush lists, and which flags it sets.
use Rattle.std.proofs.Common.{◌≡◌, ℕ, zero, suc, ◌+◌, ◌<◌, ◌≤◌, ◌&&◌, ◌⊎◌, Bool, true, false, not, nat_lt, cond, List, [], ◌∷◌, ◌++◌, length, get_or, drop, map, Contains, refl, sym, ap, ◌∙◌, subst, inl, inr, arith}
use Rattle.std.specs.List.Sorted.{IsStrictlyIncreasing}
use Rattle.et_base.proofs.Lists.{Contains-none, Contains-here, Contains-there, Contains-cons}
use Rattle.std.proofs.lemmas.Bool.{and_parts, ltb-true, not-true, cond-true, cond-false, and_from, and_left, and_right, lt-ltb, le-ltb, not_from_false, not_from_true}
use Rattle.std.proofs.lemmas.List.{drop_more, map-append}
use Rattle.et_graph.specs.declared.objects.Death.{Death}
use Rattle.et_graph.specs.Listing.{listed, flagged, death_pairs}

module _ (k top : ℕ) (times : List ℕ) (gone : List Bool) (i : ℕ) (within : i < length times) (same : length gone ≡ length times) where
  -- what is listed from the object at i on
  listed_next : listed k top (drop i times) (drop i gone) ≡ cond (nat_lt (get_or times i 0) top && not (get_or gone i false)) ((k, get_or times i 0) ∷ listed (k + 1) top (drop (i + 1) times) (drop (i + 1) gone)) (listed (k + 1) top (drop (i + 1) times) (drop (i + 1) gone))
  listed_next =
      let within_gone : i < length gone = omega arith in
      rw (drop_more times i 0 within, drop_more gone i false within_gone) refl

  pub listed_hit : get_or times i 0 < top → get_or gone i false ≡ false → listed k top (drop i times) (drop i gone) ≡ (k, get_or times i 0) ∷ listed (k + 1) top (drop (i + 1) times) (drop (i + 1) gone)
  listed_hit lt held =
      listed_next ∙ cond-true (nat_lt (get_or times i 0) top && not (get_or gone i false)) _ _
      (and_from (nat_lt (get_or times i 0) top) (not (get_or gone i false)) (lt-ltb (get_or times i 0) top lt) (not_from_false (get_or gone i false) held))

  pub listed_reached : top ≤ get_or times i 0 → listed k top (drop i times) (drop i gone) ≡ listed (k + 1) top (drop (i + 1) times) (drop (i + 1) gone)
  listed_reached le =
      listed_next ∙ cond-false (nat_lt (get_or times i 0) top && not (get_or gone i false)) _ _
      (and_left (nat_lt (get_or times i 0) top) (not (get_or gone i false)) (le-ltb (get_or times i 0) top le))

  pub listed_gone : get_or gone i false ≡ true → listed k top (drop i times) (drop i gone) ≡ listed (k + 1) top (drop (i + 1) times) (drop (i + 1) gone)
  listed_gone flag =
      listed_next ∙ cond-false (nat_lt (get_or times i 0) top && not (get_or gone i false)) _ _
      (and_right (nat_lt (get_or times i 0) top) (not (get_or gone i false)) (not_from_true (get_or gone i false) flag))

-- one more death at the end
pub deaths_more : (deaths : List Death) (d : Death) → death_pairs (deaths ++ d ∷ []) ≡ death_pairs deaths ++ (d.object, d.time) ∷ []
deaths_more deaths d = map-append (λ (e : Death). (e.object, e.time)) deaths (d ∷ [])

-- The objects from k on: o is the one at this place.
pub record IsFlagged (k : ℕ) (flags : List Bool) (o : ℕ) : Type 0 where
  pub place : ℕ
  pub object : o ≡ k + place
  pub within : place < length flags
  pub flag : get_or flags place false ≡ true

flagged_at : (b : Bool) (k o : ℕ) (xs : List ℕ) → Contains (cond b (k ∷ xs) xs) o → ((b ≡ true) × (k ≡ o)) ⊎ Contains xs o
flagged_at true k o xs c = elim (Contains-cons k xs o c) [ inl e ↦ inl (refl, e) | inr d ↦ inr d ]
flagged_at false k o xs c = inr c

at_flagged : (b : Bool) (k o : ℕ) (xs : List ℕ) → ((b ≡ true) × (k ≡ o)) ⊎ Contains xs o → Contains (cond b (k ∷ xs) xs) o
at_flagged true k o xs (inl h) = subst (λ (z : ℕ). Contains (k ∷ xs) z) h.1 (Contains-here k xs)
at_flagged true k o xs (inr c) = Contains-there k xs o c
at_flagged false k o xs (inl h) = absurd (let e : false ≡ true = h.0 in cc)
at_flagged false k o xs (inr c) = c

pub flagged_is : (k : ℕ) (flags : List Bool) (o : ℕ) → Contains (flagged k flags) o → IsFlagged k flags o
flagged_is k [] o c = absurd (Contains-none o c)
flagged_is k (b ∷ flags) o c =
    elim (flagged_at b k o (flagged (k + 1) flags) c) [
      | inl h ↦ record { place = 0; object = omega (arith, h.1); within = omega arith; flag = h.0 }
      | inr d ↦
          let r = flagged_is (k + 1) flags o d in
          record { place = suc r.place; object = omega (arith, r.object); within = omega (arith, r.within); flag = r.flag }
    ]

pub is_flagged : (k : ℕ) (flags : List Bool) (o place : ℕ) → o ≡ k + place → place < length flags → get_or flags place false ≡ true → Contains (flagged k flags) o
is_flagged k [] o place e lt f = absurd (omega arith)
is_flagged k (b ∷ flags) o zero e lt f = at_flagged b k o (flagged (k + 1) flags) (inl (f, omega arith))
is_flagged k (b ∷ flags) o (suc place) e lt f = at_flagged b k o (flagged (k + 1) flags) (inr (is_flagged (k + 1) flags o place (omega arith) (omega arith) f))

pub record IsListed (k top : ℕ) (times : List ℕ) (gone : List Bool) (o e : ℕ) : Type 0 where
  pub place : ℕ
  pub object : o ≡ k + place
  pub within : place < length times
  pub below : get_or times place 0 < top
  pub held : get_or gone place false ≡ false
  pub time : e ≡ get_or times place 0

listed_at : (b : Bool) (p q : ℕ × ℕ) (ps : List (ℕ × ℕ)) → Contains (cond b (p ∷ ps) ps) q → ((b ≡ true) × (p ≡ q)) ⊎ Contains ps q
listed_at true p q ps c = elim (Contains-cons p ps q c) [ inl e ↦ inl (refl, e) | inr d ↦ inr d ]
listed_at false p q ps c = inr c

at_listed : (b : Bool) (p q : ℕ × ℕ) (ps : List (ℕ × ℕ)) → ((b ≡ true) × (p ≡ q)) ⊎ Contains ps q → Contains (cond b (p ∷ ps) ps) q
at_listed true p q ps (inl h) = subst (λ (z : ℕ × ℕ). Contains (p ∷ ps) z) h.1 (Contains-here p ps)
at_listed true p q ps (inr c) = Contains-there p ps q c
at_listed false p q ps (inl h) = absurd (let e : false ≡ true = h.0 in cc)
at_listed false p q ps (inr c) = c

pub listed_is : (k top : ℕ) (times : List ℕ) (gone : List Bool) (o e : ℕ) → Contains (listed k top times gone) (o, e) → IsListed k top times gone o e
listed_is k top [] gone o e c = absurd (Contains-none (o, e) c)
listed_is k top (t ∷ times) [] o e c = absurd (Contains-none (o, e) c)
listed_is k top (t ∷ times) (b ∷ gone) o e c =
    elim (listed_at (nat_lt t top && not b) (k, t) (o, e) (listed (k + 1) top times gone) c) [
      | inl h ↦
          let both = and_parts (nat_lt t top) (not b) h.0 in
          record {
            place = 0;
            object = let first : k ≡ o = ap (λ (p : ℕ × ℕ). p.0) h.1 in omega arith;
            within = omega arith;
            below = ltb-true t top both.0;
            held = not-true b both.1;
            time = sym (ap (λ (p : ℕ × ℕ). p.1) h.1);
          }
      | inr d ↦
          let r = listed_is (k + 1) top times gone o e d in
          record { place = suc r.place; object = omega (arith, r.object); within = omega (arith, r.within); below = r.below; held = r.held; time = r.time }
    ]

pub is_listed : (k top : ℕ) (times : List ℕ) (gone : List Bool) (o place : ℕ) → o ≡ k + place → place < length times → length gone ≡ length times → get_or times place 0 < top → get_or gone place false ≡ false → Contains (listed k top times gone) (o, get_or times place 0)
is_listed k top [] gone o place e lt same below held = absurd (omega arith)
is_listed k top (t ∷ times) [] o place e lt same below held = absurd (omega arith)
is_listed k top (t ∷ times) (b ∷ gone) o zero e lt same below held =
    let object : k ≡ o = omega arith in
    at_listed (nat_lt t top && not b) (k, t) (o, t) (listed (k + 1) top times gone)
    (inl (and_from (nat_lt t top) (not b) (lt-ltb t top below) (not_from_false b held), ap (λ (n : ℕ). (n, t)) object))
is_listed k top (t ∷ times) (b ∷ gone) o (suc place) e lt same below held =
    at_listed (nat_lt t top && not b) (k, t) (o, get_or times place 0) (listed (k + 1) top times gone)
    (inr (is_listed (k + 1) top times gone o place (omega arith) (omega arith) (omega arith) below held))

objects_from_at : (b : Bool) (k t : ℕ) (ps : List (ℕ × ℕ)) → ((j : ℕ) → j < length (map (λ (d : ℕ × ℕ). d.0) ps) → k + 1 ≤ get_or (map (λ (d : ℕ × ℕ). d.0) ps) j 0) → (j : ℕ) → j < length (map (λ (d : ℕ × ℕ). d.0) (cond b ((k, t) ∷ ps) ps)) → k ≤ get_or (map (λ (d : ℕ × ℕ). d.0) (cond b ((k, t) ∷ ps) ps)) j 0
objects_from_at true k t ps h zero lt = omega arith
objects_from_at true k t ps h (suc j) lt = omega (arith, h j (omega arith))
objects_from_at false k t ps h j lt = omega (arith, h j lt)

-- the objects listed from k on are k or more
objects_from : (k top : ℕ) (times : List ℕ) (gone : List Bool) (j : ℕ) → j < length (map (λ (d : ℕ × ℕ). d.0) (listed k top times gone)) → k ≤ get_or (map (λ (d : ℕ × ℕ). d.0) (listed k top times gone)) j 0
objects_from k top [] gone j lt = absurd (omega arith)
objects_from k top (t ∷ times) [] j lt = absurd (omega arith)
objects_from k top (t ∷ times) (b ∷ gone) j lt = objects_from_at (nat_lt t top && not b) k t (listed (k + 1) top times gone) (objects_from (k + 1) top times gone) j lt

rising_at : (b : Bool) (k t : ℕ) (ps : List (ℕ × ℕ)) → ((j : ℕ) → j < length (map (λ (d : ℕ × ℕ). d.0) ps) → k + 1 ≤ get_or (map (λ (d : ℕ × ℕ). d.0) ps) j 0) → IsStrictlyIncreasing (map (λ (d : ℕ × ℕ). d.0) ps) → IsStrictlyIncreasing (map (λ (d : ℕ × ℕ). d.0) (cond b ((k, t) ∷ ps) ps))
rising_at true k t ps h r zero lt = omega (arith, h 0 (omega arith))
rising_at true k t ps h r (suc j) lt = let e : suc j + 1 ≡ suc (j + 1) = omega arith in rw e (r j (omega arith))
rising_at false k t ps h r j lt = r j lt

pub listed_rising : (k top : ℕ) (times : List ℕ) (gone : List Bool) → IsStrictlyIncreasing (map (λ (d : ℕ × ℕ). d.0) (listed k top times gone))
listed_rising k top [] gone j lt = absurd (omega arith)
listed_rising k top (t ∷ times) [] j lt = absurd (omega arith)
listed_rising k top (t ∷ times) (b ∷ gone) j lt =
    rising_at (nat_lt t top && not b) k t (listed (k + 1) top times gone) (objects_from (k + 1) top times gone) (listed_rising (k + 1) top times gone) j lt
