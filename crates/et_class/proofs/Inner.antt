-- The attributes of an attribute, as the loop over them comes to them.
use Rattle.std.proofs.Common.{◌≡◌, ℕ, suc, ◌+◌, ◌-◌, ◌<◌, ◌≤◌, List, [], ◌∷◌, ◌++◌, length, drop, Bool, true, false, cond, ltb, Option, Some, None, Result, Ok, Err, refl, sym, ap, ◌∙◌, arith}
use Rattle.std.specs.Prelude.{is_some, option_and_then, ok_or}
use Rattle.std.specs.Int.{w16, from_be_bytes}
use Rattle.et_base.specs.Numbers.{AreBytes}
use Rattle.et_base.specs.Steps.{◌>>=◌}
use Rattle.et_base.specs.Marks.{marked, first_from, mark}
use Rattle.et_pool.specs.Entries.{Item}
use Rattle.et_pool.specs.Looks.{utf8_at}
use Rattle.et_class.specs.declared.fault.TheConstants.{ATTRIBUTE, SHORT}
use Rattle.et_class.specs.Layout.{AttributeOf, attribute_bytes}
use Rattle.et_class.specs.Reading.{many_at, counted_at, attribute_at}
use Rattle.et_class.specs.Along.{along}
use Rattle.et_class.specs.Fields.{attribute_marks}
use Rattle.et_class.specs.Kept.{name_and_next, inner_of, inner_from, inner_at}
use Rattle.et_class.proofs.Spelt.{attribute_reads}

-- the rule on a name doesn't look at the attributes before it
names_alone : (slots : List (Option Item)) (before : List AttributeOf) (place : ℕ) (xs : List AttributeOf) → along attribute_bytes (attribute_marks slots) before place xs ≡ along attribute_bytes (attribute_marks slots) [] place xs
unfolding along
names_alone slots before place [] = refl
names_alone slots before place (x ∷ xs) =
    ap (λ ms. attribute_marks slots [] place x ++ ms) (names_alone slots (before ++ x ∷ []) (place + length (attribute_bytes x)) xs ∙ sym (names_alone slots ([] ++ x ∷ []) (place + length (attribute_bytes x)) xs))

module _ (slots : List (Option Item)) (place : ℕ) (bytes : List ℕ) where
  step : (found : Option (ℕ × ℕ)) (at : ℕ) (a : AttributeOf) (r : Result (List AttributeOf × ℕ) (ℕ × ℕ)) → inner_of slots found at (r >>= λ xs. Ok (a ∷ xs.0, xs.1)) ≡ inner_of slots (marked found (mark at ATTRIBUTE (is_some (utf8_at slots a.name)))) (at + length (attribute_bytes a)) r
  unfolding along first_from
  step found at a (Err f) = refl
  step found at a (Ok x) = ap (λ ms. Some (x.1, first_from (marked found (mark at ATTRIBUTE (is_some (utf8_at slots a.name)))) ms)) (names_alone slots (a ∷ []) (at + length (attribute_bytes a)) x.0)

  -- the attribute that was skipped
  pub record Skipped (at name after : ℕ) : Type 0 where
    pub attribute : AttributeOf
    pub read : attribute_at bytes at ≡ Ok (attribute, after)
    pub name_is : attribute.name ≡ name

  skipped_case : (at name after : ℕ) (r : Result (AttributeOf × ℕ) (ℕ × ℕ)) → attribute_at bytes at ≡ r → Some (name, after) ≡ name_and_next r → Skipped at name after
  skipped_case at name after (Err f) h e = absurd cc
  skipped_case at name after (Ok x) h e =
      let same : (name, after) ≡ (x.0.name, x.1) = some_pair (name, after) (x.0.name, x.1) e in
      record { attribute = x.0; read = h ∙ ap (λ (n : ℕ). Ok (x.0, n)) (sym (ap (λ (p : ℕ × ℕ). p.1) same)); name_is = sym (ap (λ (p : ℕ × ℕ). p.0) same) }
    where
      some_pair : (p q : ℕ × ℕ) → Some p ≡ Some q → p ≡ q
      some_pair p q i = cc

  cut_case : (at : ℕ) (r : Result (AttributeOf × ℕ) (ℕ × ℕ)) → attribute_at bytes at ≡ r → None ≡ name_and_next r → (f : ℕ × ℕ) × (attribute_at bytes at ≡ Err f)
  cut_case at (Err f) h e = (f, h)
  cut_case at (Ok x) h e = absurd cc

  read_on : (count i at after : ℕ) (a : AttributeOf) → i < count → attribute_at bytes at ≡ Ok (a, after) → many_at (attribute_at bytes) (count - i) at ≡ (many_at (attribute_at bytes) (count - (i + 1)) after >>= λ xs. Ok (a ∷ xs.0, xs.1))
  unfolding many_at
  read_on count i at after a lt h =
      let k : count - i ≡ suc (count - (i + 1)) = omega arith in
      rw (k, h) refl

  cut_off : (count i at : ℕ) (f : ℕ × ℕ) → i < count → attribute_at bytes at ≡ Err f → many_at (attribute_at bytes) (count - i) at ≡ Err f
  unfolding many_at
  cut_off count i at f lt h =
      let k : count - i ≡ suc (count - (i + 1)) = omega arith in
      rw (k, h) refl

  goes_on : AreBytes bytes → (found found' : Option (ℕ × ℕ)) (count i at name after : ℕ) → i < count → Skipped at name after
      → found' ≡ marked found (mark (place + at) ATTRIBUTE (is_some (utf8_at slots name))) → inner_from slots found' place bytes (count - (i + 1)) after ≡ inner_from slots found place bytes (count - i) at
  goes_on fits found found' count i at name after lt s h =
      let r = attribute_reads bytes fits at s.attribute after s.read in
      let next : place + at + length (attribute_bytes s.attribute) ≡ place + after = omega (arith, r.next_is) in
      sym (ap (inner_of slots found (place + at)) (read_on count i at after s.attribute lt s.read)
      ∙ (step found (place + at) s.attribute (many_at (attribute_at bytes) (count - (i + 1)) after)
      ∙ (ap (λ n. inner_of slots (marked found (mark (place + at) ATTRIBUTE (is_some (utf8_at slots n)))) (place + at + length (attribute_bytes s.attribute)) (many_at (attribute_at bytes) (count - (i + 1)) after)) s.name_is
      ∙ (ap (λ f. inner_of slots f (place + at + length (attribute_bytes s.attribute)) (many_at (attribute_at bytes) (count - (i + 1)) after)) (sym h)
      ∙ ap (λ p. inner_of slots found' p (many_at (attribute_at bytes) (count - (i + 1)) after)) next))))

  pub inner_more : AreBytes bytes → (found found' : Option (ℕ × ℕ)) (count i at name after : ℕ) → i < count → Some (name, after) ≡ name_and_next (attribute_at bytes at)
      → found' ≡ marked found (mark (place + at) ATTRIBUTE (is_some (utf8_at slots name))) → inner_from slots found' place bytes (count - (i + 1)) after ≡ inner_from slots found place bytes (count - i) at
  inner_more fits found found' count i at name after lt e h = goes_on fits found found' count i at name after lt (skipped_case at name after (attribute_at bytes at) refl e) h

  stops : (found : Option (ℕ × ℕ)) (count i at : ℕ) → i < count → (f : ℕ × ℕ) × (attribute_at bytes at ≡ Err f) → None ≡ inner_from slots found place bytes (count - i) at
  stops found count i at lt f = sym (ap (inner_of slots found (place + at)) (cut_off count i at f.0 lt f.1))

  pub inner_cut : (found : Option (ℕ × ℕ)) (count i at : ℕ) → i < count → None ≡ name_and_next (attribute_at bytes at) → None ≡ inner_from slots found place bytes (count - i) at
  inner_cut found count i at lt e = stops found count i at lt (cut_case at (attribute_at bytes at) refl e)

  pub inner_done : (found : Option (ℕ × ℕ)) (count i at : ℕ) → count ≤ i → Some (at, found) ≡ inner_from slots found place bytes (count - i) at
  unfolding many_at along first_from
  inner_done found count i at le =
      let k : count - i ≡ 0 = omega arith in
      rw k refl

  -- the count stands two bytes before them
  by_count : (found : Option (ℕ × ℕ)) (at n : ℕ) (t : Bool)
      → option_and_then (λ (count : ℕ × ℕ). inner_from slots found place bytes count.0 count.1) (cond t None (Some (n, at + 2))) ≡ inner_of slots found (place + (at + 2)) (ok_or (cond {A = Option (ℕ × ℕ)} t None (Some (n, at + 2))) (at, SHORT) >>= λ count. many_at (attribute_at bytes) count.0 count.1)
  by_count found at n true = refl
  by_count found at n false = refl

  pub inner_counted : (found : Option (ℕ × ℕ)) (at : ℕ) → inner_at slots found place bytes at ≡ inner_of slots found (place + (at + 2)) (counted_at bytes (attribute_at bytes) at)
  inner_counted found at = by_count found at (from_be_bytes w16 (drop at bytes)) (ltb (length bytes) (at + 2))
