-- A number that is read is the one that was written, and what was written is read again.
use Rattle.std.proofs.Common.{◌≡◌, ◌≢◌, ℕ, ◌+◌, ◌-◌, ◌*◌, ◌/◌, ◌%◌, ◌^◌, ◌<◌, ◌≤◌, Bool, true, false, cond, ◌&&◌, eqb, leb, List, [], ◌∷◌, ◌++◌, map, get_or, Option, Some, None, refl, sym, ap, subst, ◌∙◌, append_assoc, arith, inl, inr, ◌⊎◌, eq-zero-or-pos}
use Rattle.std.specs.Fmt.{decimal}
use Rattle.std.specs.Int.Digits.{digits_of, number_from_digits_after, AllBelowBase}
use Rattle.std.proofs.lemmas.Bool.{leb-true, le-leb, and_parts, ne_eqb, eqb-false, eqb-true}
use Rattle.std.proofs.lemmas.Fmt.{decimal_digit, decimal_step, decimal-digits_of}
use Rattle.std.proofs.lemmas.Int.Digits.{number_after_ge, all_below_base_digits_of, first_digits_of, number_digits_of}
use Rattle.std.proofs.lemmas.Option.{same_Some}
use Rattle.et_text.specs.Reading.{◌>>=◌, number_after, digits_at, number_field_at, number_field_in, is_break}
use Rattle.et_base.specs.Digits.{is_digit}

pub bind_some : {A B : Type 0} (r : Option A) (f : A → Option B) (y : B) → (r >>= f) ≡ Some y → (x : A) × (r ≡ Some x) × (f x ≡ Some y)
bind_some (Some x) f y e = (x, refl, e)
bind_some None f y e = absurd cc

pub chosen : {A : Type 0} (b : Bool) (x y z : A) → cond b x y ≡ z → ((b ≡ true) × (x ≡ z)) ⊎ ((b ≡ false) × (y ≡ z))
chosen true x y z e = inl (refl, e)
chosen false x y z e = inr (refl, e)

pub guard_some : {A : Type 0} (b : Bool) (x y : A) → cond b (Some x) None ≡ Some y → (b ≡ true) × (x ≡ y)
guard_some true x y e = (refl, same_Some x y e)
guard_some false x y e = absurd cc

pub digit_range : (b : ℕ) → is_digit b ≡ true → (48 ≤ b) × (b ≤ 57)
digit_range b e =
    let p = and_parts (leb 48 b) (leb b 57) e in
    (leb-true 48 b p.0, leb-true b 57 p.1)

pub digit_is : (b : ℕ) → 48 ≤ b → b ≤ 57 → is_digit b ≡ true
digit_is b lo hi = rw (le-leb 48 b lo, le-leb b 57 hi) refl

pub digit_not : (b : ℕ) → b ≡ 32 → is_digit b ≡ false
digit_not b e = rw e refl

pub grow : (m d : ℕ) → 0 < m → d < 10 → 10 * m + d < 2 ^ 64 → decimal (10 * m + d) ≡ decimal m ++ ((48 + d) ∷ [])
grow m d pos lt small =
    let q : (10 * m + d) / 10 ≡ m = omega arith in
    let r : (10 * m + d) % 10 ≡ d = omega arith in
    rw (decimal_step (10 * m + d) (omega arith) small, q, r) refl

pub after_takes : (bytes : List ℕ) (m n : ℕ) (rest : List ℕ) → 0 < m → m ≤ 10 * 2 ^ 40 + 9 → number_after m bytes ≡ Some (n, rest) → decimal m ++ bytes ≡ decimal n ++ rest
unfolding number_after
after_takes [] m n rest pos small e = subst (λ (p : ℕ × List ℕ). decimal m ++ [] ≡ decimal p.0 ++ p.1) (same_Some (m, []) (n, rest) e) refl
after_takes (b ∷ bs) m n rest pos small e =
    elim (chosen (is_digit b) (cond (leb m (2 ^ 40)) (number_after (10 * m + (b - 48)) bs) None) (Some (m, b ∷ bs)) (Some (n, rest)) e) [
      | inl d ↦ elim (chosen (leb m (2 ^ 40)) (number_after (10 * m + (b - 48)) bs) None (Some (n, rest)) d.1) [
        | inl s ↦
            let r = digit_range b d.0 in
            let le : m ≤ 2 ^ 40 = leb-true m (2 ^ 40) s.0 in
            let lo : 48 ≤ b = r.0 in
            let hi : b ≤ 57 = r.1 in
            let ih = after_takes bs (10 * m + (b - 48)) n rest (omega arith) (omega arith) s.1 in
            let same : 48 + (b - 48) ≡ b = omega arith in
            let g : decimal (10 * m + (b - 48)) ≡ decimal m ++ (b ∷ []) = subst (λ (x : ℕ). decimal (10 * m + (b - 48)) ≡ decimal m ++ (x ∷ [])) same (grow m (b - 48) pos (omega arith) (omega arith)) in
            sym (append_assoc (decimal m) (b ∷ []) bs) ∙ (ap (λ (t : List ℕ). t ++ bs) (sym g) ∙ ih)
        | inr s ↦ absurd (let f = s.1 in cc)
      ]
      | inr d ↦ subst (λ (p : ℕ × List ℕ). decimal m ++ b ∷ bs ≡ decimal p.0 ++ p.1) (same_Some (m, b ∷ bs) (n, rest) d.1) refl
    ]

after_stops : (m : ℕ) (rest : List ℕ) → is_break rest ≡ true → number_after m rest ≡ Some (m, rest)
unfolding number_after
after_stops m [] e = refl
after_stops m (b ∷ rest) e = rw (digit_not b (eqb-true b 32 e)) refl

pub after_again : (ds : List ℕ) (m : ℕ) (rest : List ℕ) → AllBelowBase 10 ds → number_from_digits_after 10 m ds ≤ 2 ^ 40 → is_break rest ≡ true
    → number_after m (map (λ d. 48 + d) ds ++ rest) ≡ Some (number_from_digits_after 10 m ds, rest)
unfolding number_after
after_again [] m rest all small e = after_stops m rest e
after_again (d ∷ ds) m rest all small e =
    let lt : d < 10 = all.0 in
    let grows : m * 10 + d ≤ number_from_digits_after 10 (m * 10 + d) ds = number_after_ge 10 (m * 10 + d) ds (omega arith) in
    let le : leb m (2 ^ 40) ≡ true = le-leb m (2 ^ 40) (omega arith) in
    let is : is_digit (48 + d) ≡ true = digit_is (48 + d) (omega arith) (omega arith) in
    let same : 10 * m + (48 + d - 48) ≡ m * 10 + d = omega arith in
    rw (is, le, same) (after_again ds (m * 10 + d) rest all.1 small e)

pub digits_takes : (bytes : List ℕ) (n : ℕ) (rest : List ℕ) → digits_at bytes ≡ Some (n, rest) → bytes ≡ decimal n ++ rest
unfolding digits_at
digits_takes [] n rest e = absurd cc
digits_takes (b ∷ bs) n rest e =
    elim (chosen (eqb b 48) (Some (0, bs)) (cond (is_digit b) (number_after (b - 48) bs) None) (Some (n, rest)) e) [
      | inl z ↦
          let is : b ≡ 48 = eqb-true b 48 z.0 in
          let zero_text : decimal 0 ≡ 48 ∷ [] = decimal_digit 0 (omega arith) in
          let one : b ∷ bs ≡ decimal 0 ++ bs = rw (zero_text, is) refl in
          subst (λ (p : ℕ × List ℕ). b ∷ bs ≡ decimal p.0 ++ p.1) (same_Some (0, bs) (n, rest) z.1) one
      | inr z ↦ elim (chosen (is_digit b) (number_after (b - 48) bs) None (Some (n, rest)) z.1) [
        | inl d ↦
            let r = digit_range b d.0 in
            let ne : b ≢ 48 = eqb-false b 48 z.0 in
            let lo : 48 ≤ b = r.0 in
            let hi : b ≤ 57 = r.1 in
            let same : 48 + (b - 48) ≡ b = omega arith in
            let one : decimal (b - 48) ≡ b ∷ [] = subst (λ (x : ℕ). decimal (b - 48) ≡ x ∷ []) same (decimal_digit (b - 48) (omega arith)) in
            ap (λ (t : List ℕ). t ++ bs) (sym one) ∙ after_takes bs (b - 48) n rest (omega arith) (omega arith) d.1
        | inr d ↦ absurd (let f = d.1 in cc)
      ]
    ]

digits_from : (ds : List ℕ) (n : ℕ) (rest : List ℕ) → AllBelowBase 10 ds → 0 < get_or ds 0 0 → number_from_digits_after 10 0 ds ≡ n → n ≤ 2 ^ 40 → is_break rest ≡ true
    → digits_at (map (λ d. 48 + d) ds ++ rest) ≡ Some (n, rest)
unfolding digits_at
digits_from [] n rest all first value small e = absurd (omega arith)
digits_from (d ∷ ds) n rest all first value small e =
    let lt : d < 10 = all.0 in
    let no : eqb (48 + d) 48 ≡ false = ne_eqb (48 + d) 48 (omega arith) in
    let is : is_digit (48 + d) ≡ true = digit_is (48 + d) (omega arith) (omega arith) in
    let same : 48 + d - 48 ≡ 0 * 10 + d = omega arith in
    rw (no, is, same) (after_again ds (0 * 10 + d) rest all.1 (omega (arith, value)) e ∙ ap (λ (x : ℕ). Some (x, rest)) value)

pub digits_again : (n : ℕ) (rest : List ℕ) → n ≤ 2 ^ 40 → is_break rest ≡ true → digits_at (decimal n ++ rest) ≡ Some (n, rest)
unfolding digits_at
digits_again n rest small e =
    elim (eq-zero-or-pos n) [
      | inl z ↦ rw (z, decimal_digit 0 (omega arith)) refl
      | inr g ↦
          let d : decimal n ≡ map (λ x. 48 + x) (digits_of 10 n) = decimal-digits_of n g (omega arith) in
          rw d (digits_from (digits_of 10 n) n rest (all_below_base_digits_of 10 n (omega arith)) (first_digits_of 10 n (omega arith) g) (number_digits_of 10 n (omega arith)) small e)
    ]

pub number_takes : (bytes : List ℕ) (n : ℕ) (rest : List ℕ) → number_field_at bytes ≡ Some (n, rest) → bytes ≡ 32 ∷ decimal n ++ rest
unfolding number_field_at
number_takes [] n rest e = absurd cc
number_takes (b ∷ bs) n rest e =
    elim (chosen (eqb b 32) (digits_at bs) None (Some (n, rest)) e) [
      | inl z ↦ let is : b ≡ 32 = eqb-true b 32 z.0 in rw is (ap (λ (t : List ℕ). 32 ∷ t) (digits_takes bs n rest z.1))
      | inr z ↦ absurd (let f = z.1 in cc)
    ]

pub number_again : (n : ℕ) (rest : List ℕ) → n ≤ 2 ^ 40 → is_break rest ≡ true → number_field_at (32 ∷ decimal n ++ rest) ≡ Some (n, rest)
unfolding number_field_at
number_again n rest small e = digits_again n rest small e

pub record IsWithin (low high n : ℕ) : Type 0 where
  pub low_is : low ≤ n
  pub high_is : n ≤ high

pub in_takes : (low high : ℕ) (bytes : List ℕ) (n : ℕ) (rest : List ℕ) → number_field_in low high bytes ≡ Some (n, rest) → (bytes ≡ 32 ∷ decimal n ++ rest) × IsWithin low high n
unfolding number_field_in
in_takes low high bytes n rest e =
    let b = bind_some (number_field_at bytes) (λ x. cond (leb low x.0 && leb x.0 high) (Some x) None) (n, rest) e in
    let x = b.0 in
    let g = guard_some (leb low x.0 && leb x.0 high) x (n, rest) b.2 in
    let p = and_parts (leb low x.0) (leb x.0 high) g.0 in
    let t : (bytes ≡ 32 ∷ decimal x.0 ++ x.1) × IsWithin low high x.0 = (number_takes bytes x.0 x.1 b.1, record { low_is = leb-true low x.0 p.0; high_is = leb-true x.0 high p.1 }) in
    subst (λ (p : ℕ × List ℕ). (bytes ≡ 32 ∷ decimal p.0 ++ p.1) × IsWithin low high p.0) g.1 t

pub in_again : (low high n : ℕ) (rest : List ℕ) → low ≤ n → n ≤ high → high ≤ 2 ^ 40 → is_break rest ≡ true → number_field_in low high (32 ∷ decimal n ++ rest) ≡ Some (n, rest)
unfolding number_field_in
in_again low high n rest lo hi most e = rw (number_again n rest (omega arith) e, le-leb low n lo, le-leb n high hi) refl
