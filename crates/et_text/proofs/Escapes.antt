-- A name that is read is the one that was written, and what was written is read again.
use Rattle.std.proofs.Common.{◌≡◌, ℕ, zero, suc, ◌+◌, ◌-◌, ◌*◌, ◌/◌, ◌%◌, ◌<◌, ◌≤◌, true, false, cond, ◌&&◌, eqb, leb, ltb, List, [], ◌∷◌, ◌++◌, length, Some, None, refl, sym, ap, subst, ◌∙◌, append_assoc, arith, inl, inr, length-append}
use Rattle.std.specs.Fmt.{digit_glyph}
use Rattle.std.specs.List.{AllByRecursion}
use Rattle.std.proofs.lemmas.Bool.{leb-true, le-leb, ltb-false, ltb-true, lt-ltb, le-ltb, and_parts, eqb-true}
use Rattle.std.proofs.lemmas.Bool.Decides.{nat_tests}
use Rattle.std.proofs.lemmas.Option.{same_Some}
use Rattle.et_text.specs.Spelling.{is_escaped, escape, escapes}
use Rattle.et_text.specs.Reading.{◌>>=◌, hex_value, escaped_at, byte_at, is_break, name_bytes_at, unless_empty, text_field_at}
use Rattle.et_base.specs.Digits.{is_digit}
use Rattle.et_text.proofs.Numbers.{bind_some, chosen, guard_some, digit_range, digit_is}

pub record IsHex (b v : ℕ) : Type 0 where
  pub small : v < 16
  pub glyph : digit_glyph true v ≡ b

hex_low : (b v : ℕ) → 48 ≤ b → b ≤ 57 → b - 48 ≡ v → IsHex b v
hex_low b v lo hi e =
    let t : ltb v 10 ≡ true = lt-ltb v 10 (omega arith) in
    let s : 48 + v ≡ b = omega arith in
    record { small = omega arith; glyph = rw t s }

hex_high : (b v : ℕ) → 65 ≤ b → b ≤ 70 → b - 55 ≡ v → IsHex b v
hex_high b v lo hi e =
    let t : ltb v 10 ≡ false = le-ltb v 10 (omega arith) in
    let s : 55 + v ≡ b = omega arith in
    record { small = omega arith; glyph = rw t s }

pub hex_takes : (b v : ℕ) → hex_value b ≡ Some v → IsHex b v
unfolding hex_value
hex_takes b v e =
    elim (chosen (is_digit b) (Some (b - 48)) (cond (leb 65 b && leb b 70) (Some (b - 55)) None) (Some v) e) [
      | inl d ↦ let r = digit_range b d.0 in hex_low b v r.0 r.1 (same_Some (b - 48) v d.1)
      | inr d ↦
          let g = guard_some (leb 65 b && leb b 70) (b - 55) v d.1 in
          let p = and_parts (leb 65 b) (leb b 70) g.0 in
          hex_high b v (leb-true 65 b p.0) (leb-true b 70 p.1) g.1
    ]

glyph_low : (v : ℕ) → v < 10 → hex_value (48 + v) ≡ Some v
unfolding hex_value
glyph_low v lt =
    let d : is_digit (48 + v) ≡ true = digit_is (48 + v) (omega arith) (omega arith) in
    let s : 48 + v - 48 ≡ v = omega arith in
    rw (d, s) refl

glyph_high : (v : ℕ) → 10 ≤ v → v < 16 → hex_value (55 + v) ≡ Some v
unfolding hex_value
glyph_high v lo hi =
    let a : leb (55 + v) 57 ≡ false = grind (arith, nat_tests) in
    let b : leb 48 (55 + v) ≡ true = le-leb 48 (55 + v) (omega arith) in
    let c : leb 65 (55 + v) ≡ true = le-leb 65 (55 + v) (omega arith) in
    let d : leb (55 + v) 70 ≡ true = le-leb (55 + v) 70 (omega arith) in
    let s : 55 + v - 55 ≡ v = omega arith in
    rw (b, a, c, d, s) refl

pub hex_again : (v : ℕ) → v < 16 → hex_value (digit_glyph true v) ≡ Some v
hex_again v lt =
    elim (chosen (ltb v 10) (48 + v) (55 + v) (digit_glyph true v) refl) [
      | inl t ↦ subst (λ (x : ℕ). hex_value x ≡ Some v) t.1 (glyph_low v (ltb-true v 10 t.0))
      | inr t ↦ subst (λ (x : ℕ). hex_value x ≡ Some v) t.1 (glyph_high v (ltb-false v 10 t.0) lt)
    ]

pub record IsByte (bytes : List ℕ) (b : ℕ) (rest : List ℕ) : Type 0 where
  pub parts : bytes ≡ escape b ++ rest
  pub small : b < 256

abbrev as_byte : List ℕ → ℕ × List ℕ → Type 0
as_byte bytes p = IsByte bytes p.0 p.1

escape_yes : (b : ℕ) → is_escaped b ≡ true → escape b ≡ 37 ∷ digit_glyph true (b / 16) ∷ digit_glyph true (b % 16) ∷ []
escape_yes b e = rw e refl

escape_no : (b : ℕ) → is_escaped b ≡ false → escape b ≡ b ∷ []
escape_no b e = rw e refl

escaped_takes : (bytes : List ℕ) (b : ℕ) (rest : List ℕ) → escaped_at bytes ≡ Some (b, rest) → IsByte (37 ∷ bytes) b rest
unfolding escaped_at
escaped_takes [] b rest e = absurd cc
escaped_takes (h ∷ []) b rest e = absurd cc
escaped_takes (h ∷ l ∷ bs) b rest e =
    let p = bind_some (hex_value h) (λ high. hex_value l >>= λ low. cond (is_escaped (16 * high + low)) (Some (16 * high + low, bs)) None) (b, rest) e in
    let q = bind_some (hex_value l) (λ low. cond (is_escaped (16 * p.0 + low)) (Some (16 * p.0 + low, bs)) None) (b, rest) p.2 in
    let high = p.0 in
    let low = q.0 in
    let hh = hex_takes h high p.1 in
    let hl = hex_takes l low q.1 in
    let g = guard_some (is_escaped (16 * high + low)) (16 * high + low, bs) (b, rest) q.2 in
    let small_h : high < 16 = hh.small in
    let small_l : low < 16 = hl.small in
    let over : (16 * high + low) / 16 ≡ high = omega arith in
    let under : (16 * high + low) % 16 ≡ low = omega arith in
    let whole : escape (16 * high + low) ≡ 37 ∷ h ∷ l ∷ [] = escape_yes (16 * high + low) g.0 ∙ rw (over, under, hh.glyph, hl.glyph) refl in
    let one : IsByte (37 ∷ h ∷ l ∷ bs) (16 * high + low) bs = record { parts = ap (λ (t : List ℕ). t ++ bs) (sym whole); small = omega arith } in
    subst (as_byte (37 ∷ h ∷ l ∷ bs)) g.1 one

not_escaped : (b : ℕ) → is_escaped b ≡ false → b < 127
not_escaped b e = grind (arith, nat_tests)

pub byte_takes : (bytes : List ℕ) (b : ℕ) (rest : List ℕ) → byte_at bytes ≡ Some (b, rest) → IsByte bytes b rest
unfolding byte_at
byte_takes [] b rest e = absurd cc
byte_takes (x ∷ bs) b rest e =
    elim (chosen (eqb x 37) (escaped_at bs) (cond (is_escaped x) None (Some (x, bs))) (Some (b, rest)) e) [
      | inl z ↦ let is : x ≡ 37 = eqb-true x 37 z.0 in subst (λ (y : ℕ). IsByte (y ∷ bs) b rest) (sym is) (escaped_takes bs b rest z.1)
      | inr z ↦ elim (chosen (is_escaped x) None (Some (x, bs)) (Some (b, rest)) z.1) [
        | inl n ↦ absurd (let f = n.1 in cc)
        | inr n ↦
            let lt : x < 127 = not_escaped x n.0 in
            let one : IsByte (x ∷ bs) x bs = record { parts = ap (λ (t : List ℕ). t ++ bs) (sym (escape_no x n.0)); small = omega arith } in
            subst (as_byte (x ∷ bs)) (same_Some (x, bs) (b, rest) n.1) one
      ]
    ]

escaped_again : (b : ℕ) (rest : List ℕ) → b < 256 → is_escaped b ≡ true → byte_at (37 ∷ digit_glyph true (b / 16) ∷ digit_glyph true (b % 16) ∷ rest) ≡ Some (b, rest)
unfolding byte_at escaped_at
escaped_again b rest lt e =
    let over : b / 16 < 16 = omega arith in
    let under : b % 16 < 16 = omega arith in
    let same : 16 * (b / 16) + b % 16 ≡ b = omega arith in
    rw (hex_again (b / 16) over, hex_again (b % 16) under, same, e) refl

plain_again : (b : ℕ) (rest : List ℕ) → is_escaped b ≡ false → byte_at (b ∷ rest) ≡ Some (b, rest)
unfolding byte_at
plain_again b rest e =
    let ne : eqb b 37 ≡ false = grind (arith, nat_tests) in
    rw (e, ne) refl

pub byte_again : (b : ℕ) (rest : List ℕ) → b < 256 → byte_at (escape b ++ rest) ≡ Some (b, rest)
byte_again b rest lt =
    elim (chosen (is_escaped b) true false (is_escaped b) (elim (is_escaped b) as (λ v. cond v true false ≡ v) [ true ↦ refl | false ↦ refl ])) [
      | inl t ↦ subst (λ (x : List ℕ). byte_at (x ++ rest) ≡ Some (b, rest)) (sym (escape_yes b t.0)) (escaped_again b rest lt t.0)
      | inr t ↦ subst (λ (x : List ℕ). byte_at (x ++ rest) ≡ Some (b, rest)) (sym (escape_no b t.0)) (plain_again b rest t.0)
    ]

not_break : (b : ℕ) (rest : List ℕ) → is_break (escape b ++ rest) ≡ false
not_break b rest =
    elim (chosen (is_escaped b) true false (is_escaped b) (elim (is_escaped b) as (λ v. cond v true false ≡ v) [ true ↦ refl | false ↦ refl ])) [
      | inl t ↦ subst (λ (x : List ℕ). is_break (x ++ rest) ≡ false) (sym (escape_yes b t.0)) refl
      | inr t ↦ subst (λ (x : List ℕ). is_break (x ++ rest) ≡ false) (sym (escape_no b t.0)) (let e : is_escaped b ≡ false = t.0 in let ne : eqb b 32 ≡ false = grind (arith, nat_tests) in ne)
    ]

abbrev pub AreBytes : List ℕ → Type 0
AreBytes name = AllByRecursion (λ b. b < 256) name

pub record IsNameAt (bytes name rest : List ℕ) : Type 0 where
  pub parts : bytes ≡ escapes name ++ rest
  pub small : AreBytes name

abbrev as_name : List ℕ → List ℕ × List ℕ → Type 0
as_name bytes p = IsNameAt bytes p.0 p.1

nothing : (bytes : List ℕ) → IsNameAt bytes [] bytes
nothing bytes = record { parts = refl; small = tt }

pub bytes_takes : (k : ℕ) (bytes name rest : List ℕ) → name_bytes_at k bytes ≡ Some (name, rest) → IsNameAt bytes name rest
unfolding name_bytes_at
bytes_takes zero bytes name rest e = subst (as_name bytes) (same_Some ([], bytes) (name, rest) e) (nothing bytes)
bytes_takes (suc k) bytes name rest e =
    elim (chosen (is_break bytes) (Some ([], bytes)) (byte_at bytes >>= λ x. name_bytes_at k x.1 >>= λ y. Some (x.0 ∷ y.0, y.1)) (Some (name, rest)) e) [
      | inl z ↦ subst (as_name bytes) (same_Some ([], bytes) (name, rest) z.1) (nothing bytes)
      | inr z ↦
          let p = bind_some (byte_at bytes) (λ x. name_bytes_at k x.1 >>= λ y. Some (x.0 ∷ y.0, y.1)) (name, rest) z.1 in
          let q = bind_some (name_bytes_at k p.0.1) (λ y. Some (p.0.0 ∷ y.0, y.1)) (name, rest) p.2 in
          let b = byte_takes bytes p.0.0 p.0.1 p.1 in
          let ih = bytes_takes k p.0.1 q.0.0 q.0.1 q.1 in
          let one : IsNameAt bytes (p.0.0 ∷ q.0.0) q.0.1 = record {
            parts = b.parts ∙ ap (λ (t : List ℕ). escape p.0.0 ++ t) ih.parts ∙ sym (append_assoc (escape p.0.0) (escapes q.0.0) q.0.1);
            small = (b.small, ih.small);
          } in
          subst (as_name bytes) (same_Some (p.0.0 ∷ q.0.0, q.0.1) (name, rest) q.2) one
    ]

stop_again : (k : ℕ) (rest : List ℕ) → is_break rest ≡ true → name_bytes_at k rest ≡ Some ([], rest)
unfolding name_bytes_at
stop_again zero rest e = refl
stop_again (suc k) rest e = rw e refl

length-escape : (b : ℕ) → 0 < length (escape b)
length-escape b =
    elim (chosen (is_escaped b) true false (is_escaped b) (elim (is_escaped b) as (λ v. cond v true false ≡ v) [ true ↦ refl | false ↦ refl ])) [
      | inl t ↦ subst (λ (x : List ℕ). 0 < length x) (sym (escape_yes b t.0)) (omega arith)
      | inr t ↦ subst (λ (x : List ℕ). 0 < length x) (sym (escape_no b t.0)) (omega arith)
    ]

pub bytes_again : (name : List ℕ) (k : ℕ) (rest : List ℕ) → AreBytes name → length (escapes name ++ rest) ≤ k → is_break rest ≡ true → name_bytes_at k (escapes name ++ rest) ≡ Some (name, rest)
unfolding name_bytes_at
bytes_again [] k rest all le e = stop_again k rest e
bytes_again (b ∷ name) zero rest all le e =
    let pos = length-escape b in
    absurd (omega (arith, length-append (escape b ++ escapes name) rest, length-append (escape b) (escapes name), le, pos))
bytes_again (b ∷ name) (suc k) rest all le e =
    let pos = length-escape b in
    let shape : (escape b ++ escapes name) ++ rest ≡ escape b ++ (escapes name ++ rest) = append_assoc (escape b) (escapes name) rest in
    let small : length (escapes name ++ rest) ≤ k = omega (arith, le, pos, ap length shape, length-append (escape b) (escapes name ++ rest)) in
    rw (shape, not_break b (escapes name ++ rest), byte_again b (escapes name ++ rest) all.0, bytes_again name k rest all.1 small e) refl

pub record IsTextAt (bytes name rest : List ℕ) : Type 0 where
  pub parts : bytes ≡ 32 ∷ escapes name ++ rest
  pub small : AreBytes name
  pub some : 0 < length name

abbrev as_text : List ℕ → List ℕ × List ℕ → Type 0
as_text bytes p = IsTextAt bytes p.0 p.1

some_takes : (bytes : List ℕ) (p : List ℕ × List ℕ) (name rest : List ℕ) → IsNameAt bytes p.0 p.1 → unless_empty p ≡ Some (name, rest) → IsTextAt (32 ∷ bytes) name rest
some_takes bytes ([], after) name rest h e = absurd cc
some_takes bytes (b ∷ bs, after) name rest h e =
    subst (as_text (32 ∷ bytes)) (same_Some (b ∷ bs, after) (name, rest) e) (record { parts = ap (λ (t : List ℕ). 32 ∷ t) h.parts; small = h.small; some = omega arith })

pub text_takes : (bytes name rest : List ℕ) → text_field_at bytes ≡ Some (name, rest) → IsTextAt bytes name rest
unfolding text_field_at
text_takes [] name rest e = absurd cc
text_takes (b ∷ bs) name rest e =
    elim (chosen (eqb b 32) (name_bytes_at (length bs) bs >>= unless_empty) None (Some (name, rest)) e) [
      | inl z ↦
          let is : b ≡ 32 = eqb-true b 32 z.0 in
          let p = bind_some (name_bytes_at (length bs) bs) unless_empty (name, rest) z.1 in
          subst (λ (x : ℕ). IsTextAt (x ∷ bs) name rest) (sym is) (some_takes bs p.0 name rest (bytes_takes (length bs) bs p.0.0 p.0.1 p.1) p.2)
      | inr z ↦ absurd (let f = z.1 in cc)
    ]

some_again : (name rest : List ℕ) → 0 < length name → unless_empty (name, rest) ≡ Some (name, rest)
some_again [] rest lt = absurd (omega arith)
some_again (b ∷ name) rest lt = refl

pub text_again : (name rest : List ℕ) → AreBytes name → 0 < length name → is_break rest ≡ true → text_field_at (32 ∷ escapes name ++ rest) ≡ Some (name, rest)
unfolding text_field_at
text_again name rest all lt e = rw (bytes_again name (length (escapes name ++ rest)) rest all (omega arith) e) (some_again name rest lt)
