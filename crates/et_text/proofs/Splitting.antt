-- A text is cut into lines in one way.
use Rattle.std.proofs.Common.{◌≡◌, ◌≢◌, ℕ, ◌+◌, ◌/◌, ◌%◌, ◌^◌, ◌<◌, true, false, ltb, List, [], ◌∷◌, ◌++◌, refl, sym, ap, subst, ◌∙◌, append_assoc, arith, inl, inr}
use Rattle.std.specs.Fmt.{decimal, digit_glyph}
use Rattle.std.specs.List.{AllByRecursion}
use Rattle.std.proofs.lemmas.Bool.Decides.{nat_tests}
use Rattle.std.proofs.lemmas.Fmt.{decimal_by_steps}
use Rattle.et_base.specs.declared.line.TraceLine.{TraceLine}
use Rattle.et_base.specs.declared.line.TraceLine.TheVariants.{Header, Class, Method, Alloc, Update, Enter, Exit, Unwind, Flush, Death, Finish}
use Rattle.et_text.specs.Ranges.{IsInRange}
use Rattle.et_text.specs.Spelling.{is_escaped, escape, escapes, line_body, text}
use Rattle.et_text.proofs.Numbers.{chosen}
use Rattle.et_text.proofs.LineKinds.{one_line}

abbrev pub NoLf : List ℕ → Type 0
NoLf bytes = AllByRecursion (λ b. b ≢ 10) bytes

pub no_lf-append : (a b : List ℕ) → NoLf a → NoLf b → NoLf (a ++ b)
no_lf-append [] b p q = q
no_lf-append (x ∷ a) b p q = (p.0, no_lf-append a b p.1 q)

no_lf-decimal : (n : ℕ) → n < 2 ^ 64 → NoLf (decimal n)
no_lf-decimal n lt =
    decimal_by_steps (λ m ds. NoLf ds) (λ m small. (omega arith, tt)) (λ m ds large h. no_lf-append ds ((48 + m % 10) ∷ []) h (omega arith, tt)) n lt

glyph_over : (d : ℕ) → digit_glyph true d ≢ 10
glyph_over d = elim (chosen (ltb d 10) (48 + d) (55 + d) (digit_glyph true d) refl) [ inl t ↦ subst (λ (x : ℕ). x ≢ 10) t.1 (omega arith) | inr t ↦ subst (λ (x : ℕ). x ≢ 10) t.1 (omega arith) ]

plain_over : (b : ℕ) → is_escaped b ≡ false → b ≢ 10
plain_over b e = grind (arith, nat_tests)

no_lf-escape : (b : ℕ) → NoLf (escape b)
no_lf-escape b =
    elim (chosen (is_escaped b) (37 ∷ digit_glyph true (b / 16) ∷ digit_glyph true (b % 16) ∷ []) (b ∷ []) (escape b) refl) [
      | inl t ↦ subst NoLf t.1 (omega arith, (glyph_over (b / 16), (glyph_over (b % 16), tt)))
      | inr t ↦ subst NoLf t.1 (plain_over b t.0, tt)
    ]

no_lf-escapes : (name : List ℕ) → NoLf (escapes name)
no_lf-escapes [] = tt
no_lf-escapes (b ∷ name) = no_lf-append (escape b) (escapes name) (no_lf-escape b) (no_lf-escapes name)

number_first : (n : ℕ) (more : List ℕ) → n < 2 ^ 64 → NoLf more → NoLf (32 ∷ decimal n ++ more)
number_first n more lt h = (omega arith, no_lf-append (decimal n) more (no_lf-decimal n lt) h)

text_first : (name more : List ℕ) → NoLf more → NoLf (32 ∷ escapes name ++ more)
text_first name more h = (omega arith, no_lf-append (escapes name) more (no_lf-escapes name) h)

pub no_lf-line : (line : TraceLine) → IsInRange 1 line → NoLf (line_body line)
no_lf-line (Header v every) r = (omega arith, number_first v _ (omega arith) (number_first every _ (omega arith) (tt)))
no_lf-line (Class number name) r = (omega arith, number_first number _ (omega arith) (text_first name _ (tt)))
no_lf-line (Method number class name descriptor) r = (omega arith, number_first number _ (omega arith) (number_first class _ (omega arith) (text_first name _ (text_first descriptor _ (tt)))))
no_lf-line (Alloc event thread object class size len) r = (omega arith, number_first event _ (omega arith) (number_first thread _ (omega arith) (number_first object _ (omega arith) (number_first class _ (omega arith) (number_first size _ (omega arith) (number_first len _ (omega arith) (tt)))))))
no_lf-line (Update event thread object slot old new) r = (omega arith, number_first event _ (omega arith) (number_first thread _ (omega arith) (number_first object _ (omega arith) (number_first slot _ (omega arith) (number_first old _ (omega arith) (number_first new _ (omega arith) (tt)))))))
no_lf-line (Enter event thread method receiver) r = (omega arith, number_first event _ (omega arith) (number_first thread _ (omega arith) (number_first method _ (omega arith) (number_first receiver _ (omega arith) (tt)))))
no_lf-line (Exit event thread method) r = (omega arith, number_first event _ (omega arith) (number_first thread _ (omega arith) (number_first method _ (omega arith) (tt))))
no_lf-line (Unwind event thread method exception) r = (omega arith, number_first event _ (omega arith) (number_first thread _ (omega arith) (number_first method _ (omega arith) (number_first exception _ (omega arith) (tt)))))
no_lf-line (Flush event deaths) r = (omega arith, number_first event _ (omega arith) (number_first deaths _ (omega arith) (tt)))
no_lf-line (Death object time) r = (omega arith, number_first object _ (omega arith) (number_first time _ (omega arith) (tt)))
no_lf-line (Finish event how) r = (omega arith, number_first event _ (omega arith) (number_first how _ (omega arith) (tt)))

pub record SameCut (a x b y : List ℕ) : Type 0 where
  pub front : a ≡ b
  pub back : x ≡ y

pub first_lf : (a b x y : List ℕ) → NoLf a → NoLf b → a ++ 10 ∷ x ≡ b ++ 10 ∷ y → SameCut a x b y
first_lf [] [] x y p q e = record { front = refl; back = cc }
first_lf [] (c ∷ b) x y p q e = let n = q.0 in absurd (n (cc))
first_lf (c ∷ a) [] x y p q e = let n = p.0 in absurd (n (cc))
first_lf (c ∷ a) (d ∷ b) x y p q e =
    let same : c ≡ d = cc in
    let rest : a ++ 10 ∷ x ≡ b ++ 10 ∷ y = cc in
    let ih = first_lf a b x y p.1 q.1 rest in
    record { front = ap (λ (h : ℕ). h ∷ a) same ∙ ap (λ (t : List ℕ). d ∷ t) ih.front; back = ih.back }

abbrev pub InRange : List TraceLine → Type 0
InRange lines = AllByRecursion (IsInRange 1) lines

-- one of two readings goes on from the other
pub data GoesOn (p q : List TraceLine) (r s : List ℕ) : Type 0 where
  Longer : (more : List TraceLine) → q ≡ p ++ more → r ≡ text more ++ s → GoesOn p q r s
  Shorter : (more : List TraceLine) → p ≡ q ++ more → s ≡ text more ++ r → GoesOn p q r s

one_more : (a : TraceLine) (p q : List TraceLine) (r s : List ℕ) → GoesOn p q r s → GoesOn (a ∷ p) (a ∷ q) r s
one_more a p q r s (Longer more e f) = Longer more (ap (λ (t : List TraceLine). a ∷ t) e) f
one_more a p q r s (Shorter more e f) = Shorter more (ap (λ (t : List TraceLine). a ∷ t) e) f

pub cut_front : (a : TraceLine) (p : List TraceLine) (r : List ℕ) → text (a ∷ p) ++ r ≡ line_body a ++ 10 ∷ (text p ++ r)
cut_front a p r = append_assoc (line_body a ++ 10 ∷ []) (text p) r ∙ append_assoc (line_body a) (10 ∷ []) (text p ++ r)

pub goes_on : (p q : List TraceLine) (r s : List ℕ) → InRange p → InRange q → text p ++ r ≡ text q ++ s → GoesOn p q r s
goes_on [] q r s fp fq e = Longer q refl e
goes_on (a ∷ p) [] r s fp fq e = Shorter (a ∷ p) refl (sym e)
goes_on (a ∷ p) (b ∷ q) r s fp fq e =
    let cut = first_lf (line_body a) (line_body b) (text p ++ r) (text q ++ s) (no_lf-line a fp.0) (no_lf-line b fq.0) (sym (cut_front a p r) ∙ (e ∙ cut_front b q s)) in
    let same : a ≡ b = one_line a b (line_body a) (record { range = fp.0; spelled = refl }) (record { range = fq.0; spelled = cut.front }) in
    subst (λ (x : TraceLine). GoesOn (a ∷ p) (x ∷ q) r s) same (one_more a p q r s (goes_on p q r s fp.1 fq.1 cut.back))
