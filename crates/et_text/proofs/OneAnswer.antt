-- A text has one answer: one good list, or one fault.
use Rattle.std.proofs.Common.{◌≡◌, ◌≢◌, ℕ, ◌+◌, List, [], ◌∷◌, ◌++◌, length, Some, None, true, refl, sym, ap, subst, ◌∙◌, arith, inl, inr}
use Rattle.std.specs.Prelude.{reverse}
use Rattle.std.proofs.lemmas.List.{append-nil, reverse-append, reverse-reverse}
use Rattle.et_base.specs.declared.line.TraceLine.{TraceLine}
use Rattle.et_text.specs.Ranges.{IsInRange}
use Rattle.et_text.specs.Spelling.{line_body, text}
use Rattle.et_text.specs.Rules.{has_ended, next_fault, AreFine}
use Rattle.et_text.specs.Text.{IsLineSpelled, IsOneLine, BreaksText, IsReadTo, ShowsFault, EndsWrong, EndsWithFault, IsTextOf, IsTraceFault}
use Rattle.et_text.specs.Text.BreaksText.{BreaksForm, BreaksRule, BreaksAfter}
use Rattle.et_text.specs.Text.EndsWrong.{EndsEarly, EndsLate}
use Rattle.et_text.proofs.LineKinds.{one_line, from_all}
use Rattle.et_text.proofs.Splitting.{NoLf, InRange, first_lf, no_lf-line}
use Rattle.et_text.proofs.OneReading.{IsStuck, one_reading}

in_range_push : (xs : List TraceLine) (a : TraceLine) → InRange xs → IsInRange 1 a → InRange (xs ++ a ∷ [])
in_range_push [] a p r = (r, tt)
in_range_push (x ∷ xs) a p r = (p.0, in_range_push xs a p.1 r)

in_range : (past : List TraceLine) → AreFine 1 past → InRange (reverse past)
in_range [] h = tt
in_range (a ∷ past) h = subst InRange (sym (reverse-append (a ∷ []) past)) (in_range_push (reverse past) a (in_range past h.0) h.1)

pub lf_in : (x y : List ℕ) → NoLf (x ++ 10 ∷ y) → ⊥
lf_in [] y h = h.0 refl
lf_in (b ∷ x) y h = lf_in x y h.1

clash : (past : List TraceLine) (line : List ℕ) (kind : ℕ) (a : TraceLine) → BreaksText past line kind → IsLineSpelled a line → next_fault past a ≡ None → ⊥
clash past line kind a (BreaksForm h f) s e = f a s
clash past line kind a (BreaksRule k l t g) s e =
    let x : next_fault past a ≡ Some k = subst (λ (z : TraceLine). next_fault past z ≡ Some k) (one_line l a line t s) g in absurd (cc)
clash past line kind a (BreaksAfter h) s e =
    let x : next_fault past a ≡ Some 6 = rw h refl in absurd (cc)

pub stuck_shown : (past : List TraceLine) (line behind : List ℕ) (kind : ℕ) → IsOneLine line → BreaksText past line kind → IsStuck (reverse past) (line ++ 10 ∷ behind)
stuck_shown past line behind kind o b = record {
  no_more = λ a more ra na e.
      let cut = first_lf line (line_body a) behind more (from_all (λ x. x ≢ 10) line o) (no_lf-line a ra) e in
      clash past line kind a b (record { range = ra; spelled = cut.front }) (subst (λ (t : List TraceLine). next_fault t a ≡ None) (reverse-reverse past) na);
}

pub stuck_end : (past : List TraceLine) (rest : List ℕ) → IsOneLine rest → IsStuck past rest
stuck_end past rest o = record {
  no_more = λ a more ra na e. lf_in (line_body a) more (subst NoLf e (from_all (λ x. x ≢ 10) rest o));
}

pub back : (p q : List TraceLine) → reverse p ≡ reverse q → p ≡ q
back p q e = sym (reverse-reverse p) ∙ (ap reverse e ∙ reverse-reverse q)

fine_back : (p : List TraceLine) → AreFine 1 p → AreFine 1 (reverse (reverse p))
fine_back p h = subst (AreFine 1) (sym (reverse-reverse p)) h

same_kind : (past : List TraceLine) (line : List ℕ) (k m : ℕ) → BreaksText past line k → BreaksText past line m → k ≡ m
same_kind past line k m (BreaksForm h f) (BreaksForm i g) = refl
same_kind past line k m (BreaksForm h f) (BreaksRule j l t g) = absurd (f l t)
same_kind past line k m (BreaksForm h f) (BreaksAfter i) = absurd (cc)
same_kind past line k m (BreaksRule j l t g) (BreaksForm h f) = absurd (f l t)
same_kind past line k m (BreaksRule i l t g) (BreaksRule j n s f) =
    let x : next_fault past n ≡ Some i = subst (λ (z : TraceLine). next_fault past z ≡ Some i) (one_line l n line t s) g in (cc)
same_kind past line k m (BreaksRule i l t g) (BreaksAfter h) = let x : next_fault past l ≡ Some 6 = rw h refl in (cc)
same_kind past line k m (BreaksAfter i) (BreaksForm h f) = absurd (cc)
same_kind past line k m (BreaksAfter h) (BreaksRule i l t g) = let x : next_fault past l ≡ Some 6 = rw h refl in (cc)
same_kind past line k m (BreaksAfter h) (BreaksAfter i) = refl

-- two whole lines that break a rule are one, of one kind
pub shown_once : (bytes : List ℕ) (k n m o : ℕ) → ShowsFault bytes k n → ShowsFault bytes m o → (k ≡ m) × (n ≡ o)
shown_once bytes k n m o a b =
    let s = one_reading (reverse a.past) (reverse b.past) (a.line ++ 10 ∷ a.behind) (b.line ++ 10 ∷ b.behind) (in_range a.past a.read.fine) (in_range b.past b.read.fine) (fine_back a.past a.read.fine) (fine_back b.past b.read.fine)
    (stuck_shown a.past a.line a.behind k a.one_line a.breaks) (stuck_shown b.past b.line b.behind m b.one_line b.breaks) (sym a.read.parts ∙ b.read.parts) in
    let past_is : a.past ≡ b.past = back a.past b.past s.lines in
    let cut = first_lf a.line b.line a.behind b.behind (from_all (λ x. x ≢ 10) a.line a.one_line) (from_all (λ x. x ≢ 10) b.line b.one_line) s.rests in (
      same_kind b.past b.line k m (subst (λ (t : List ℕ). BreaksText b.past t k) cut.front (subst (λ (t : List TraceLine). BreaksText t a.line k) past_is a.breaks)) b.breaks,
      a.at ∙ (ap (λ (t : List TraceLine). length t + 1) past_is ∙ sym b.at),
    )

-- the text of a good list shows no fault
pub good_shows_none : (lines : List TraceLine) (bytes : List ℕ) (k n : ℕ) → IsTextOf lines bytes → ShowsFault bytes k n → ⊥
good_shows_none lines bytes k n t a =
    let ranges : InRange lines = subst InRange (reverse-reverse lines) (in_range (reverse lines) t.good.fine) in
    let s = one_reading (reverse a.past) lines (a.line ++ 10 ∷ a.behind) [] (in_range a.past a.read.fine) ranges (fine_back a.past a.read.fine) t.good.fine
    (stuck_shown a.past a.line a.behind k a.one_line a.breaks) (stuck_end lines [] (λ i d lt. absurd (omega arith))) (sym a.read.parts ∙ (t.whole ∙ sym (append-nil (text lines)))) in
    lf_in a.line a.behind (subst NoLf (sym s.rests) tt)

-- one list
pub text_of_one : (a b : List TraceLine) (bytes : List ℕ) → IsTextOf a bytes → IsTextOf b bytes → a ≡ b
text_of_one a b bytes t u =
    let ra : InRange a = subst InRange (reverse-reverse a) (in_range (reverse a) t.good.fine) in
    let rb : InRange b = subst InRange (reverse-reverse b) (in_range (reverse b) u.good.fine) in
    let s = one_reading a b [] [] ra rb t.good.fine u.good.fine (stuck_end a [] (λ i d lt. absurd (omega arith))) (stuck_end b [] (λ i d lt. absurd (omega arith))) (append-nil (text a) ∙ (sym t.whole ∙ (u.whole ∙ sym (append-nil (text b))))) in
    s.lines

-- bytes that are read up to a front of a line show no fault
pub shown_not_read : (bytes : List ℕ) (k n : ℕ) (past : List TraceLine) (rest : List ℕ) → IsReadTo past rest bytes → IsOneLine rest → ShowsFault bytes k n → ⊥
shown_not_read bytes k n past rest r o a =
    let s = one_reading (reverse a.past) (reverse past) (a.line ++ 10 ∷ a.behind) rest (in_range a.past a.read.fine) (in_range past r.fine) (fine_back a.past a.read.fine) (fine_back past r.fine)
    (stuck_shown a.past a.line a.behind k a.one_line a.breaks) (stuck_end (reverse past) rest o) (sym a.read.parts ∙ r.parts) in
    lf_in a.line a.behind (subst NoLf (sym s.rests) (from_all (λ x. x ≢ 10) rest o))

shown_not_ended : (bytes : List ℕ) (k n m o : ℕ) → ShowsFault bytes k n → EndsWithFault bytes m o → ⊥
shown_not_ended bytes k n m o a b = shown_not_read bytes k n b.past b.rest b.read b.one_line a

same_end : (past : List TraceLine) (rest : List ℕ) (k m : ℕ) → EndsWrong past rest k → EndsWrong past rest m → k ≡ m
same_end past rest k m (EndsEarly h) (EndsEarly i) = refl
same_end past rest k m (EndsEarly h) (EndsLate i lt) = absurd (cc)
same_end past rest k m (EndsLate i lt) (EndsEarly h) = absurd (cc)
same_end past rest k m (EndsLate i lt) (EndsLate h le) = refl

ended_once : (bytes : List ℕ) (k n m o : ℕ) → EndsWithFault bytes k n → EndsWithFault bytes m o → (k ≡ m) × (n ≡ o)
ended_once bytes k n m o a b =
    let s = one_reading (reverse a.past) (reverse b.past) a.rest b.rest (in_range a.past a.read.fine) (in_range b.past b.read.fine) (fine_back a.past a.read.fine) (fine_back b.past b.read.fine)
    (stuck_end (reverse a.past) a.rest a.one_line) (stuck_end (reverse b.past) b.rest b.one_line) (sym a.read.parts ∙ b.read.parts) in
    let past_is : a.past ≡ b.past = back a.past b.past s.lines in (
      same_end b.past b.rest k m (subst (λ (t : List ℕ). EndsWrong b.past t k) s.rests (subst (λ (t : List TraceLine). EndsWrong t a.rest k) past_is a.ends)) b.ends,
      a.at ∙ (ap (λ (t : List TraceLine). length t + 1) past_is ∙ sym b.at),
    )

wrong_end : (past : List TraceLine) (rest : List ℕ) (k : ℕ) → has_ended past ≡ true → rest ≡ [] → EndsWrong past rest k → ⊥
wrong_end past rest k e z (EndsEarly h) = absurd (cc)
wrong_end past rest k e z (EndsLate h lt) = let none : length rest ≡ 0 = ap length z in absurd (omega arith)

good_ends_right : (lines : List TraceLine) (bytes : List ℕ) (k n : ℕ) → IsTextOf lines bytes → EndsWithFault bytes k n → ⊥
good_ends_right lines bytes k n t a =
    let ranges : InRange lines = subst InRange (reverse-reverse lines) (in_range (reverse lines) t.good.fine) in
    let s = one_reading (reverse a.past) lines a.rest [] (in_range a.past a.read.fine) ranges (fine_back a.past a.read.fine) t.good.fine
    (stuck_end (reverse a.past) a.rest a.one_line) (stuck_end lines [] (λ i d lt. absurd (omega arith))) (sym a.read.parts ∙ (t.whole ∙ sym (append-nil (text lines)))) in
    let past_is : a.past ≡ reverse lines = sym (reverse-reverse a.past) ∙ ap reverse s.lines in
    wrong_end a.past a.rest k (subst (λ (p : List TraceLine). has_ended p ≡ true) (sym past_is) t.good.ended) s.rests a.ends

-- ONE ANSWER
pub one_fault : (bytes : List ℕ) (k n m o : ℕ) → IsTraceFault bytes k n → IsTraceFault bytes m o → (k ≡ m) × (n ≡ o)
one_fault bytes k n m o (inl a) (inl b) = shown_once bytes k n m o a b
one_fault bytes k n m o (inl a) (inr b) = absurd (shown_not_ended bytes k n m o a b)
one_fault bytes k n m o (inr a) (inl b) = absurd (shown_not_ended bytes m o k n b a)
one_fault bytes k n m o (inr a) (inr b) = ended_once bytes k n m o a b

pub no_fault : (lines : List TraceLine) (bytes : List ℕ) (k n : ℕ) → IsTextOf lines bytes → IsTraceFault bytes k n → ⊥
no_fault lines bytes k n t (inl a) = good_shows_none lines bytes k n t a
no_fault lines bytes k n t (inr a) = good_ends_right lines bytes k n t a
