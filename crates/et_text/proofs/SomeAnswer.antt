-- Each text has an answer.
use Rattle.std.proofs.Common.{◌≡◌, ◌≢◌, ℕ, zero, suc, ◌+◌, ◌<◌, ◌≤◌, Bool, true, false, eqb, List, [], ◌∷◌, ◌++◌, length, Option, Some, None, refl, sym, ap, subst, ◌∙◌, append_assoc, arith, inl, inr, length-append}
use Rattle.std.specs.Prelude.{reverse}
use Rattle.std.proofs.lemmas.Bool.Decides.{nat_tests}
use Rattle.std.proofs.lemmas.List.{append-nil, reverse-append, reverse-reverse}
use Rattle.std.proofs.lemmas.Grind.{flat_map-append}
use Rattle.et_base.specs.declared.line.TraceLine.{TraceLine}
use Rattle.et_text.specs.Spelling.{line_body, spelling, text}
use Rattle.et_text.specs.Rules.{has_ended, next_fault, AreFine}
use Rattle.et_text.specs.Text.{IsLineSpelled, IsReadTo, HasAnswer}
use Rattle.et_text.specs.Text.BreaksText.{BreaksForm, BreaksRule, BreaksAfter}
use Rattle.et_text.specs.Text.EndsWrong.{EndsEarly, EndsLate}
use Rattle.et_text.specs.Text.HasAnswer.{IsTrace, IsRefused}
use Rattle.et_text.specs.Reading.{line_at}
use Rattle.et_text.proofs.LineKinds.{line_takes, no_line, to_all}
use Rattle.et_text.proofs.Splitting.{NoLf}

-- where the first line ends
data Cut (bytes : List ℕ) : Type 0 where
  Ends : NoLf bytes → Cut bytes
  Goes : (line behind : List ℕ) → bytes ≡ line ++ 10 ∷ behind → NoLf line → Cut bytes

cut_on : (b : ℕ) (bytes : List ℕ) (is : Bool) → eqb b 10 ≡ is → Cut bytes → Cut (b ∷ bytes)
cut_on b bytes true e c = let is : b ≡ 10 = grind (arith, nat_tests) in Goes [] bytes (ap (λ (x : ℕ). x ∷ bytes) is) tt
cut_on b bytes false e (Ends o) = let ne : b ≢ 10 = grind (arith, nat_tests) in Ends (ne, o)
cut_on b bytes false e (Goes line behind p o) = let ne : b ≢ 10 = grind (arith, nat_tests) in Goes (b ∷ line) behind (ap (λ (t : List ℕ). b ∷ t) p) (ne, o)

cut : (bytes : List ℕ) → Cut bytes
cut [] = Ends tt
cut (b ∷ bytes) = cut_on b bytes (eqb b 10) refl (cut bytes)

pub text_push : (lines : List TraceLine) (line : TraceLine) → text (lines ++ line ∷ []) ≡ text lines ++ (line_body line ++ 10 ∷ [])
text_push lines line = flat_map-append spelling lines (line ∷ []) ∙ ap (λ (t : List ℕ). text lines ++ t) (append-nil (spelling line))

pub reads_on : (bytes : List ℕ) (past : List TraceLine) (line behind : List ℕ) (l : TraceLine) → IsLineSpelled l line → next_fault past l ≡ None → IsReadTo past (line ++ 10 ∷ behind) bytes → IsReadTo (l ∷ past) behind bytes
reads_on bytes past line behind l s e r =
    let turned : reverse (l ∷ past) ≡ reverse past ++ l ∷ [] = reverse-append (l ∷ []) past in
    let so_far : text (reverse (l ∷ past)) ≡ text (reverse past) ++ (line ++ 10 ∷ []) = ap text turned ∙ (text_push (reverse past) l ∙ ap (λ (t : List ℕ). text (reverse past) ++ (t ++ 10 ∷ [])) (sym s.spelled)) in
    record {
      fine = (r.fine, s.range, e);
      parts = r.parts ∙ sym (ap (λ (t : List ℕ). t ++ behind) so_far ∙ (append_assoc (text (reverse past)) (line ++ 10 ∷ []) behind ∙ ap (λ (t : List ℕ). text (reverse past) ++ t) (append_assoc line (10 ∷ []) behind)));
    }

by_rule : (bytes : List ℕ) (past : List TraceLine) (line behind : List ℕ) (l : TraceLine) (f : Option ℕ) → next_fault past l ≡ f → IsLineSpelled l line → NoLf line → IsReadTo past (line ++ 10 ∷ behind) bytes
    → ((a : TraceLine) → IsReadTo (a ∷ past) behind bytes → HasAnswer bytes) → HasAnswer bytes
by_rule bytes past line behind l (Some k) e s o r next =
    IsRefused k (length past + 1) (inl (record { past = past; line = line; behind = behind; read = r; one_line = to_all (λ b. b ≢ 10) line o; breaks = BreaksRule k l s e; at = refl }))
by_rule bytes past line behind l None e s o r next = next l (reads_on bytes past line behind l s e r)

by_form : (bytes : List ℕ) (past : List TraceLine) (line behind : List ℕ) (read : Option TraceLine) → line_at line ≡ read → has_ended past ≡ false → NoLf line → IsReadTo past (line ++ 10 ∷ behind) bytes
    → ((a : TraceLine) → IsReadTo (a ∷ past) behind bytes → HasAnswer bytes) → HasAnswer bytes
by_form bytes past line behind None e h o r next =
    IsRefused 1 (length past + 1) (inl (record { past = past; line = line; behind = behind; read = r; one_line = to_all (λ b. b ≢ 10) line o; breaks = BreaksForm h (λ l s. no_line line l e s); at = refl }))
by_form bytes past line behind (Some l) e h o r next = by_rule bytes past line behind l (next_fault past l) refl (line_takes line l e) o r next

by_end : (bytes : List ℕ) (past : List TraceLine) (line behind : List ℕ) (ended : Bool) → has_ended past ≡ ended → NoLf line → IsReadTo past (line ++ 10 ∷ behind) bytes
    → ((a : TraceLine) → IsReadTo (a ∷ past) behind bytes → HasAnswer bytes) → HasAnswer bytes
by_end bytes past line behind true h o r next =
    IsRefused 6 (length past + 1) (inl (record { past = past; line = line; behind = behind; read = r; one_line = to_all (λ b. b ≢ 10) line o; breaks = BreaksAfter h; at = refl }))
by_end bytes past line behind false h o r next = by_form bytes past line behind (line_at line) refl h o r next

at_end : (bytes : List ℕ) (past : List TraceLine) (rest : List ℕ) (ended : Bool) → has_ended past ≡ ended → NoLf rest → IsReadTo past rest bytes → HasAnswer bytes
at_end bytes past rest false h o r =
    IsRefused 5 (length past + 1) (inr (record { past = past; rest = rest; read = r; one_line = to_all (λ b. b ≢ 10) rest o; ends = EndsEarly h; at = refl }))
at_end bytes past [] true h o r = IsTrace (reverse past) (record {
  good = record { fine = subst (AreFine 1) (sym (reverse-reverse past)) r.fine; ended = ap has_ended (reverse-reverse past) ∙ h };
  whole = r.parts ∙ append-nil (text (reverse past));
})
at_end bytes past (b ∷ rest) true h o r =
    IsRefused 6 (length past + 1) (inr (record { past = past; rest = b ∷ rest; read = r; one_line = to_all (λ b. b ≢ 10) (b ∷ rest) o; ends = EndsLate h (omega arith); at = refl }))

longer : (rest line behind : List ℕ) → rest ≡ line ++ 10 ∷ behind → length behind < length rest
longer rest line behind e = omega (arith, ap length e, length-append line (10 ∷ behind))

answer_by : (n : ℕ) (bytes : List ℕ) (past : List TraceLine) (rest : List ℕ) → length rest ≤ n → IsReadTo past rest bytes → Cut rest → HasAnswer bytes
answer_by n bytes past rest le r (Ends o) = at_end bytes past rest (has_ended past) refl o r
answer_by zero bytes past rest le r (Goes line behind e o) = let lt = longer rest line behind e in absurd (omega (arith, le, lt))
answer_by (suc n) bytes past rest le r (Goes line behind e o) =
    let lt = longer rest line behind e in
    let fits : length behind ≤ n = omega (arith, le, lt) in
    by_end bytes past line behind (has_ended past) refl o (subst (λ (t : List ℕ). IsReadTo past t bytes) e r) (λ l q. answer_by n bytes (l ∷ past) behind fits q (cut behind))

pub answer_of : (bytes : List ℕ) → HasAnswer bytes
answer_of bytes = answer_by (length bytes) bytes [] bytes (omega arith) (record { fine = tt; parts = refl }) (cut bytes)
