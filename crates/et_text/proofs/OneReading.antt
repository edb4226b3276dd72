-- A text is read to one place only.
use Rattle.std.proofs.Common.{◌≡◌, ℕ, List, [], ◌∷◌, ◌++◌, None, sym, ap, subst, ◌∙◌, append_assoc}
use Rattle.std.specs.Prelude.{reverse}
use Rattle.std.proofs.lemmas.List.{append-nil, reverse-append}
use Rattle.et_base.specs.declared.line.TraceLine.{TraceLine}
use Rattle.et_text.specs.Ranges.{IsInRange}
use Rattle.et_text.specs.Spelling.{line_body, text}
use Rattle.et_text.specs.Rules.{next_fault, AreFine}
use Rattle.et_text.proofs.Splitting.{InRange, GoesOn, goes_on, cut_front}
use Rattle.et_text.proofs.Splitting.GoesOn.{Longer, Shorter}

-- no further line of the rest breaks no rule
pub record IsStuck (p : List TraceLine) (r : List ℕ) : Type 0 where
  pub no_more : (a : TraceLine) (more : List ℕ) → IsInRange 1 a → next_fault (reverse p) a ≡ None → r ≡ line_body a ++ 10 ∷ more → ⊥

fine_suffix : (xs ys : List TraceLine) → AreFine 1 (xs ++ ys) → AreFine 1 ys
fine_suffix [] ys h = h
fine_suffix (x ∷ xs) ys h = fine_suffix xs ys h.0

turned : (p m : List TraceLine) (a : TraceLine) → reverse (p ++ a ∷ m) ≡ reverse m ++ a ∷ reverse p
turned p m a = reverse-append p (a ∷ m) ∙ (ap (λ (t : List TraceLine). t ++ reverse p) (reverse-append (a ∷ []) m) ∙ append_assoc (reverse m) (a ∷ []) (reverse p))

fine_next : (p m : List TraceLine) (a : TraceLine) → AreFine 1 (reverse (p ++ a ∷ m)) → AreFine 1 (a ∷ reverse p)
fine_next p m a h = fine_suffix (reverse m) (a ∷ reverse p) (subst (AreFine 1) (turned p m a) h)

pub record IsSame (p q : List TraceLine) (r s : List ℕ) : Type 0 where
  pub lines : p ≡ q
  pub rests : r ≡ s

at_stop : (p q : List TraceLine) (r s : List ℕ) → AreFine 1 (reverse p) → AreFine 1 (reverse q) → IsStuck p r → IsStuck q s → GoesOn p q r s → IsSame p q r s
at_stop p q r s fp fq hp hq (Longer [] e f) = record { lines = sym (e ∙ append-nil p); rests = f }
at_stop p q r s fp fq hp hq (Longer (a ∷ m) e f) =
    let n = fine_next p m a (subst (λ (t : List TraceLine). AreFine 1 (reverse t)) e fq) in
    absurd (hp.no_more a (text m ++ s) n.1 n.2 (f ∙ cut_front a m s))
at_stop p q r s fp fq hp hq (Shorter [] e f) = record { lines = e ∙ append-nil q; rests = sym f }
at_stop p q r s fp fq hp hq (Shorter (a ∷ m) e f) =
    let n = fine_next q m a (subst (λ (t : List TraceLine). AreFine 1 (reverse t)) e fp) in
    absurd (hq.no_more a (text m ++ r) n.1 n.2 (f ∙ cut_front a m r))

pub one_reading : (p q : List TraceLine) (r s : List ℕ) → InRange p → InRange q → AreFine 1 (reverse p) → AreFine 1 (reverse q) → IsStuck p r → IsStuck q s → text p ++ r ≡ text q ++ s → IsSame p q r s
one_reading p q r s ip iq fp fq hp hq e = at_stop p q r s fp fq hp hq (goes_on p q r s ip iq e)
