-- A text that is put together from parts.
use Rattle.std.proofs.Common.{◌≡◌, ℕ, List, [], ◌++◌, sym, ◌∙◌, ap, append_assoc}

-- words and a number more
more : (t all words digits next : List ℕ) → t ≡ all → next ≡ t ++ (words ++ digits) → next ≡ all ++ words ++ digits
more t all words digits next is e = e ∙ (ap (λ s. s ++ (words ++ digits)) is ∙ sym (append_assoc all words digits))

module _ (seed cells rounds : List ℕ) where
  -- words and numbers in turn, and words at the end
  pub put_together : (t s r q p o whole a b c d e f : List ℕ) → t ≡ [] → s ≡ t ++ (a ++ cells) → r ≡ s ++ (b ++ seed) → q ≡ r ++ (c ++ cells) → p ≡ q ++ (d ++ cells) → o ≡ p ++ (e ++ rounds) → whole ≡ o ++ f
      → whole ≡ a ++ cells ++ b ++ seed ++ c ++ cells ++ d ++ cells ++ e ++ rounds ++ f
  put_together t s r q p o whole a b c d e f none first second third fourth fifth last =
      let one = more t [] a cells s none first in
      let two = more s _ b seed r one second in
      let three = more r _ c cells q two third in
      let four = more q _ d cells p three fourth in
      last ∙ ap (λ x. x ++ f) (more p _ e rounds o four fifth)
