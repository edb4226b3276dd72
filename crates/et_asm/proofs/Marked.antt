-- Rules, one list after the other.
use Rattle.std.proofs.Common.{◌≡◌, ℕ, ◌+◌, ◌<◌, ◌≤◌, List, [], ◌++◌, length, get_or, take, drop, Option, refl, sym, ap, ◌∙◌}
use Rattle.et_base.specs.Marks.{Mark, first_from}
use Rattle.et_base.proofs.Firsts.{first_from-append}
use Rattle.et_asm.proofs.Taken.{left, left_more, left_none}

pub marks_more : (first : Option (ℕ × ℕ)) (xs ys : List Mark) → first_from (first_from first xs) ys ≡ first_from first (xs ++ ys)
marks_more first xs ys = sym (first_from-append first xs ys)

pub marks_none : (first : Option (ℕ × ℕ)) → first ≡ first_from first []
unfolding first_from
marks_none first = refl

module _ {X : Type 0} (give : List X → X → List X → List Mark) where
  pub loop_more : (xs : List X) (i : ℕ) (x : X) (found found' whole : Option (ℕ × ℕ)) → i < length xs → x ≡ get_or xs i x
      → found' ≡ first_from found (give (take i xs) x (drop (i + 1) xs)) → first_from found (left give xs i) ≡ whole → first_from found' (left give xs (i + 1)) ≡ whole
  loop_more xs i x found found' whole lt e step before =
      ap (λ f. first_from f (left give xs (i + 1))) step
      ∙ (marks_more found (give (take i xs) x (drop (i + 1) xs)) (left give xs (i + 1))
      ∙ (ap (first_from found) (sym (left_more give xs i x lt e)) ∙ before))

  pub loop_end : (xs : List X) (i : ℕ) (found whole : Option (ℕ × ℕ)) → length xs ≤ i → first_from found (left give xs i) ≡ whole → found ≡ whole
  unfolding first_from
  loop_end xs i found whole le before = sym (ap (first_from found) (left_none give xs i le)) ∙ before
