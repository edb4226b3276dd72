-- Stamps that are written.
use Rattle.std.proofs.Common.{◌≡◌, ℕ, ◌<◌, List, [], ◌∷◌, ◌++◌, get_or, set, length, Contains, refl, sym, ◌∙◌, subst, inl, inr}
use Rattle.std.proofs.lemmas.Bool.{cases_eq}
use Rattle.std.proofs.lemmas.List.{get_or-set_same, get_or-set_other, length-set}
use Rattle.std.proofs.lemmas.List.Elements.{Contains-append_left, Contains-push, Contains-push_cases}
use Rattle.et_base.proofs.Lists.{Contains-none}

-- the time stands at each of the objects, and the rest is as before
pub record IsEach (old new objects : List ℕ) (t : ℕ) : Type 0 where
  pub long : length new ≡ length old
  pub each : (o : ℕ) → Contains objects o → get_or new o 0 ≡ t
  pub others : (o : ℕ) → ¬ Contains objects o → get_or new o 0 ≡ get_or old o 0

pub each_none : (old : List ℕ) (t : ℕ) → IsEach old old [] t
each_none old t = record { long = refl; each = λ o c. absurd (Contains-none o c); others = λ o c. refl }

pub each_push : (old new objects : List ℕ) (t x : ℕ) → IsEach old new objects t → x < length new → IsEach old (set new x t) (objects ++ x ∷ []) t
each_push old new objects t x is lt = record {
  long = length-set new x t ∙ is.long;
  each = λ o c. elim (cases_eq o x) [
    | inl e ↦ subst (λ (j : ℕ). get_or (set new x t) j 0 ≡ t) (sym e) (get_or-set_same new x t 0 lt)
    | inr ne ↦ get_or-set_other new x o t 0 ne ∙ elim (Contains-push_cases objects x o c) [ inl d ↦ is.each o d | inr e ↦ absurd (ne (sym e)) ]
  ];
  others = λ o out. elim (cases_eq o x) [
    | inl e ↦ absurd (out (subst (λ (j : ℕ). Contains (objects ++ x ∷ []) j) (sym e) (Contains-push objects x)))
    | inr ne ↦ get_or-set_other new x o t 0 ne ∙ is.others o (λ c. out (Contains-append_left objects (x ∷ []) o c))
  ];
}
