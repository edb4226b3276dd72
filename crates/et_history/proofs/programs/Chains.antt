-- The slots that a class has beside those of its superclasses.
use Rattle.std.proofs.Common.{◌≡◌, ℕ, zero, suc, ◌+◌, ◌≤◌, ◌⊎◌, List, [], ◌∷◌, length, Option, Some, None, refl, sym, ◌∙◌, ap, subst, inl, inr, arith, Contains}
use Rattle.std.specs.Prelude.{sum_by}
use Rattle.std.specs.List.{slice_index_or}
use Rattle.std.proofs.lemmas.Bool.{cases_lt}
use Rattle.std.proofs.lemmas.List.Sums.{sum_by-cons}
use Rattle.et_base.proofs.Lists.{Contains-none, Contains-cons}
use Rattle.et_hierarchy.specs.Ancestry.{Ancestry, ancestry_at, no_ancestry, supers_over, IsAncestry}
use Rattle.et_hierarchy.specs.Links.{LinkEntry, no_links}
use Rattle.et_program.specs.declared.info.FieldInfo.{FieldInfo}
use Rattle.et_program.specs.Slots.{own_slots, slots_above}

-- behind the first of the superclasses stand those of that one
pub rest_by : (rows : List Ancestry) (o : Option ℕ) (s : ℕ) (ys : List ℕ) → supers_over rows o ≡ s ∷ ys → ys ≡ (ancestry_at rows s).supers
rest_by rows None s ys e = absurd (nothing e)
  where
    nothing : supers_over rows None ≡ s ∷ ys → ⊥
    nothing q = cc
rest_by rows (Some r) s ys e = sym (tails e) ∙ ap (λ (k : ℕ). (ancestry_at rows k).supers) (heads e)
  where
    heads : (r ∷ (ancestry_at rows r).supers) ≡ s ∷ ys → r ≡ s
    heads q = cc

    tails : (r ∷ (ancestry_at rows r).supers) ≡ s ∷ ys → (ancestry_at rows r).supers ≡ ys
    tails q = cc

module _ (fields : List FieldInfo) (table : List LinkEntry) (rows : List Ancestry) (is : IsAncestry table rows) where
  abbrev own : ℕ → ℕ
  own k = own_slots fields k

  abbrev above : ℕ → ℕ
  above k = slots_above fields rows k

  abbrev supers : ℕ → List ℕ
  supers k = (ancestry_at rows k).supers

  beyond : (rs : List Ancestry) (k : ℕ) → length rs ≤ k → slice_index_or rs k no_ancestry ≡ no_ancestry
  beyond [] k le = refl
  beyond (r ∷ rs) zero le = absurd (omega arith)
  beyond (r ∷ rs) (suc k) le = beyond rs k (omega arith)

  -- behind the direct superclass stand its own superclasses
  rest_is : (k s : ℕ) (ys : List ℕ) → supers k ≡ s ∷ ys → ys ≡ supers s
  rest_is k s ys e =
      elim (cases_lt k (length table)) [
        | inl lt ↦ rest_by rows (slice_index_or table k no_links).above s ys (sym (ap (λ (r : Ancestry). r.supers) (is.row k lt)) ∙ e)
        | inr le ↦ absurd (nothing (sym (ap (λ (r : Ancestry). r.supers) (beyond rows k (omega (arith, is.each)))) ∙ e))
      ]
    where
      nothing : [] ≡ s ∷ ys → ⊥
      nothing q = cc

  above_is : (k s : ℕ) (ys : List ℕ) → supers k ≡ s ∷ ys → above k ≡ own s + above s
  above_is k s ys e =
      ap (λ (xs : List ℕ). sum_by (own_slots fields) xs) e ∙ (sum_by-cons (own_slots fields) s ys ∙ ap (λ (xs : List ℕ). own s + sum_by (own_slots fields) xs) (rest_is k s ys e))

  -- the slots of a superclass stand below those of the class
  pub chain_above : (k : ℕ) (xs : List ℕ) → supers k ≡ xs → (q : ℕ) → Contains xs q → above q + own q ≤ above k
  chain_above k [] e q c = absurd (Contains-none q c)
  chain_above k (s ∷ ys) e q c =
      let total : above k ≡ own s + above s = above_is k s ys e in
      elim (Contains-cons s ys q c) [
        | inl same ↦ subst (λ (i : ℕ). above i + own i ≤ above k) same (let le : above s + own s ≤ above k = omega arith in le)
        | inr there ↦ let below : above q + own q ≤ above s = chain_above s ys (sym (rest_is k s ys e)) q there in let le : above q + own q ≤ above k = omega arith in le
      ]

  abbrev AreApart : ℕ → ℕ → Type 0
  AreApart a b = (a ≡ b) ⊎ ((above a + own a ≤ above b) ⊎ (above b + own b ≤ above a))

  pub apart : (k : ℕ) (xs : List ℕ) → supers k ≡ xs → (a b : ℕ) → Contains (k ∷ xs) a → Contains (k ∷ xs) b → AreApart a b
  apart k xs e a b c d =
      elim (Contains-cons k xs a c) [
        | inl first ↦
            elim (Contains-cons k xs b d) [
              | inl second ↦ inl (sym first ∙ second)
              | inr there ↦ inr (inr (subst (λ (i : ℕ). above b + own b ≤ above i) first (chain_above k xs e b there)))
            ]
        | inr here ↦
            elim (Contains-cons k xs b d) [
              | inl second ↦ inr (inl (subst (λ (i : ℕ). above a + own a ≤ above i) second (chain_above k xs e a here)))
              | inr there ↦ further k xs e a b here there
            ]
      ]
    where
      further : (j : ℕ) (zs : List ℕ) → supers j ≡ zs → (x y : ℕ) → Contains zs x → Contains zs y → AreApart x y
      further j [] q x y u v = absurd (Contains-none x u)
      further j (s ∷ ys) q x y u v =
          elim (Contains-cons s ys x u) [
            | inl first ↦
                elim (Contains-cons s ys y v) [
                  | inl second ↦ inl (sym first ∙ second)
                  | inr there ↦ inr (inr (subst (λ (i : ℕ). above y + own y ≤ above i) first (chain_above s ys (sym (rest_is j s ys q)) y there)))
                ]
            | inr here ↦
                elim (Contains-cons s ys y v) [
                  | inl second ↦ inr (inl (subst (λ (i : ℕ). above x + own x ≤ above i) second (chain_above s ys (sym (rest_is j s ys q)) x here)))
                  | inr there ↦ further s ys (sym (rest_is j s ys q)) x y here there
                ]
          ]
