-- What is below what.
use Rattle.std.proofs.Common.{◌≡◌, ℕ, zero, suc, ◌+◌, ◌<◌, ◌≤◌, ◌⊎◌, List, [], ◌∷◌, length, get_or, refl, sym, ◌∙◌, ap, subst, inl, inr, arith}
use Rattle.et_flow.specs.declared.types.EntryType.{EntryType}
use Rattle.et_flow.specs.declared.types.EntryType.TheVariants.{Free, Int, Long, LongHigh, Reference}
use Rattle.et_flow.specs.Types.{IsBelow, joined, joined_lists, AreBelow, TypesOf, AreTypesBelow, rank}

-- ENTRIES

pub below_trans : (a b c : EntryType) → IsBelow a b → IsBelow b c → IsBelow a c
below_trans a b c (inl p) q = subst (λ (x : EntryType). IsBelow x c) (sym p) q
below_trans a b c (inr p) (inl q) = inr (sym q ∙ p)
below_trans a b c (inr p) (inr q) = inr q

-- what joins stays, or becomes Free
pub joined_is : (a b : EntryType) → ((joined a b ≡ a) × (a ≡ b)) ⊎ (joined a b ≡ Free)
joined_is Free b = inr refl
joined_is Int Free = inr refl
joined_is Int Int = inl (refl, refl)
joined_is Int Long = inr refl
joined_is Int LongHigh = inr refl
joined_is Int Reference = inr refl
joined_is Long Free = inr refl
joined_is Long Int = inr refl
joined_is Long Long = inl (refl, refl)
joined_is Long LongHigh = inr refl
joined_is Long Reference = inr refl
joined_is LongHigh Free = inr refl
joined_is LongHigh Int = inr refl
joined_is LongHigh Long = inr refl
joined_is LongHigh LongHigh = inl (refl, refl)
joined_is LongHigh Reference = inr refl
joined_is Reference Free = inr refl
joined_is Reference Int = inr refl
joined_is Reference Long = inr refl
joined_is Reference LongHigh = inr refl
joined_is Reference Reference = inl (refl, refl)

pub joined_same : (a : EntryType) → joined a a ≡ a
joined_same Free = refl
joined_same Int = refl
joined_same Long = refl
joined_same LongHigh = refl
joined_same Reference = refl

pub below_joined_left : (a b : EntryType) → IsBelow a (joined a b)
below_joined_left a b = elim (joined_is a b) [ inl h ↦ inl (sym h.0) | inr h ↦ inr h ]

pub below_joined_right : (a b : EntryType) → IsBelow b (joined a b)
below_joined_right a b = elim (joined_is a b) [ inl h ↦ inl (sym (h.0 ∙ h.1)) | inr h ↦ inr h ]

pub joined_below : (a b c : EntryType) → IsBelow a c → IsBelow b c → IsBelow (joined a b) c
joined_below a b c (inr p) q = inr p
joined_below a b c (inl p) (inr q) = inr q
joined_below a b c (inl p) (inl q) = inl (ap (λ (x : EntryType). joined x b) (p ∙ sym q) ∙ (joined_same b ∙ q))

-- the rank falls where the type changes
pub rank_joined : (a b : EntryType) → (joined a b ≡ a → ⊥) → rank (joined a b) + 1 ≤ rank a
rank_joined Free b h = absurd (h refl)
rank_joined Int b h = elim (joined_is Int b) [ inl e ↦ absurd (h e.0) | inr e ↦ subst (λ (x : EntryType). rank x + 1 ≤ 1) (sym e) (omega arith) ]
rank_joined Long b h = elim (joined_is Long b) [ inl e ↦ absurd (h e.0) | inr e ↦ subst (λ (x : EntryType). rank x + 1 ≤ 1) (sym e) (omega arith) ]
rank_joined LongHigh b h = elim (joined_is LongHigh b) [ inl e ↦ absurd (h e.0) | inr e ↦ subst (λ (x : EntryType). rank x + 1 ≤ 1) (sym e) (omega arith) ]
rank_joined Reference b h = elim (joined_is Reference b) [ inl e ↦ absurd (h e.0) | inr e ↦ subst (λ (x : EntryType). rank x + 1 ≤ 1) (sym e) (omega arith) ]

pub rank_small : (a : EntryType) → rank a ≤ 1
rank_small Free = omega arith
rank_small Int = omega arith
rank_small Long = omega arith
rank_small LongHigh = omega arith
rank_small Reference = omega arith

-- LISTS

pub length-joined_lists : (xs ys : List EntryType) → length (joined_lists xs ys) ≡ length xs
length-joined_lists [] ys = refl
length-joined_lists (a ∷ xs) [] = refl
length-joined_lists (a ∷ xs) (b ∷ ys) = ap suc (length-joined_lists xs ys)

pub joined_at : (xs ys : List EntryType) (i : ℕ) → length xs ≡ length ys → i < length xs → get_or (joined_lists xs ys) i Free ≡ joined (get_or xs i Free) (get_or ys i Free)
joined_at [] ys i e lt = absurd (omega arith)
joined_at (a ∷ xs) [] i e lt = absurd (omega arith)
joined_at (a ∷ xs) (b ∷ ys) zero e lt = refl
joined_at (a ∷ xs) (b ∷ ys) (suc i) e lt = joined_at xs ys i (omega arith) (omega arith)

pub lists_refl : (xs : List EntryType) → AreBelow xs xs
lists_refl xs = record { long = refl; each = λ i lt. inl refl }

pub lists_trans : (xs ys zs : List EntryType) → AreBelow xs ys → AreBelow ys zs → AreBelow xs zs
lists_trans xs ys zs p q = record {
  long = p.long ∙ q.long;
  each = λ i lt. below_trans (get_or xs i Free) (get_or ys i Free) (get_or zs i Free) (p.each i lt) (q.each i (omega (arith, p.long)));
}

pub lists_joined_left : (xs ys : List EntryType) → length xs ≡ length ys → AreBelow xs (joined_lists xs ys)
lists_joined_left xs ys e = record {
  long = sym (length-joined_lists xs ys);
  each = λ i lt. subst (λ (x : EntryType). IsBelow (get_or xs i Free) x) (sym (joined_at xs ys i e lt)) (below_joined_left (get_or xs i Free) (get_or ys i Free));
}

pub lists_joined_right : (xs ys : List EntryType) → length xs ≡ length ys → AreBelow ys (joined_lists xs ys)
lists_joined_right xs ys e = record {
  long = sym e ∙ sym (length-joined_lists xs ys);
  each = λ i lt. subst (λ (x : EntryType). IsBelow (get_or ys i Free) x) (sym (joined_at xs ys i e (omega (arith, e)))) (below_joined_right (get_or xs i Free) (get_or ys i Free));
}

pub lists_joined_below : (xs ys zs : List EntryType) → AreBelow xs zs → AreBelow ys zs → AreBelow (joined_lists xs ys) zs
lists_joined_below xs ys zs p q =
    let e : length xs ≡ length ys = p.long ∙ sym q.long in
    record {
      long = length-joined_lists xs ys ∙ p.long;
      each = λ i lt.
          let inside : i < length xs = omega (arith, length-joined_lists xs ys) in
          subst (λ (x : EntryType). IsBelow x (get_or zs i Free)) (sym (joined_at xs ys i e inside)) (joined_below (get_or xs i Free) (get_or ys i Free) (get_or zs i Free) (p.each i inside) (q.each i (omega (arith, e))));
    }

-- FRAMES

pub types_refl : (ts : TypesOf) → AreTypesBelow ts ts
types_refl ts = record { operands = refl; locals = lists_refl ts.locals }

pub types_trans : (ts us vs : TypesOf) → AreTypesBelow ts us → AreTypesBelow us vs → AreTypesBelow ts vs
types_trans ts us vs p q = record { operands = p.operands ∙ q.operands; locals = lists_trans ts.locals us.locals vs.locals p.locals q.locals }
