-- The types of local variables after one was written: each depends on the one that was in its place alone, so a store is monotone.
use Rattle.std.proofs.Common.{◌≡◌, ℕ, zero, suc, ◌+◌, ◌<◌, ◌==◌, ◌&&◌, Bool, true, false, List, length, get_or, set, refl, sym, ◌∙◌, ap, subst, inl, inr, arith, get_or-set_same, get_or-set_other}
use Rattle.std.specs.Prelude.{if◌then◌else◌}
use Rattle.std.proofs.lemmas.Bool.{cases_eq, eq-eqb, ne_eqb}
use Rattle.std.proofs.lemmas.List.{length-set}
use Rattle.et_flow.specs.declared.types.EntryType.{EntryType}
use Rattle.et_flow.specs.declared.types.EntryType.TheVariants as entry
use Rattle.et_flow.specs.Types.{IsBelow, AreBelow}
use Rattle.et_flow.specs.Stores.{is_long, is_high, without_lower, without_upper, one_set, long_set}

-- ONE ENTRY

abbrev pub gone_if : (EntryType → Bool) → Bool → EntryType → EntryType
gone_if test b x = if b && test x then entry.Free else x

abbrev pub kept_at : ℕ → ℕ → ℕ → EntryType → EntryType
kept_at first last j x = gone_if is_high (j == last + 1) (gone_if is_long (j + 1 == first) x)

pub gone_below : (test : EntryType → Bool) (b : Bool) (x y : EntryType) → test entry.Free ≡ false → IsBelow x y → IsBelow (gone_if test b x) (gone_if test b y)
gone_below test b x y never (inl same) = inl (ap (gone_if test b) same)
gone_below test true x y never (inr free) = inr (ap (gone_if test true) free ∙ ap (λ (c : Bool). if c then entry.Free else entry.Free) never)
gone_below test false x y never (inr free) = inr free

pub kept_below : (first last j : ℕ) (x y : EntryType) → IsBelow x y → IsBelow (kept_at first last j x) (kept_at first last j y)
kept_below first last j x y h = gone_below is_high (j == last + 1) _ _ refl (gone_below is_long (j + 1 == first) x y refl h)

-- LISTS

set_if : (xs : List EntryType) (k j : ℕ) (b : Bool) → j < length xs → (get_or (if b then set xs k entry.Free else xs) j entry.Free) ≡ (if (j == k) && b then entry.Free else get_or xs j entry.Free)
set_if xs k j b lt = elim (cases_eq j k) [
  | inl same ↦ here b same
  | inr ne ↦ there b ne
]
  where
    here : (c : Bool) → j ≡ k → (get_or (if c then set xs k entry.Free else xs) j entry.Free) ≡ (if (j == k) && c then entry.Free else get_or xs j entry.Free)
    here true same =
        subst (λ (x : Bool). get_or (set xs k entry.Free) j entry.Free ≡ (if x && true then entry.Free else get_or xs j entry.Free)) (sym (eq-eqb j k same))
        (subst (λ (x : ℕ). get_or (set xs k entry.Free) x entry.Free ≡ entry.Free) (sym same) (get_or-set_same xs k entry.Free entry.Free (subst (λ (x : ℕ). x < length xs) same lt)))
    here false same = subst (λ (x : Bool). get_or xs j entry.Free ≡ (if x && false then entry.Free else get_or xs j entry.Free)) (sym (eq-eqb j k same)) refl

    there : (c : Bool) → (j ≡ k → ⊥) → (get_or (if c then set xs k entry.Free else xs) j entry.Free) ≡ (if (j == k) && c then entry.Free else get_or xs j entry.Free)
    there true ne = subst (λ (x : Bool). get_or (set xs k entry.Free) j entry.Free ≡ (if x && true then entry.Free else get_or xs j entry.Free)) (sym (ne_eqb j k ne)) (get_or-set_other xs k j entry.Free entry.Free ne)
    there false ne = subst (λ (x : Bool). get_or xs j entry.Free ≡ (if x && false then entry.Free else get_or xs j entry.Free)) (sym (ne_eqb j k ne)) refl

-- the test is of the entry at k, which is that at j where it matters
test_there : (xs : List EntryType) (k j : ℕ) (test : EntryType → Bool) → (if (j == k) && test (get_or xs k entry.Free) then entry.Free else get_or xs j entry.Free) ≡ gone_if test (j == k) (get_or xs j entry.Free)
test_there xs k j test = elim (cases_eq j k) [
  | inl same ↦ ap (λ (i : ℕ). if (j == k) && test (get_or xs i entry.Free) then entry.Free else get_or xs j entry.Free) (sym same)
  | inr ne ↦ subst (λ (x : Bool). (if x && test (get_or xs k entry.Free) then entry.Free else get_or xs j entry.Free) ≡ gone_if test x (get_or xs j entry.Free)) (sym (ne_eqb j k ne)) refl
]

pub upper_at : (xs : List EntryType) (i j : ℕ) → j < length xs → get_or (without_upper i xs) j entry.Free ≡ gone_if is_high (j == i + 1) (get_or xs j entry.Free)
upper_at xs i j lt = set_if xs (i + 1) j (is_high (get_or xs (i + 1) entry.Free)) lt ∙ test_there xs (i + 1) j is_high

pub lower_at : (xs : List EntryType) (i j : ℕ) → j < length xs → get_or (without_lower i xs) j entry.Free ≡ gone_if is_long (j + 1 == i) (get_or xs j entry.Free)
lower_at xs zero j lt = subst (λ (x : Bool). get_or xs j entry.Free ≡ gone_if is_long x (get_or xs j entry.Free)) (sym (ne_eqb (j + 1) zero (λ e. absurd (omega arith)))) refl
lower_at xs (suc i) j lt =
    set_if xs i j (is_long (get_or xs i entry.Free)) lt ∙ (test_there xs i j is_long ∙ ap (λ (b : Bool). gone_if is_long b (get_or xs j entry.Free)) (same_test j i))
  where
    same_test : (a b : ℕ) → (a == b) ≡ (a + 1 == suc b)
    same_test a b = elim (cases_eq a b) [
      | inl same ↦ eq-eqb a b same ∙ sym (eq-eqb (a + 1) (suc b) (omega arith))
      | inr ne ↦ ne_eqb a b ne ∙ sym (ne_eqb (a + 1) (suc b) (λ e. ne (omega arith)))
    ]

length-upper : (i : ℕ) (xs : List EntryType) → length (without_upper i xs) ≡ length xs
length-upper i xs = by (is_high (get_or xs (i + 1) entry.Free))
  where
    by : (b : Bool) → length (if b then set xs (i + 1) entry.Free else xs) ≡ length xs
    by true = length-set xs (i + 1) entry.Free
    by false = refl

length-lower : (i : ℕ) (xs : List EntryType) → length (without_lower i xs) ≡ length xs
length-lower zero xs = refl
length-lower (suc i) xs = by (is_long (get_or xs i entry.Free))
  where
    by : (b : Bool) → length (if b then set xs i entry.Free else xs) ≡ length xs
    by true = length-set xs i entry.Free
    by false = refl

-- .. OF ONE, and of a long

pub kept_there : (xs : List EntryType) (first last j : ℕ) → j < length xs → get_or (without_upper last (without_lower first xs)) j entry.Free ≡ kept_at first last j (get_or xs j entry.Free)
kept_there xs first last j lt =
    upper_at (without_lower first xs) last j (omega (arith, length-lower first xs)) ∙ ap (gone_if is_high (j == last + 1)) (lower_at xs first j lt)

pub length-kept : (xs : List EntryType) (first last : ℕ) → length (without_upper last (without_lower first xs)) ≡ length xs
length-kept xs first last = length-upper last (without_lower first xs) ∙ length-lower first xs

-- .. after the two writes that keep them
pub both_cut : (first last : ℕ) (was mid now : List EntryType) → mid ≡ without_lower first was → now ≡ without_upper last mid → (now ≡ without_upper last (without_lower first was)) × (length now ≡ length was)
both_cut first last was mid now lower upper =
    let is : now ≡ without_upper last (without_lower first was) = upper ∙ ap (without_upper last) lower in
    (is, ap length is ∙ length-kept was first last)

kept_lists : (xs ys : List EntryType) (first last : ℕ) → AreBelow xs ys → AreBelow (without_upper last (without_lower first xs)) (without_upper last (without_lower first ys))
kept_lists xs ys first last h = record {
  long = length-kept xs first last ∙ (h.long ∙ sym (length-kept ys first last));
  each = λ j lt.
      let lx : j < length xs = omega (arith, length-kept xs first last) in
      let ly : j < length ys = omega (arith, h.long) in
      subst (λ (a : EntryType). IsBelow a (get_or (without_upper last (without_lower first ys)) j entry.Free)) (sym (kept_there xs first last j lx))
      (subst (λ (b : EntryType). IsBelow (kept_at first last j (get_or xs j entry.Free)) b) (sym (kept_there ys first last j ly))
      (kept_below first last j (get_or xs j entry.Free) (get_or ys j entry.Free) (h.each j lx)));
}

set_lists : (xs ys : List EntryType) (i : ℕ) (t : EntryType) → AreBelow xs ys → AreBelow (set xs i t) (set ys i t)
set_lists xs ys i t h = record {
  long = length-set xs i t ∙ (h.long ∙ sym (length-set ys i t));
  each = λ j lt. at j (omega (arith, length-set xs i t));
}
  where
    at : (j : ℕ) → j < length xs → IsBelow (get_or (set xs i t) j entry.Free) (get_or (set ys i t) j entry.Free)
    at j lx = elim (cases_eq j i) [
      | inl same ↦ (let ix : i < length xs = subst (λ (k : ℕ). k < length xs) same lx in
          inl (subst (λ (k : ℕ). get_or (set xs i t) k entry.Free ≡ get_or (set ys i t) k entry.Free) (sym same) (get_or-set_same xs i t entry.Free ix ∙ sym (get_or-set_same ys i t entry.Free (omega (arith, h.long))))))
      | inr ne ↦ subst (λ (a : EntryType). IsBelow a (get_or (set ys i t) j entry.Free)) (sym (get_or-set_other xs i j t entry.Free ne))
          (subst (λ (b : EntryType). IsBelow (get_or xs j entry.Free) b) (sym (get_or-set_other ys i j t entry.Free ne)) (h.each j lx))
    ]

pub one_monotone : (xs ys : List EntryType) (i : ℕ) (t : EntryType) → AreBelow xs ys → AreBelow (one_set i t xs) (one_set i t ys)
one_monotone xs ys i t h = set_lists _ _ i t (kept_lists xs ys i i h)

pub long_monotone : (xs ys : List EntryType) (i : ℕ) → AreBelow xs ys → AreBelow (long_set i xs) (long_set i ys)
long_monotone xs ys i h = set_lists _ _ (i + 1) entry.LongHigh (set_lists _ _ i entry.Long (kept_lists xs ys i (i + 1) h))
