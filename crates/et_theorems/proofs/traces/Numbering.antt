-- The numbers that a trace gives to the classes and methods that it mentions, and what its C and N lines name.
use Rattle.std.proofs.Common.{◌≡◌, ℕ, ◌+◌, ◌<◌, ◌≤◌, ◌^◌, ◌==◌, ◌⊎◌, Bool, true, false, cond, not, ◌&&◌, ◌||◌, eqb, List, [], ◌∷◌, ◌++◌, length, get_or, refl, sym, ◌∙◌, ap, subst, inl, inr, arith, length-append}
use Rattle.std.specs.Prelude.{bytes_eq}
use Rattle.std.specs.List.{IsDistinct, list_any, position_or_len, prefix_len}
use Rattle.std.specs.Cmp.{nat_eq_equiv}
use Rattle.std.proofs.lemmas.Bool.{eq-eqb, eqb-true, true≢false, or_right, or_left, or_cases}
use Rattle.std.proofs.lemmas.List.Folds.{list_any-append}
use Rattle.std.proofs.lemmas.List.Sums.{passes_at_first}
use Rattle.std.proofs.lemmas.Map.Keys.{IsDistinct-push}
use Rattle.std.proofs.lemmas.Map.Steps.{length-le_from_distinct_below}
use Rattle.et_loop.proofs.Tables.{place_kept}
use Rattle.et_state.specs.Naming.{Names, Mentions, number_in}
use Rattle.et_theorems.specs.traces.Good.{AreNamesApart, AreNamesShort}

-- names that lines can tell: they are apart and short, and not too many
pub record AreTellable (names : Names) : Type 0 where
  pub few_classes : names.class_count < 2 ^ 32
  pub few_methods : names.method_count < 2 ^ 32
  pub apart : AreNamesApart names
  pub short : AreNamesShort names

-- LISTS OF NUMBERS

abbrev pub IsIn : List ℕ → ℕ → Type 0
IsIn seen x = list_any (λ y. x == y) seen ≡ true

pub in_more : (seen : List ℕ) (y x : ℕ) → IsIn seen x → IsIn (seen ++ y ∷ []) x
in_more seen y x h = list_any-append (λ z. x == z) seen (y ∷ []) ∙ or_left (list_any (λ z. x == z) seen) (list_any (λ z. x == z) (y ∷ [])) h

pub in_last : (seen : List ℕ) (x : ℕ) → IsIn (seen ++ x ∷ []) x
in_last seen x =
    list_any-append (λ z. x == z) seen (x ∷ [])
    ∙ or_right (list_any (λ z. x == z) seen) (list_any (λ z. x == z) (x ∷ [])) (or_left (x == x) false (eq-eqb x x refl))

pub in_cases : (seen : List ℕ) (y x : ℕ) → IsIn (seen ++ y ∷ []) x → IsIn seen x ⊎ (x ≡ y)
in_cases seen y x h =
    elim (or_cases (list_any (λ z. x == z) seen) (list_any (λ z. x == z) (y ∷ [])) (sym (list_any-append (λ z. x == z) seen (y ∷ [])) ∙ h)) [
      | inl old ↦ inl old
      | inr new ↦ elim (or_cases (x == y) false new) [ inl e ↦ inr (eqb-true x y e) | inr none ↦ absurd (true≢false (sym none)) ]
    ]

-- PLACES

place_within : (p : ℕ → Bool) (seen : List ℕ) → list_any p seen ≡ true → position_or_len p seen < length seen
place_within p [] e = absurd (true≢false (sym e))
place_within p (x ∷ xs) e = by (p x) e (λ h. place_within p xs h)
  where
    by : (b : Bool) → (b || list_any p xs) ≡ true → (list_any p xs ≡ true → position_or_len p xs < length xs) → cond (not b) (1 + prefix_len (λ z. not (p z)) xs) 0 < length (x ∷ xs)
    by true h rest = omega arith
    by false h rest = let lt : prefix_len (λ z. not (p z)) xs < length xs = rest h in omega arith

pub number_kept : (seen : List ℕ) (y x : ℕ) → IsIn seen x → number_in (seen ++ y ∷ []) x ≡ number_in seen x
number_kept seen y x h = ap (λ (n : ℕ). n + 1) (place_kept (λ z. x == z) y seen h)

pub number_within : (seen : List ℕ) (x : ℕ) → IsIn seen x → number_in seen x ≤ length seen
number_within seen x h = let lt : position_or_len (λ z. x == z) seen < length seen = place_within (λ z. x == z) seen h in omega arith

stands_there : (seen : List ℕ) (x : ℕ) → IsIn seen x → x ≡ get_or seen (position_or_len (λ z. x == z) seen) 0
stands_there seen x h = eqb-true x _ (passes_at_first (λ z. x == z) seen 0 (place_within (λ z. x == z) seen h))

pub number_is_of : (seen : List ℕ) (x y : ℕ) → IsIn seen x → IsIn seen y → number_in seen x ≡ number_in seen y → x ≡ y
number_is_of seen x y hx hy e =
    let same : position_or_len (λ z. x == z) seen ≡ position_or_len (λ z. y == z) seen = omega (arith, e) in
    stands_there seen x hx ∙ (ap (λ (n : ℕ). get_or seen n 0) same ∙ sym (stands_there seen y hy))

-- WHAT IS NAMED

-- a class of this name was mentioned
pub record HasClass (names : Names) (seen : List ℕ) (name : List ℕ) : Type 0 where
  pub class : ℕ
  pub there : IsIn seen class
  pub is : bytes_eq (names.class_name class) name ≡ true

-- a method of this name and descriptor, whose class has this number, was mentioned
pub record HasMethod (names : Names) (m : Mentions) (c : ℕ) (name descriptor : List ℕ) : Type 0 where
  pub method : ℕ
  pub there : IsIn m.methods method
  pub class_is : c ≡ number_in m.classes (names.method_class method)
  pub name_is : bytes_eq (names.method_name method) name ≡ true
  pub descriptor_is : bytes_eq (names.method_descriptor method) descriptor ≡ true

-- The lines so far have so many C and N lines, of these names: those of what was mentioned, each once.
pub record AreNamed (names : Names) (m : Mentions) (classes methods : ℕ) (has_class : List ℕ → Bool) (has_method : ℕ → List ℕ → List ℕ → Bool) : Type 0 where
  pub classes_are : classes ≡ length m.classes
  pub methods_are : methods ≡ length m.methods
  pub classes_once : IsDistinct eqb m.classes
  pub methods_once : IsDistinct eqb m.methods
  pub classes_within : (c : ℕ) → IsIn m.classes c → c < names.class_count
  pub methods_within : (k : ℕ) → IsIn m.methods k → k < names.method_count
  pub owners : (k : ℕ) → IsIn m.methods k → IsIn m.classes (names.method_class k)
  pub class_names : (name : List ℕ) → has_class name ≡ true → HasClass names m.classes name
  pub method_names : (c : ℕ) (name descriptor : List ℕ) → has_method c name descriptor ≡ true → HasMethod names m c name descriptor

few : (seen : List ℕ) (count : ℕ) → IsDistinct eqb seen → ((x : ℕ) → IsIn seen x → x < count) → length seen ≤ count
few seen count once within = length-le_from_distinct_below seen count once within

module _ (names : Names) (fit : AreTellable names) (m : Mentions) (cs ms : ℕ) (has_class : List ℕ → Bool) (has_method : ℕ → List ℕ → List ℕ → Bool)
    (h : AreNamed names m cs ms has_class has_method) where
  -- the numbers of what is mentioned are in range
  pub class_number : (c : ℕ) → IsIn m.classes c → (1 ≤ number_in m.classes c) × (number_in m.classes c < 2 ^ 32)
  class_number c there =
      let a = number_within m.classes c there in
      let b = few m.classes names.class_count h.classes_once h.classes_within in
      (omega arith, omega (arith, a, b, fit.few_classes))

  pub method_number : (k : ℕ) → IsIn m.methods k → (1 ≤ number_in m.methods k) × (number_in m.methods k < 2 ^ 32)
  method_number k there =
      let a = number_within m.methods k there in
      let b = few m.methods names.method_count h.methods_once h.methods_within in
      (omega arith, omega (arith, a, b, fit.few_methods))

  -- A NEW CLASS
  module _ (c : ℕ) (within : c < names.class_count) (new : list_any (λ y. c == y) m.classes ≡ false) where
    abbrev pub with_class : Mentions
    with_class = record { classes = m.classes ++ c ∷ []; methods = m.methods }

    pub class_is_new : has_class (names.class_name c) ≡ false
    class_is_new = by (has_class (names.class_name c)) refl
      where
        by : (b : Bool) → has_class (names.class_name c) ≡ b → b ≡ false
        by false e = refl
        by true e =
            let was : HasClass names m.classes (names.class_name c) = h.class_names (names.class_name c) e in
            let same : was.class ≡ c = fit.apart.classes_apart was.class c (h.classes_within was.class was.there) within was.is in
            absurd (true≢false (sym (subst (λ (x : ℕ). IsIn m.classes x) same was.there) ∙ new))

    once : IsDistinct eqb (m.classes ++ c ∷ [])
    once = IsDistinct-push nat_eq_equiv m.classes c h.classes_once new

    all_within : (x : ℕ) → IsIn (m.classes ++ c ∷ []) x → x < names.class_count
    all_within x there = elim (in_cases m.classes c x there) [ inl old ↦ h.classes_within x old | inr same ↦ omega (arith, same, within) ]

    pub class_in_range : (1 ≤ length m.classes + 1) × (length m.classes + 1 < 2 ^ 32)
    class_in_range =
        let a : length (m.classes ++ c ∷ []) ≤ names.class_count = few (m.classes ++ c ∷ []) names.class_count once all_within in
        (omega arith, omega (arith, a, length-append m.classes (c ∷ []), fit.few_classes))

    pub named_class : AreNamed names with_class (cs + 1) ms (λ name. bytes_eq (names.class_name c) name || has_class name) has_method
    named_class = record {
      classes_are = omega (arith, h.classes_are, length-append m.classes (c ∷ []));
      methods_are = h.methods_are;
      classes_once = once;
      methods_once = h.methods_once;
      classes_within = all_within;
      methods_within = h.methods_within;
      owners = λ k there. in_more m.classes c (names.method_class k) (h.owners k there);
      class_names = λ name has. elim (or_cases (bytes_eq (names.class_name c) name) (has_class name) has) [
        | inl is ↦ record { class = c; there = in_last m.classes c; is = is }
        | inr old ↦ (let was : HasClass names m.classes name = h.class_names name old in record { class = was.class; there = in_more m.classes c was.class was.there; is = was.is })
      ];
      method_names = λ number name descriptor has.
          let was : HasMethod names m number name descriptor = h.method_names number name descriptor has in
          record {
            method = was.method;
            there = was.there;
            class_is = was.class_is ∙ sym (number_kept m.classes c (names.method_class was.method) (h.owners was.method was.there));
            name_is = was.name_is;
            descriptor_is = was.descriptor_is;
          };
    }

  -- A NEW METHOD, whose class was mentioned
  module _ (k : ℕ) (within : k < names.method_count) (new : list_any (λ y. k == y) m.methods ≡ false) (owner : IsIn m.classes (names.method_class k)) where
    abbrev pub with_method : Mentions
    with_method = record { classes = m.classes; methods = m.methods ++ k ∷ [] }

    abbrev pub owner_number : ℕ
    owner_number = number_in m.classes (names.method_class k)

    pub method_is_new : has_method owner_number (names.method_name k) (names.method_descriptor k) ≡ false
    method_is_new = by (has_method owner_number (names.method_name k) (names.method_descriptor k)) refl
      where
        by : (b : Bool) → has_method owner_number (names.method_name k) (names.method_descriptor k) ≡ b → b ≡ false
        by false e = refl
        by true e =
            let was : HasMethod names m owner_number (names.method_name k) (names.method_descriptor k) = h.method_names owner_number (names.method_name k) (names.method_descriptor k) e in
            let one : names.method_class was.method ≡ names.method_class k = number_is_of m.classes (names.method_class was.method) (names.method_class k) (h.owners was.method was.there) owner (sym was.class_is) in
            let same : was.method ≡ k = fit.apart.methods_apart was.method k (h.methods_within was.method was.there) within one was.name_is was.descriptor_is in
            absurd (true≢false (sym (subst (λ (x : ℕ). IsIn m.methods x) same was.there) ∙ new))

    once_more : IsDistinct eqb (m.methods ++ k ∷ [])
    once_more = IsDistinct-push nat_eq_equiv m.methods k h.methods_once new

    within_more : (x : ℕ) → IsIn (m.methods ++ k ∷ []) x → x < names.method_count
    within_more x there = elim (in_cases m.methods k x there) [ inl old ↦ h.methods_within x old | inr same ↦ omega (arith, same, within) ]

    pub method_in_range : (1 ≤ length m.methods + 1) × (length m.methods + 1 < 2 ^ 32)
    method_in_range =
        let a : length (m.methods ++ k ∷ []) ≤ names.method_count = few (m.methods ++ k ∷ []) names.method_count once_more within_more in
        (omega arith, omega (arith, a, length-append m.methods (k ∷ []), fit.few_methods))

    pub named_method : AreNamed names with_method cs (ms + 1) has_class
        (λ c name descriptor. (owner_number == c && bytes_eq (names.method_name k) name && bytes_eq (names.method_descriptor k) descriptor) || has_method c name descriptor)
    named_method = record {
      classes_are = h.classes_are;
      methods_are = omega (arith, h.methods_are, length-append m.methods (k ∷ []));
      classes_once = h.classes_once;
      methods_once = once_more;
      classes_within = h.classes_within;
      methods_within = within_more;
      owners = λ x there. elim (in_cases m.methods k x there) [ inl old ↦ h.owners x old | inr same ↦ subst (λ (y : ℕ). IsIn m.classes (names.method_class y)) (sym same) owner ];
      class_names = h.class_names;
      method_names = λ c name descriptor has. elim (or_cases (owner_number == c && bytes_eq (names.method_name k) name && bytes_eq (names.method_descriptor k) descriptor) (has_method c name descriptor) has) [
        | inl is ↦ (let all = three (owner_number == c) (bytes_eq (names.method_name k) name) (bytes_eq (names.method_descriptor k) descriptor) is in
            record { method = k; there = in_last m.methods k; class_is = sym (eqb-true owner_number c all.0); name_is = all.1; descriptor_is = all.2 })
        | inr old ↦ (let was : HasMethod names m c name descriptor = h.method_names c name descriptor old in
            record { method = was.method; there = in_more m.methods k was.method was.there; class_is = was.class_is; name_is = was.name_is; descriptor_is = was.descriptor_is })
      ];
    } where
      three : (x y z : Bool) → (x && y && z) ≡ true → (x ≡ true) × (y ≡ true) × (z ≡ true)
      three true true true e = (refl, refl, refl)
      three true true false e = absurd (true≢false (sym e))
      three true false z e = absurd (true≢false (sym e))
      three false y z e = absurd (true≢false (sym e))
