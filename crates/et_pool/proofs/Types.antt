-- Descriptors from left to right.
use Rattle.std.proofs.Common.{◌≡◌, ℕ, ◌+◌, ◌-◌, ◌<◌, ◌≤◌, ◌*◌, zero, suc, ◌||◌, Bool, true, false, cond, eqb, List, [], ◌∷◌, length, get_or, drop, Option, Some, None, refl, sym, ap, ◌∙◌, arith}
use Rattle.std.specs.Prelude.{option_map, option_and_then, fold}
use Rattle.std.specs.List.{list_any}
use Rattle.std.proofs.lemmas.Bool.{eqb-true}
use Rattle.std.proofs.lemmas.List.{at_drop_more}
use mathlib.Core.Bool.{or-false}
use Rattle.et_pool.specs.Descriptors.{after_name, after_element, after_dimensions, first_type, types_of, parameters_of, width_of, is_floating}

pub name_at : (s : List ℕ) (i : ℕ) → i < length s → after_name (drop i s) ≡ cond (eqb (get_or s i 0) 59) (Some (drop (i + 1) s)) (after_name (drop (i + 1) s))
unfolding after_name
name_at s i lt = at_drop_more after_name s i 0 lt

pub dimensions_at : (more : ℕ) (s : List ℕ) (i : ℕ) → i < length s → after_dimensions more (drop i s) ≡ cond (eqb (get_or s i 0) 91) (cond (eqb more 0) None (after_dimensions (more - 1) (drop (i + 1) s))) (after_element (get_or s i 0) (drop (i + 1) s))
unfolding after_dimensions
dimensions_at more s i lt = at_drop_more (after_dimensions more) s i 0 lt

pub some_left : (s : List ℕ) → false ≡ eqb (length s) 0 → 0 < length s
some_left s e = grind arith

pub none_left : (s : List ℕ) → true ≡ eqb (length s) 0 → length s ≡ 0
none_left s e = eqb-true _ _ (sym e)

pub not_end : (n : ℕ) → ¬ (n ≡ 41) → eqb n 41 ≡ false
not_end n h = grind arith

-- a type and the types behind it
abbrev pub with_types : ℕ → List ℕ × List ℕ → Option (List (List ℕ) × List ℕ)
with_types most t = option_map (λ more. (t.0 ∷ more.0, more.1)) (types_of most t.1)

pub types_front : (most a : ℕ) (more : List ℕ) → eqb a 41 ≡ false → length (a ∷ more) ≤ most → types_of most (a ∷ more) ≡ option_and_then (with_types (most - 1)) (first_type (a ∷ more))
unfolding types_of
types_front zero a more e le = absurd (omega arith)
types_front (suc most) a more e le = let k : suc most - 1 ≡ most = omega arith in rw (e, k) refl

pub types_end : (most a : ℕ) (more : List ℕ) → eqb a 41 ≡ true → types_of most (a ∷ more) ≡ Some ([], more)
unfolding types_of
types_end zero a more e = rw e refl
types_end (suc most) a more e = rw e refl

pub types_none : (most : ℕ) → types_of most [] ≡ None
unfolding types_of
types_none most = refl

-- the types that stand in `rest`, with what was found before them, are those of `s`
pub record Behind (s rest : List ℕ) (entries : ℕ) (floating : Bool) : Type 0 where
  pub most : ℕ
  pub enough : length rest ≤ most
  pub same : option_map (parameters_of entries floating) (types_of most rest) ≡ option_map (parameters_of 0 false) (types_of (length s) s)
  pub small : entries + 2 * length rest ≤ 2 * length s

pub or_assoc : (a b c : Bool) → (a || (b || c)) ≡ ((a || b) || c)
or_assoc true b c = refl
or_assoc false b c = refl

pub behind_end : (s rest : List ℕ) (entries : ℕ) (floating : Bool) → Behind s rest entries floating → 0 < length rest → get_or rest 0 0 ≡ 41 → Some (entries, floating, drop 1 rest) ≡ option_map (parameters_of 0 false) (types_of (length s) s)
behind_end s [] entries floating b some e = absurd (omega arith)
behind_end s (a ∷ rest) entries floating b some e =
    let is : eqb a 41 ≡ true = rw e refl in
    let here : option_map (parameters_of entries floating) (types_of b.most (a ∷ rest)) ≡ Some (entries, floating || false, rest) = rw (types_end b.most a rest is) refl in
    ap (λ (f : Bool). Some (entries, f, rest)) (sym (or-false floating)) ∙ (sym here ∙ b.same)

pub behind_empty : (s rest : List ℕ) (entries : ℕ) (floating : Bool) → Behind s rest entries floating → length rest ≡ 0 → None ≡ option_map (parameters_of 0 false) (types_of (length s) s)
behind_empty s [] entries floating b e = ap (option_map (parameters_of entries floating)) (sym (types_none b.most)) ∙ b.same
behind_empty s (a ∷ rest) entries floating b e = absurd (omega arith)

pub behind_none : (s rest : List ℕ) (entries : ℕ) (floating : Bool) → Behind s rest entries floating → 0 < length rest → eqb (get_or rest 0 0) 41 ≡ false → first_type rest ≡ None → None ≡ option_map (parameters_of 0 false) (types_of (length s) s)
behind_none s [] entries floating b some e h = absurd (omega arith)
behind_none s (a ∷ rest) entries floating b some e h =
    let here : types_of b.most (a ∷ rest) ≡ None = types_front b.most a rest e b.enough ∙ ap (option_and_then (with_types (b.most - 1))) h in
    ap (option_map (parameters_of entries floating)) (sym here) ∙ b.same

with_first : (entries : ℕ) (floating : Bool) (first : List ℕ) (o : Option (List (List ℕ) × List ℕ)) → option_map (parameters_of (entries + width_of first) (floating || is_floating first)) o ≡ option_map (parameters_of entries floating) (option_map (λ more. (first ∷ more.0, more.1)) o)
with_first entries floating first None = refl
with_first entries floating first (Some x) = ap (λ (f : Bool). Some (fold (λ n t. n + width_of t) (entries + width_of first) x.0, f, x.1)) (sym (or_assoc floating (is_floating first) (list_any is_floating x.0)))

pub width_small : (t : List ℕ) → width_of t ≤ 2
width_small [] = omega arith
width_small (a ∷ rest) = elim ((eqb a 68) || (eqb a 74)) as (λ b. cond b 2 1 ≤ 2) [ true ↦ omega arith | false ↦ omega arith ]

pub behind_more : (s rest : List ℕ) (entries : ℕ) (floating : Bool) (first after : List ℕ) → Behind s rest entries floating → 0 < length rest → eqb (get_or rest 0 0) 41 ≡ false → first_type rest ≡ Some (first, after) → length after < length rest → Behind s after (entries + width_of first) (floating || is_floating first)
behind_more s [] entries floating first after b some e h lt = absurd (omega arith)
behind_more s (a ∷ rest) entries floating first after b some e h lt =
    let here : types_of b.most (a ∷ rest) ≡ with_types (b.most - 1) (first, after) = types_front b.most a rest e b.enough ∙ ap (option_and_then (with_types (b.most - 1))) h in
    record {
      most = b.most - 1;
      enough = omega (arith, b.enough, lt);
      same = with_first entries floating first (types_of (b.most - 1) after) ∙ (ap (option_map (parameters_of entries floating)) (sym here) ∙ b.same);
      small = omega (arith, b.small, lt, width_small first);
    }
