-- What a call reads off a descriptor, from left to right.
use Rattle.std.proofs.Common.{◌≡◌, ℕ, ◌+◌, ◌-◌, ◌<◌, ◌≤◌, ◌*◌, true, false, eqb, List, [], ◌∷◌, ◌++◌, length, get_or, drop, map, Option, Some, None, refl, sym, ap, ◌∙◌, arith, append_assoc}
use Rattle.std.specs.Prelude.{option_map, option_and_then, sum_by}
use Rattle.std.proofs.lemmas.List.{map-append, append-nil}
use Rattle.std.proofs.lemmas.List.Sums.{sum_by_push}
use Rattle.et_pool.specs.declared.operand.Operand.{Operand}
use Rattle.et_pool.specs.Descriptors.{first_type, types_of, width_of}
use Rattle.et_pool.specs.Operands.{operand_kind, parameter_shapes}
use Rattle.et_pool.proofs.Types.{with_types, types_front, types_end, types_none, width_small}

-- more types behind some
abbrev pub behind : List (List ℕ) → List (List ℕ) × List ℕ → List (List ℕ) × List ℕ
behind types x = (types ++ x.0, x.1)

-- the types that stand in `rest`, behind these, are those of `s`
pub record Walked (s rest : List ℕ) (kinds : List (Option Operand)) (entries : ℕ) : Type 0 where
  pub most : ℕ
  pub enough : length rest ≤ most
  pub types : List (List ℕ)
  pub same : option_map (behind types) (types_of most rest) ≡ types_of (length s) s
  pub kinds_are : kinds ≡ map operand_kind types
  pub entries_are : entries ≡ sum_by width_of types
  pub small : entries + 2 * length rest ≤ 2 * length s

same_types : (s : List ℕ) (types : List (List ℕ)) (o r : Option (List (List ℕ) × List ℕ)) → option_map (behind types) o ≡ types_of (length s) s → o ≡ r → types_of (length s) s ≡ option_map (behind types) r
same_types s types o r same e = sym same ∙ ap (option_map (behind types)) e

pub walked_end : (s rest : List ℕ) (kinds : List (Option Operand)) (entries : ℕ) → Walked s rest kinds entries → 0 < length rest → get_or rest 0 0 ≡ 41 → Some (kinds, entries, drop 1 rest) ≡ option_map parameter_shapes (types_of (length s) s)
walked_end s [] kinds entries w some e = absurd (omega arith)
walked_end s (a ∷ rest) kinds entries w some e =
    let is : eqb a 41 ≡ true = rw e refl in
    let all : types_of (length s) s ≡ Some (w.types ++ [], rest) = same_types s w.types (types_of w.most (a ∷ rest)) (Some ([], rest)) w.same (types_end w.most a rest is) in
    let here : types_of (length s) s ≡ Some (w.types, rest) = all ∙ ap (λ (t : List (List ℕ)). Some (t, rest)) (append-nil w.types) in
    rw (here, w.kinds_are, w.entries_are) refl

pub walked_empty : (s rest : List ℕ) (kinds : List (Option Operand)) (entries : ℕ) → Walked s rest kinds entries → length rest ≡ 0 → None ≡ option_map parameter_shapes (types_of (length s) s)
walked_empty s [] kinds entries w e = ap (option_map parameter_shapes) (sym (same_types s w.types (types_of w.most []) None w.same (types_none w.most)))
walked_empty s (a ∷ rest) kinds entries w e = absurd (omega arith)

pub walked_none : (s rest : List ℕ) (kinds : List (Option Operand)) (entries : ℕ) → Walked s rest kinds entries → 0 < length rest → eqb (get_or rest 0 0) 41 ≡ false → first_type rest ≡ None → None ≡ option_map parameter_shapes (types_of (length s) s)
walked_none s [] kinds entries w some e h = absurd (omega arith)
walked_none s (a ∷ rest) kinds entries w some e h =
    let here : types_of w.most (a ∷ rest) ≡ None = types_front w.most a rest e w.enough ∙ ap (option_and_then (with_types (w.most - 1))) h in
    ap (option_map parameter_shapes) (sym (same_types s w.types (types_of w.most (a ∷ rest)) None w.same here))

behind_one : (types : List (List ℕ)) (first : List ℕ) (o : Option (List (List ℕ) × List ℕ)) → option_map (behind (types ++ first ∷ [])) o ≡ option_map (behind types) (option_map (λ more. (first ∷ more.0, more.1)) o)
behind_one types first None = refl
behind_one types first (Some x) = ap (λ (t : List (List ℕ)). Some (t, x.1)) (append_assoc types (first ∷ []) x.0)

pub walked_more : (s rest : List ℕ) (kinds : List (Option Operand)) (entries : ℕ) (first after : List ℕ) → Walked s rest kinds entries → 0 < length rest → eqb (get_or rest 0 0) 41 ≡ false → first_type rest ≡ Some (first, after) → length after < length rest → Walked s after (kinds ++ operand_kind first ∷ []) (entries + width_of first)
walked_more s [] kinds entries first after w some e h lt = absurd (omega arith)
walked_more s (a ∷ rest) kinds entries first after w some e h lt =
    let here : types_of w.most (a ∷ rest) ≡ with_types (w.most - 1) (first, after) = types_front w.most a rest e w.enough ∙ ap (option_and_then (with_types (w.most - 1))) h in
    record {
      most = w.most - 1;
      enough = omega (arith, w.enough, lt);
      types = w.types ++ first ∷ [];
      same = behind_one w.types first (types_of (w.most - 1) after) ∙ (ap (option_map (behind w.types)) (sym here) ∙ w.same);
      kinds_are = ap (λ (k : List (Option Operand)). k ++ operand_kind first ∷ []) w.kinds_are ∙ sym (map-append operand_kind w.types (first ∷ []));
      entries_are = ap (λ (n : ℕ). n + width_of first) w.entries_are ∙ sym (sum_by_push width_of w.types first);
      small = omega (arith, w.small, lt, width_small first);
    }
