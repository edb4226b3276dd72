-- What a built-in method answers has room where its descriptor says that it returns it.
use Rattle.std.proofs.Common.{◌≡◌, ℕ, ◌≤◌, Bool, true, false, List, [], ◌∷◌, Option, Some, None, refl, subst}
use Rattle.std.specs.Prelude.{nat_le, find, if◌then◌else◌, option_map}
use Rattle.std.specs.List.{list_all}
use Rattle.std.specs.Str.{bytes_eq}
use Rattle.std.proofs.lemmas.Bool.{and_parts, leb-true}
use Rattle.std.proofs.lemmas.Slice.Eq.{bytes_eq-Decides}
use Rattle.std.proofs.lemmas.Option.{same_Some}
use Rattle.et_class.specs.Descriptors.{types_of, after_dimensions, after_name}
use Rattle.et_class.specs.Names.{has}
use Rattle.et_class.specs.declared.flags.TheConstants.{ABSTRACT}
use Rattle.et_program.specs.declared.info.MethodInfo.{MethodInfo}
use Rattle.et_program.specs.BootMethods.BuiltIn.{BuiltIn}
use Rattle.et_program.specs.BuiltIns.{built_in_of}
use Rattle.et_program.specs.BootTable.{built_ins, is_called}
use Rattle.et_event.specs.BuiltIns.{entries_answered}
use Rattle.et_event.specs.Operands.{returned_width}
use Rattle.et_event.specs.Sound.{returned_of}

abbrev with_descriptor : List ℕ → MethodInfo
with_descriptor descriptor = record { class = 0; name = []; descriptor = descriptor; flags = 0; code = None; deferred = false }

abbrev has_room : List ℕ × List ℕ × BuiltIn → Bool
has_room row = nat_le (entries_answered row.2) (returned_width (returned_of (with_descriptor row.1)))

all_have_room : list_all has_room built_ins ≡ true
unfolding types_of after_dimensions after_name
all_have_room = refl

pub none_some : (b : BuiltIn) (o : Option BuiltIn) → o ≡ None → o ≡ Some b → ⊥
none_some b o x y = cc

room_by : (m : MethodInfo) (b : BuiltIn) (rows : List (List ℕ × List ℕ × BuiltIn)) → list_all has_room rows ≡ true → option_map (λ (row : List ℕ × List ℕ × BuiltIn). row.2) (find (is_called m.name m.descriptor) rows) ≡ Some b → entries_answered b ≤ returned_width (returned_of m)
room_by m b [] all e = absurd (none_some b None refl e)
room_by m b (row ∷ rows) all e = by (is_called m.name m.descriptor row) refl e (room_by m b rows parts.1)
  where
    parts : (has_room row ≡ true) × (list_all has_room rows ≡ true)
    parts = and_parts (has_room row) (list_all has_room rows) all

    by : (x : Bool) → is_called m.name m.descriptor row ≡ x → option_map (λ (r : List ℕ × List ℕ × BuiltIn). r.2) (if x then Some row else find (is_called m.name m.descriptor) rows) ≡ Some b
        → (option_map (λ (r : List ℕ × List ℕ × BuiltIn). r.2) (find (is_called m.name m.descriptor) rows) ≡ Some b → entries_answered b ≤ returned_width (returned_of m)) → entries_answered b ≤ returned_width (returned_of m)
    by true is q more =
        let type : row.1 ≡ m.descriptor = (bytes_eq-Decides row.1 m.descriptor).0 (and_parts (bytes_eq row.0 m.name) (bytes_eq row.1 m.descriptor) is).1 in
        let few : entries_answered row.2 ≤ returned_width (returned_of (with_descriptor row.1)) = leb-true (entries_answered row.2) (returned_width (returned_of (with_descriptor row.1))) parts.0 in
        let same : row.2 ≡ b = same_Some row.2 b q in
        subst (λ (k : BuiltIn). entries_answered k ≤ returned_width (returned_of m)) same (subst (λ (d : List ℕ). entries_answered row.2 ≤ returned_width (returned_of (with_descriptor d))) type few)
    by false is q more = more q

pub answers_fit : (m : MethodInfo) (b : BuiltIn) → built_in_of m ≡ Some b → entries_answered b ≤ returned_width (returned_of m)
answers_fit m b e = by (has m.flags ABSTRACT) e
  where
    by : (x : Bool) → (if x then None else option_map (λ (row : List ℕ × List ℕ × BuiltIn). row.2) (find (is_called m.name m.descriptor) built_ins)) ≡ Some b → entries_answered b ≤ returned_width (returned_of m)
    by true q = absurd (none_some b None refl q)
    by false q = room_by m b built_ins all_have_room q
