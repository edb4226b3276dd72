-- What a method of texts answers has room where its descriptor says that it returns it.
use Rattle.std.proofs.Common.{◌≡◌, ℕ, ◌≤◌, Bool, true, false, List, [], ◌∷◌, Some, None, refl, subst}
use Rattle.std.specs.Prelude.{nat_le, find, ◌&&◌, if◌then◌else◌, option_map}
use Rattle.std.specs.List.{list_all}
use Rattle.std.specs.Str.{bytes_eq}
use Rattle.std.proofs.lemmas.Bool.{and_parts, leb-true}
use Rattle.std.proofs.lemmas.Slice.Eq.{bytes_eq-Decides}
use Rattle.std.proofs.lemmas.Option.{same_Some, none-some}
use Rattle.et_class.specs.Descriptors.{types_of, after_dimensions, after_name}
use Rattle.et_class.specs.Operands.{returned_width}
use Rattle.et_event.specs.Sound.{returned_of}
use Rattle.et_program.specs.BootTexts.TextMethod.{TextMethod}
use Rattle.et_program.specs.BuiltIns.{text_method_in, text_method_of}
use Rattle.et_program.specs.Entries.{Linked, class_at, method_at}
use Rattle.et_program.specs.declared.info.MethodInfo.{MethodInfo}
use Rattle.et_boot.specs.TextMethods.{text_methods, is_text_method}
use Rattle.et_strings.specs.Calls.{entries_given}

abbrev Line : Type 0
Line = List ℕ × List ℕ × List ℕ × TextMethod

abbrev with_descriptor : List ℕ → MethodInfo
with_descriptor descriptor = record { class = 0; name = []; descriptor = descriptor; flags = 0; code = None; deferred = false }

abbrev has_room : Line → Bool
has_room row = nat_le (entries_given row.3) (returned_width (returned_of (with_descriptor row.2)))

all_have_room : list_all has_room text_methods ≡ true
unfolding types_of after_dimensions after_name
all_have_room = refl

room_by : (class name descriptor : List ℕ) (t : TextMethod) (rows : List Line) → list_all has_room rows ≡ true → option_map (λ (row : Line). row.3) (find (is_text_method class name descriptor) rows) ≡ Some t
    → entries_given t ≤ returned_width (returned_of (with_descriptor descriptor))
room_by class name descriptor t [] all e = absurd (none-some t e)
room_by class name descriptor t (row ∷ rows) all e = by (is_text_method class name descriptor row) refl e (room_by class name descriptor t rows parts.1)
  where
    parts : (has_room row ≡ true) × (list_all has_room rows ≡ true)
    parts = and_parts (has_room row) (list_all has_room rows) all

    by : (x : Bool) → is_text_method class name descriptor row ≡ x → option_map (λ (r : Line). r.3) (if x then Some row else find (is_text_method class name descriptor) rows) ≡ Some t
        → (option_map (λ (r : Line). r.3) (find (is_text_method class name descriptor) rows) ≡ Some t → entries_given t ≤ returned_width (returned_of (with_descriptor descriptor))) → entries_given t ≤ returned_width (returned_of (with_descriptor descriptor))
    by true is q more =
        let type : row.2 ≡ descriptor = (bytes_eq-Decides row.2 descriptor).0 (and_parts (bytes_eq row.0 class && bytes_eq row.1 name) (bytes_eq row.2 descriptor) is).1 in
        let few : entries_given row.3 ≤ returned_width (returned_of (with_descriptor row.2)) = leb-true (entries_given row.3) (returned_width (returned_of (with_descriptor row.2))) parts.0 in
        subst (λ (k : TextMethod). entries_given k ≤ returned_width (returned_of (with_descriptor descriptor))) (same_Some row.3 t q)
        (subst (λ (d : List ℕ). entries_given row.3 ≤ returned_width (returned_of (with_descriptor d))) type few)
    by false is q more = more q

pub texts_fit : (p : Linked) (m : ℕ) (t : TextMethod) → text_method_of p m ≡ Some t → entries_given t ≤ returned_width (returned_of (method_at p m))
unfolding text_method_in
texts_fit p m t e = room_by (class_at p (method_at p m).class).info.name (method_at p m).name (method_at p m).descriptor t text_methods all_have_room e
