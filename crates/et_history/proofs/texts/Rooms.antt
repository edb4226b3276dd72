-- What a method of texts answers has room where its descriptor says that it returns it.
use Rattle.std.proofs.Common.{◌≡◌, ℕ, ◌≤◌, ◌&&◌, Bool, true, false, List, [], ◌∷◌, Some, None, refl, subst}
use Rattle.std.specs.Prelude.{nat_le, find, if◌then◌else◌, option_map}
use Rattle.std.specs.List.{list_all}
use Rattle.std.specs.Str.{bytes_eq}
use Rattle.std.proofs.lemmas.Bool.{and_parts, leb-true}
use Rattle.std.proofs.lemmas.Slice.Eq.{bytes_eq-Decides}
use Rattle.std.proofs.lemmas.Option.{none-some, same_Some}
use Rattle.et_boot.specs.TextMethods.{is_text_method, text_methods}
use Rattle.et_class.specs.Descriptors.{types_of, after_dimensions, after_name}
use Rattle.et_program.specs.BootTexts.TextMethod.{TextMethod}
use Rattle.et_program.specs.BootTexts.TextMethod.TheVariants.{Length, CharAt, Equals, Begin, BeginWith, ToString, Append, Print, PrintLine, EndLine}
use Rattle.et_program.specs.BuiltIns.{text_method_in, text_method_of}
use Rattle.et_program.specs.Entries.{Linked, class_at, method_at}
use Rattle.et_program.specs.declared.info.MethodInfo.{MethodInfo}
use Rattle.et_event.specs.Operands.{returned_width}
use Rattle.et_event.specs.Sound.{returned_of}

-- how many entries it answers
abbrev pub text_entries : TextMethod → ℕ
text_entries Length = 1
text_entries CharAt = 1
text_entries Equals = 1
text_entries Begin = 0
text_entries BeginWith = 0
text_entries ToString = 1
text_entries (Append kind) = 1
text_entries (Print kind) = 0
text_entries (PrintLine kind) = 0
text_entries EndLine = 0

abbrev TextRow : Type 0
TextRow = List ℕ × List ℕ × List ℕ × TextMethod

abbrev with_descriptor : List ℕ → MethodInfo
with_descriptor descriptor = record { class = 0; name = []; descriptor = descriptor; flags = 0; code = None; deferred = false }

abbrev width_of : List ℕ → ℕ
width_of descriptor = returned_width (returned_of (with_descriptor descriptor))

abbrev has_room : TextRow → Bool
has_room row = nat_le (text_entries row.3) (width_of row.2)

all_have_room : list_all has_room text_methods ≡ true
unfolding types_of after_dimensions after_name
all_have_room = refl

module _ (class name descriptor : List ℕ) (m : TextMethod) where
  room_by : (rows : List TextRow) → list_all has_room rows ≡ true → option_map (λ (row : TextRow). row.3) (find (is_text_method class name descriptor) rows) ≡ Some m → text_entries m ≤ width_of descriptor
  room_by [] all e = absurd (none-some m e)
  room_by (row ∷ rows) all e = by (is_text_method class name descriptor row) refl e (room_by rows parts.1)
    where
      parts : (has_room row ≡ true) × (list_all has_room rows ≡ true)
      parts = and_parts (has_room row) (list_all has_room rows) all

      by : (x : Bool) → is_text_method class name descriptor row ≡ x → option_map (λ (r : TextRow). r.3) (if x then Some row else find (is_text_method class name descriptor) rows) ≡ Some m
          → (option_map (λ (r : TextRow). r.3) (find (is_text_method class name descriptor) rows) ≡ Some m → text_entries m ≤ width_of descriptor) → text_entries m ≤ width_of descriptor
      by true is q more =
          let type : row.2 ≡ descriptor = (bytes_eq-Decides row.2 descriptor).0 (and_parts (bytes_eq row.0 class && bytes_eq row.1 name) (bytes_eq row.2 descriptor) is).1 in
          let few : text_entries row.3 ≤ width_of row.2 = leb-true (text_entries row.3) (width_of row.2) parts.0 in
          subst (λ (k : TextMethod). text_entries k ≤ width_of descriptor) (same_Some row.3 m q) (subst (λ (d : List ℕ). text_entries row.3 ≤ width_of d) type few)
      by false is q more = more q

pub text_fits : (p : Linked) (k : ℕ) (m : TextMethod) → text_method_of p k ≡ Some m → text_entries m ≤ returned_width (returned_of (method_at p k))
unfolding text_method_in
text_fits p k m e = room_by (class_at p (method_at p k).class).info.name (method_at p k).name (method_at p k).descriptor m text_methods all_have_room e
