-- How the code of a method is kept while its class is read: it is there where it keeps the rules that it decides itself.
use Rattle.std.specs.Prelude.{ℕ, ◌+◌, List, [], map, Bool, not, is_none, ◌&&◌, if◌then◌else◌, Option, Some, None, option_and_then, Result, Ok, Err}
use Rattle.std.specs.List.{find}
use Rattle.std.specs.Int.{w16}
use Rattle.et_base.specs.Numbers.{number_at}
use Rattle.et_base.specs.Marks.{first_from}
use Rattle.et_pool.specs.Entries.{Item}
use Rattle.et_pool.specs.Looks.{tag_of_slot}
use Rattle.et_code.specs.Bodies.{Body}
use Rattle.et_code.specs.Rules.{code_marks}
use Rattle.et_class.specs.Layout.{AttributeOf, MemberOf, attribute_bytes}
use Rattle.et_class.specs.Reading.{many_at, attribute_at}
use Rattle.et_class.specs.Along.{along}
use Rattle.et_class.specs.Fields.{attribute_marks}
use Rattle.et_class.specs.Codes.{CodeOf, code_at}
use Rattle.et_class.specs.Methods.{is_code}

abbrev pub kept_body : List (Option Item) → Body → Option Body
kept_body slots b = if is_none (first_from None (code_marks b (map tag_of_slot slots))) then Some b else None

abbrev pub kept_attribute : List (Option Item) → Result CodeOf (ℕ × ℕ) → Option Body
kept_attribute slots (Ok c) = kept_body slots c.body
kept_attribute slots (Err f) = None

abbrev pub kept_in : List (Option Item) → Bool → AttributeOf → Option Body
kept_in slots seen a = if is_code slots a && not seen then kept_attribute slots (code_at a.body) else None

abbrev pub kept_among : List (Option Item) → List AttributeOf → Option Body
kept_among slots attributes = option_and_then (λ a. kept_attribute slots (code_at a.body)) (find (is_code slots) attributes)

abbrev pub kept_code : List (Option Item) → MemberOf → Option Body
kept_code slots m = kept_among slots m.attributes

-- ATTRIBUTES OF AN ATTRIBUTE, of which only the names are looked at

abbrev pub name_and_next : Result (AttributeOf × ℕ) (ℕ × ℕ) → Option (ℕ × ℕ)
name_and_next (Ok x) = Some (x.0.name, x.1)
name_and_next (Err f) = None

-- the place after attributes that were read, and the first broken rule behind those on their names
abbrev pub inner_of : List (Option Item) → Option (ℕ × ℕ) → ℕ → Result (List AttributeOf × ℕ) (ℕ × ℕ) → Option (ℕ × Option (ℕ × ℕ))
inner_of slots first place (Ok x) = Some (x.1, first_from first (along attribute_bytes (attribute_marks slots) [] place x.0))
inner_of slots first place (Err f) = None

-- as many of them in a body that begins at `place`
abbrev pub inner_from : List (Option Item) → Option (ℕ × ℕ) → ℕ → List ℕ → ℕ → ℕ → Option (ℕ × Option (ℕ × ℕ))
inner_from slots first place bytes count at = inner_of slots first (place + at) (many_at (attribute_at bytes) count at)

-- those whose count stands at a place of the body
abbrev pub inner_at : List (Option Item) → Option (ℕ × ℕ) → ℕ → List ℕ → ℕ → Option (ℕ × Option (ℕ × ℕ))
inner_at slots first place bytes at = option_and_then (λ count. inner_from slots first place bytes count.0 count.1) (number_at w16 bytes at)
