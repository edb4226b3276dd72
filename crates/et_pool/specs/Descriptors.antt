-- Descriptors (JVMS 4.3), and the names of classes in a pool.
use Rattle.std.specs.Prelude.{ℕ, zero, suc, ◌+◌, ◌-◌, List, [], ◌∷◌, length, take, find, take_while, sum_by, fold, Bool, false, not, ◌==◌, ◌&&◌, ◌||◌, if◌then◌else◌, Option, Some, None, option_map, option_and_then, is_some}
use Rattle.std.specs.List.{list_any}
use Rattle.et_pool.specs.declared.descriptor.MethodShape.{MethodShape}

-- the base types B C D F I J S Z (4.3.2)
abbrev pub is_base : ℕ → Bool
is_base a = (a == 66) || (a == 67) || (a == 68) || (a == 70) || (a == 73) || (a == 74) || (a == 83) || (a == 90)

-- what stands behind the first `;`
unfoldable pub after_name : List ℕ → Option (List ℕ)
after_name [] = None
after_name (a ∷ rest) = if a == 59 then Some rest else after_name rest

-- what stands behind the name of a class and its `;`: the name has one byte or more
abbrev pub after_class : List ℕ → Option (List ℕ)
after_class [] = None
after_class (a ∷ rest) = if a == 59 then None else after_name rest

-- what stands behind a base type, or behind `L` and the name of a class
abbrev pub after_element : ℕ → List ℕ → Option (List ℕ)
after_element a rest = if a == 76 then after_class rest else (if is_base a then Some rest else None)

-- what stands behind a field descriptor with at most that many `[`
unfoldable pub after_dimensions : ℕ → List ℕ → Option (List ℕ)
after_dimensions more [] = None
after_dimensions more (a ∷ rest) = if a == 91 then (if more == 0 then None else after_dimensions (more - 1) rest) else after_element a rest

-- what stands behind the field descriptor at the front; an array has at most 255 dimensions (4.3.2)
abbrev pub after_type : List ℕ → Option (List ℕ)
after_type s = after_dimensions 255 s

abbrev pub is_text_end : Option (List ℕ) → Bool
is_text_end None = false
is_text_end (Some rest) = length rest == 0

-- a field descriptor, and nothing behind it
abbrev pub is_field_descriptor : List ℕ → Bool
is_field_descriptor s = is_text_end (after_type s)

-- the field descriptor at the front, and what stands behind it
abbrev pub first_type : List ℕ → Option (List ℕ × List ℕ)
first_type s = option_map (λ rest. (take (length s - length rest) s, rest)) (after_type s)

-- the field descriptors at the front, at most that many, up to `)`, and what stands behind it
unfoldable pub types_of : ℕ → List ℕ → Option (List (List ℕ) × List ℕ)
types_of most [] = None
types_of zero (a ∷ rest) = if a == 41 then Some ([], rest) else None
types_of (suc most) (a ∷ rest) =
    if a == 41 then Some ([], rest)
    else option_and_then (λ t. option_map (λ more. (t.0 ∷ more.0, more.1)) (types_of most t.1)) (first_type (a ∷ rest))

-- a method descriptor in its parts (4.3.3): the types of the parameters in order, and what is returned
pub record MethodType : Type 0 where
  pub parameters : List (List ℕ)
  pub returned : List ℕ

abbrev pub is_void : List ℕ → Bool
is_void [] = false
is_void (a ∷ rest) = (a == 86) && (length rest == 0)

-- what a method returns: V, or a type
abbrev pub is_return : List ℕ → Bool
is_return s = is_void s || is_field_descriptor s

abbrev pub returning : List (List ℕ) × List ℕ → Option MethodType
returning x = if is_return x.1 then Some (record { parameters = x.0; returned = x.1 }) else None

-- the parts of a method descriptor: `(`, types, `)`, and what is returned
abbrev pub method_type : List ℕ → Option MethodType
method_type [] = None
method_type (a ∷ rest) = if a == 40 then option_and_then returning (types_of (length rest) rest) else None

abbrev pub is_method_descriptor : List ℕ → Bool
is_method_descriptor s = is_some (method_type s)

-- the byte behind the dimensions of a type
abbrev pub element_descriptor : List ℕ → Option ℕ
element_descriptor s = find (λ a. not (a == 91)) s

abbrev pub is_float_or_double : Option ℕ → Bool
is_float_or_double None = false
is_float_or_double (Some a) = (a == 68) || (a == 70)

-- D or F, or an array over one of them
abbrev pub is_floating : List ℕ → Bool
is_floating s = is_float_or_double (element_descriptor s)

abbrev pub is_array : List ℕ → Bool
is_array [] = false
is_array (a ∷ rest) = a == 91

-- the name of an array class over D or F
abbrev pub is_floating_array : List ℕ → Bool
is_floating_array s = is_array s && is_floating s

-- how many dimensions a type has
abbrev pub dimensions : List ℕ → ℕ
dimensions s = length (take_while (λ a. a == 91) s)

-- how many entries a value of the type takes: two for D and J (2.6.1)
abbrev pub width_of : List ℕ → ℕ
width_of [] = 1
width_of (a ∷ rest) = if (a == 68) || (a == 74) then 2 else 1

-- what the rules on methods ask of a descriptor
abbrev pub shape_of_method : MethodType → MethodShape
shape_of_method m = record {
  entries = sum_by width_of m.parameters;
  floating = list_any is_floating m.parameters || is_floating m.returned;
  void = is_void m.returned;
}

-- the entries of the types before `)`, whether one of them is floating, and what stands behind, added to a beginning
abbrev pub parameters_of : ℕ → Bool → List (List ℕ) × List ℕ → ℕ × Bool × List ℕ
parameters_of entries floating x = (fold (λ n t. n + width_of t) entries x.0, floating || list_any is_floating x.0, x.1)

-- what a Class entry may name: anything but nothing, and behind a `[` an array type (4.4.1)
abbrev pub is_class_name : List ℕ → Bool
is_class_name [] = false
is_class_name (a ∷ rest) = not (a == 91) || is_field_descriptor (a ∷ rest)
