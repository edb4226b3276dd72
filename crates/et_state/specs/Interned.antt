-- The strings of constants, each with its object, in the order in which they were made (JVMS 5.1).
use Rattle.std.specs.Prelude.{ℕ, ◌==◌, List, Option, map, find}
use Rattle.std.specs.Option.{option_map}
use Rattle.std.specs.Map.{lookup}
use Rattle.std.specs.Str.{bytes_eq}

-- the object of these bytes
abbrev pub object_of : List (List ℕ × ℕ) → List ℕ → Option ℕ
object_of strings text = lookup (bytes_eq text) strings

-- the bytes of this object
abbrev pub interned_text : List (List ℕ × ℕ) → ℕ → Option (List ℕ)
interned_text strings o = option_map (λ p. p.0) (find (λ p. o == p.1) strings)

abbrev pub interned_objects : List (List ℕ × ℕ) → List ℕ
interned_objects strings = map (λ p. p.1) strings
