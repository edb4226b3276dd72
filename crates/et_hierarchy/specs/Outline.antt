-- What linking reads of a set of classes, each named by its place in the set.
use Rattle.std.specs.Prelude.{ℕ, Bool, false, List, [], Option, None}
use Rattle.std.specs.List.{slice_index_or, position_from}
use Rattle.std.specs.Str.{bytes_eq}

pub record Outline : Type 0 where
  pub name : List ℕ
  pub super_name : Option (List ℕ)
  pub interfaces : List (List ℕ)
  pub is_interface : Bool
  pub is_final : Bool

abbrev pub no_outline : Outline
no_outline = record { name = []; super_name = None; interfaces = []; is_interface = false; is_final = false }

abbrev pub outline_at : List Outline → ℕ → Outline
outline_at set k = slice_index_or set k no_outline

-- the place of the class of this name
abbrev pub class_place : List Outline → List ℕ → Option ℕ
class_place set name = position_from (λ (c : Outline). bytes_eq name c.name) 0 set
