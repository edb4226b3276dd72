-- GROUPS OF OPERANDS, as the instructions of the operand stack move them (JVMS 2.11.6).
use Rattle.std.specs.Prelude.{◌≡◌, ◌&&◌, Bool, true, List, [], ◌∷◌, drop}
use Rattle.et_event.specs.declared.rows.Rearrangement.{Rearrangement}
use Rattle.et_event.specs.declared.rows.Rearrangement.TheVariants as stack
use Rattle.et_flow.specs.declared.types.EntryType.{EntryType}
use Rattle.et_verify.specs.declared.stack.Group.{Group}
use Rattle.et_verify.specs.declared.stack.Group.TheVariants as group
use Rattle.et_verify.specs.declared.stack.Width.{Width}
use Rattle.et_verify.specs.declared.stack.Width.TheVariants as width
use Rattle.et_verify.specs.Steps.{is_one, is_pair}

abbrev pub entries_of : Group → List EntryType
entries_of (group.One t) = t ∷ []
entries_of (group.Two t u) = t ∷ u ∷ []

abbrev pub width_of : Group → Width
width_of (group.One t) = width.One
width_of (group.Two t u) = width.Two

-- a group of this width stands on top
abbrev pub is_group : Width → List EntryType → Bool
is_group width.One ops = is_one ops
is_group width.Two ops = is_pair ops

abbrev pub below_group : Width → List EntryType → List EntryType
below_group width.One ops = drop 1 ops
below_group width.Two ops = drop 2 ops

-- .. and one of that width under it
abbrev pub are_groups : Width → Width → List EntryType → Bool
are_groups upper lower ops = is_group upper ops && is_group lower (below_group upper ops)

-- this group of this width stands on top
pub record IsGroup (w : Width) (g : Group) (ops : List EntryType) : Type 0 where
  pub width_is : width_of g ≡ w
  pub whole : is_group w ops ≡ true

-- a copy of a group of this width is put on top
abbrev pub doubling : Width → Rearrangement
doubling width.One = stack.Dup
doubling width.Two = stack.Dup2

-- .. or below the group under it, of that width
abbrev pub inserting : Width → Width → Rearrangement
inserting width.One width.One = stack.DupX1
inserting width.One width.Two = stack.DupX2
inserting width.Two width.One = stack.Dup2X1
inserting width.Two width.Two = stack.Dup2X2
