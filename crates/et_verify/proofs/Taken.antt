-- What is taken of operands, and what the types after an instruction are made of.
use Rattle.std.proofs.Common.{◌≡◌, ℕ, ◌≤◌, Bool, true, false, leb, List, [], ◌∷◌, ◌++◌, length, Option, Some, None, refl, subst}
use Rattle.std.specs.Prelude.{if◌then◌else◌}
use Rattle.std.proofs.lemmas.Bool.{leb-true}
use Rattle.std.proofs.lemmas.Option.{none-some, same_Some}
use Rattle.et_class.specs.PoolOperands.Operand.{Operand}
use Rattle.et_class.specs.PoolOperands.Operand.TheVariants as operand
use Rattle.et_flow.specs.declared.types.EntryType.{EntryType}
use Rattle.et_flow.specs.declared.types.EntryType.TheVariants as entry
use Rattle.et_flow.specs.Types.{TypesOf, operand_entries}
use Rattle.et_verify.specs.Steps.{below_taken, fitted}

-- WHAT IS TAKEN, of types

-- the types are entries of an operand of the kind, and others
pub record Takes (kind : Operand) (kinds : List Operand) (types left : List EntryType) : Type 0 where
  pub rest : List EntryType
  pub types_are : types ≡ operand_entries kind ++ rest
  pub more : below_taken kinds rest ≡ Some left

pub takes : (kind : Operand) (kinds : List Operand) (types left : List EntryType) → below_taken (kind ∷ kinds) types ≡ Some left → Takes kind kinds types left
takes operand.Int kinds [] left e = absurd (none-some left e)
takes operand.Int kinds (entry.Free ∷ ts) left e = absurd (none-some left e)
takes operand.Int kinds (entry.Int ∷ ts) left e = record { rest = ts; types_are = refl; more = e }
takes operand.Int kinds (entry.Long ∷ ts) left e = absurd (none-some left e)
takes operand.Int kinds (entry.LongHigh ∷ ts) left e = absurd (none-some left e)
takes operand.Int kinds (entry.Reference ∷ ts) left e = absurd (none-some left e)
takes operand.Long kinds [] left e = absurd (none-some left e)
takes operand.Long kinds (entry.Free ∷ ts) left e = absurd (none-some left e)
takes operand.Long kinds (entry.Int ∷ ts) left e = absurd (none-some left e)
takes operand.Long kinds (entry.Long ∷ ts) left e = absurd (none-some left e)
takes operand.Long kinds (entry.LongHigh ∷ []) left e = absurd (none-some left e)
takes operand.Long kinds (entry.LongHigh ∷ entry.Free ∷ ts) left e = absurd (none-some left e)
takes operand.Long kinds (entry.LongHigh ∷ entry.Int ∷ ts) left e = absurd (none-some left e)
takes operand.Long kinds (entry.LongHigh ∷ entry.Long ∷ ts) left e = record { rest = ts; types_are = refl; more = e }
takes operand.Long kinds (entry.LongHigh ∷ entry.LongHigh ∷ ts) left e = absurd (none-some left e)
takes operand.Long kinds (entry.LongHigh ∷ entry.Reference ∷ ts) left e = absurd (none-some left e)
takes operand.Long kinds (entry.Reference ∷ ts) left e = absurd (none-some left e)
takes operand.Reference kinds [] left e = absurd (none-some left e)
takes operand.Reference kinds (entry.Free ∷ ts) left e = absurd (none-some left e)
takes operand.Reference kinds (entry.Int ∷ ts) left e = absurd (none-some left e)
takes operand.Reference kinds (entry.Long ∷ ts) left e = absurd (none-some left e)
takes operand.Reference kinds (entry.LongHigh ∷ ts) left e = absurd (none-some left e)
takes operand.Reference kinds (entry.Reference ∷ ts) left e = record { rest = ts; types_are = refl; more = e }

-- BOTH PARTS

pub record FitsAs (room : ℕ) (a b : Option (List EntryType)) (us : TypesOf) : Type 0 where
  pub operands : a ≡ Some us.operands
  pub locals : b ≡ Some us.locals
  pub few : length us.operands ≤ room

pub fits_as : (room : ℕ) (a b : Option (List EntryType)) (us : TypesOf) → fitted room a b ≡ Some us → FitsAs room a b us
fits_as room None b us e = absurd (none-some us e)
fits_as room (Some ops) None us e = absurd (none-some us e)
fits_as room (Some ops) (Some ls) us e = by (leb (length ops) room) refl e
  where
    by : (x : Bool) → leb (length ops) room ≡ x → (if x then Some (record { operands = ops; locals = ls }) else None) ≡ Some us → FitsAs room (Some ops) (Some ls) us
    by false q h = absurd (none-some us h)
    by true q h =
        let same : record { operands = ops; locals = ls } ≡ us = same_Some (record { operands = ops; locals = ls }) us h in
        let le : length ops ≤ room = leb-true (length ops) room q in
        subst (λ (x : TypesOf). FitsAs room (Some ops) (Some ls) x) same (record { operands = refl; locals = refl; few = le })
