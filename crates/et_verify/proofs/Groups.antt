-- Groups of operands: one value, or a long or two values.
use Rattle.std.proofs.Common.{◌≡◌, false, List, [], ◌∷◌, ◌&&◌, refl}
use Rattle.et_flow.specs.declared.types.EntryType.{EntryType}
use Rattle.et_flow.specs.declared.types.EntryType.TheVariants as entry
use Rattle.et_flow.specs.Types.{is_single}
use Rattle.et_verify.specs.Steps.{is_pair}

pub pair_alone : (t u : EntryType) → (t ≡ entry.LongHigh → u ≡ entry.Long → ⊥) → is_pair (t ∷ u ∷ []) ≡ (is_single t && is_single u)
pair_alone entry.Free u h = refl
pair_alone entry.Int u h = refl
pair_alone entry.Long u h = refl
pair_alone entry.LongHigh entry.Free h = refl
pair_alone entry.LongHigh entry.Int h = refl
pair_alone entry.LongHigh entry.Long h = absurd (h refl refl)
pair_alone entry.LongHigh entry.LongHigh h = refl
pair_alone entry.LongHigh entry.Reference h = refl
pair_alone entry.Reference u h = refl

pub pair_of : (t u : EntryType) (below : List EntryType) → is_pair (t ∷ u ∷ below) ≡ is_pair (t ∷ u ∷ [])
pair_of entry.Free u below = refl
pair_of entry.Int u below = refl
pair_of entry.Long u below = refl
pair_of entry.LongHigh entry.Free below = refl
pair_of entry.LongHigh entry.Int below = refl
pair_of entry.LongHigh entry.Long below = refl
pair_of entry.LongHigh entry.LongHigh below = refl
pair_of entry.LongHigh entry.Reference below = refl
pair_of entry.Reference u below = refl

pub no_pair : (t : EntryType) → is_pair (t ∷ []) ≡ false
no_pair entry.Free = refl
no_pair entry.Int = refl
no_pair entry.Long = refl
no_pair entry.LongHigh = refl
no_pair entry.Reference = refl
