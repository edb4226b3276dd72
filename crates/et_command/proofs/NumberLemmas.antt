-- Digits read from the left, and numbers one after another.
use Rattle.std.proofs.Common.{◌≡◌, ℕ, ◌+◌, ◌-◌, ◌*◌, ◌≤◌, ◌<◌, List, [], ◌∷◌, ◌++◌, length, drop, get_or, suc, refl, ◌∙◌, ap, add-one, arith}
use Rattle.std.proofs.Math.Seq.{drop-cons}
use denote.Ref.{Bor}
use Rattle.std.specs.List.{slice_split}
use Rattle.std.proofs.lemmas.List.Splits.{length-slice_split}
use Rattle.std.specs.Prelude.{◌==◌, fold, map, Option, option_map}
use Rattle.et_command.specs.Numbers.{number_within, spelled_number, each}

-- a number grows with each digit
abbrev pub onto : ℕ → List ℕ → ℕ
onto n digits = fold (λ m digit. m * 10 + (digit - 48)) n digits

pub onto-grows : (n : ℕ) (digits : List ℕ) → n ≤ onto n digits
onto-grows n [] = omega arith
onto-grows n (d ∷ digits) = let h : n * 10 + (d - 48) ≤ onto (n * 10 + (d - 48)) digits = onto-grows (n * 10 + (d - 48)) digits in omega arith

pub too_big : (n i high : ℕ) (digits : List ℕ) → i < length digits → onto n (drop i digits) ≡ spelled_number digits → high < n * 10 + (get_or digits i 0 - 48) → high < spelled_number digits
too_big n i high digits lt e h =
    let grows : n * 10 + (get_or digits i 0 - 48) ≤ onto (n * 10 + (get_or digits i 0 - 48)) (drop (suc i) digits) = onto-grows (n * 10 + (get_or digits i 0 - 48)) (drop (suc i) digits) in
    let same : onto n (drop i digits) ≡ onto (n * 10 + (get_or digits i 0 - 48)) (drop (suc i) digits) = ap (onto n) (drop-cons digits i 0 lt) in
    omega arith

-- numbers behind those that were read
abbrev pub behind : List ℕ → Option (List ℕ) → Option (List ℕ)
behind words rest = option_map (λ ns. words ++ ns) rest

pub each_next : {X : Type 0} (f : X → Option ℕ) (xs : List X) (i : ℕ) (d : X) → i < length xs → each (map f (drop i xs)) ≡ each (f (get_or xs i d) ∷ map f (drop (i + 1) xs))
each_next f xs i d lt = rw add-one (ap (λ ys. each (map f ys)) (drop-cons xs i d lt))

-- what some texts spell, and what the references to them do
pub shown : (xs : List (Bor (List ℕ))) (texts : List (List ℕ)) → map (λ piece. piece.now) xs ≡ texts → map (λ piece. number_within 0 63 piece.now) xs ≡ map (number_within 0 63) texts
shown xs texts e = map_shown xs ∙ ap (map (number_within 0 63)) e
  where
    map_shown : (ys : List (Bor (List ℕ))) → map (λ piece. number_within 0 63 piece.now) ys ≡ map (number_within 0 63) (map (λ piece. piece.now) ys)
    map_shown [] = refl
    map_shown (y ∷ ys) = ap (λ zs. number_within 0 63 y.now ∷ zs) (map_shown ys)

pub shown_length : (xs : List (Bor (List ℕ))) (texts : List (List ℕ)) → map (λ piece. piece.now) xs ≡ texts → length xs ≡ length texts
shown_length xs texts e = count xs ∙ ap length e
  where
    count : (ys : List (Bor (List ℕ))) → length ys ≡ length (map (λ piece. piece.now) ys)
    count [] = refl
    count (y ∷ ys) = ap suc (count ys)

-- a text has a piece
pub some_pieces : (text : List ℕ) → 1 ≤ length (slice_split (λ byte. byte == 44) text)
some_pieces text = omega (arith, length-slice_split (λ byte. byte == 44) text)
