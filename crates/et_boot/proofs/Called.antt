-- The table of built-in methods in the code is that of the definition.
use Rattle.std.proofs.Common.{◌≡◌, ℕ, Bool, true, false, List, [], ◌∷◌, map, Option, Some, refl, ◌∙◌, ap}
use Rattle.std.specs.Prelude.{find, option_map, if◌then◌else◌}
use Rattle.et_boot.specs.BuiltIns.{is_called, built_ins, built_in_called}
use Rattle.et_boot.specs.declared.built_ins.BuiltIn.{BuiltIn}
use Rattle.et_boot.specs.declared.built_ins.BuiltInRow.{BuiltInRow}
use Rattle.et_boot.specs.Shown.{shown_row}

abbrev row_is : List ℕ → List ℕ → BuiltInRow → Bool
row_is name descriptor row = is_called name descriptor (shown_row row)

abbrev built_in_at : Option BuiltInRow → Option BuiltIn
built_in_at row = option_map (λ (r : BuiltInRow). r.built_in) row

abbrev built_in_in : Option (List ℕ × List ℕ × BuiltIn) → Option BuiltIn
built_in_in row = option_map (λ (r : List ℕ × List ℕ × BuiltIn). r.2) row

step : (row : BuiltInRow) (x : Option BuiltInRow) (y : Option (List ℕ × List ℕ × BuiltIn)) (b : Bool) → built_in_at x ≡ built_in_in y → built_in_at (if b then Some row else x) ≡ built_in_in (if b then Some (shown_row row) else y)
step row x y true same = refl
step row x y false same = same

found_alike : (name descriptor : List ℕ) (rows : List BuiltInRow) → built_in_at (find (row_is name descriptor) rows) ≡ built_in_in (find (is_called name descriptor) (map shown_row rows))
found_alike name descriptor [] = refl
found_alike name descriptor (row ∷ rows) =
    step row (find (row_is name descriptor) rows) (find (is_called name descriptor) (map shown_row rows)) (row_is name descriptor row) (found_alike name descriptor rows)

-- what the row that was found does
pub called_is : (name descriptor : List ℕ) (rows : List BuiltInRow) (found : Option BuiltInRow) → found ≡ find (row_is name descriptor) rows → map shown_row rows ≡ built_ins → option_map (λ (r : BuiltInRow). r.built_in) found ≡ built_in_called name descriptor
called_is name descriptor rows found is table =
    ap built_in_at is ∙ (found_alike name descriptor rows ∙ ap (λ (xs : List (List ℕ × List ℕ × BuiltIn)). built_in_in (find (is_called name descriptor) xs)) table)
