-- The table of the methods of texts in the code is that of the definition.
use Rattle.std.proofs.Common.{◌≡◌, ℕ, Bool, true, false, List, [], ◌∷◌, map, Option, Some, refl, ◌∙◌, ap}
use Rattle.std.specs.Prelude.{find, option_map, if◌then◌else◌}
use Rattle.et_boot.specs.TextMethods.{is_text_method, text_methods, text_method_called}
use Rattle.et_boot.specs.declared.text_methods.TextMethod.{TextMethod}
use Rattle.et_boot.specs.declared.text_methods.TextMethodRow.{TextMethodRow}
use Rattle.et_boot.specs.Shown.{shown_text_row}

abbrev Row : Type 0
Row = List ℕ × List ℕ × List ℕ × TextMethod

abbrev method_at : Option TextMethodRow → Option TextMethod
method_at row = option_map (λ (r : TextMethodRow). r.method) row

abbrev method_in : Option Row → Option TextMethod
method_in row = option_map (λ (r : Row). r.3) row

step : (row : TextMethodRow) (x : Option TextMethodRow) (y : Option Row) (b : Bool) → method_at x ≡ method_in y → method_at (if b then Some row else x) ≡ method_in (if b then Some (shown_text_row row) else y)
step row x y true same = refl
step row x y false same = same

module _ (class name descriptor : List ℕ) where
  abbrev is : Row → Bool
  is row = is_text_method class name descriptor row

  found_alike : (rows : List TextMethodRow) → method_at (find (λ row. is (shown_text_row row)) rows) ≡ method_in (find is (map shown_text_row rows))
  found_alike [] = refl
  found_alike (row ∷ rows) =
      step row (find (λ r. is (shown_text_row r)) rows) (find is (map shown_text_row rows)) (is (shown_text_row row)) (found_alike rows)

  -- what the row that was found does
  pub called_is : (rows : List TextMethodRow) (found : Option TextMethodRow) → found ≡ find (λ row. is (shown_text_row row)) rows → map shown_text_row rows ≡ text_methods
      → method_at found ≡ text_method_called class name descriptor
  called_is rows found by table =
      ap method_at by ∙ (found_alike rows ∙ ap (λ (xs : List Row). method_in (find is xs)) table)
