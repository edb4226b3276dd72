-- The rows of the curve, one by one.
use Rattle.std.proofs.Common.{◌≡◌, ℕ, ◌+◌, ◌-◌, ◌^◌, ◌≤◌, List, [], ◌∷◌, ◌++◌, refl, sym, ap, subst, ◌∙◌, arith}
use Rattle.std.specs.Prelude.{reverse}
use Rattle.std.specs.List.{flat_map, AllByRecursion}
use Rattle.std.specs.Fmt.{decimal}
use Rattle.et_base.specs.declared.line.TraceLine.{TraceLine}
use Rattle.et_text.specs.Rules.{AreFine}
use Rattle.et_text.proofs.LineKinds.{from_all}
use Rattle.et_replay.specs.Curve.{live, curve_row, curve_events, curve_text}
use Rattle.et_replay.specs.Lives.{Sizes, born_by, died_by, sum_below, row_by, GiveRows}
use Rattle.et_replay.proofs.Counting.{live_is, born_small, died_small}
use Rattle.et_replay.proofs.Rising.{events_low, events_rise}

pub record IsLeft (lines : List TraceLine) (e made gone : ℕ) : Type 0 where
  pub fits : gone ≤ made
  pub left : made - gone ≡ live lines e

pub left : (version : ℕ) (lines : List TraceLine) (e made gone : ℕ) → AreFine version (reverse lines) → e ≤ 2 ^ 40 → made ≡ sum_below (e + 1) (born_by (reverse lines)) → gone ≡ sum_below e (died_by (reverse lines)) → IsLeft lines e made gone
left version lines e made gone f le m g =
    let whole = live_is version lines e f (omega (arith, le)) in
    record { fits = omega (arith, whole, m, g); left = omega (arith, whole, m, g) }

-- what the lines of a trace give makes rows
pub give_rows : (version : ℕ) (lines : List TraceLine) (born died : Sizes) (es : List ℕ) → AreFine version (reverse lines) → born ≡ born_by (reverse lines) → died ≡ died_by (reverse lines) → es ≡ curve_events lines → GiveRows born died es
give_rows version lines born died es f b d e =
    subst (λ (t : Sizes). GiveRows t died es) (sym b) (subst (λ (t : Sizes). GiveRows (born_by (reverse lines)) t es) (sym d) (subst (λ (t : List ℕ). GiveRows (born_by (reverse lines)) (died_by (reverse lines)) t) (sym e) (record {
      born_fits = let small = born_small version lines f in omega (arith, small);
      died_fits = let small = died_small version lines f in omega (arith, small);
      low = events_low version lines f;
      rise = events_rise version lines f;
      left = λ event le. (left version lines event (sum_below (event + 1) (born_by (reverse lines))) (sum_below event (died_by (reverse lines))) f le refl refl).fits;
    })))

-- texts of elements that have a property are equal where they are equal at it
same_texts : (P : ℕ → Type 0) (f g : ℕ → List ℕ) → ((x : ℕ) → P x → f x ≡ g x) → (xs : List ℕ) → AllByRecursion P xs → flat_map f xs ≡ flat_map g xs
same_texts P f g same [] all = refl
same_texts P f g same (x ∷ xs) all = ap (λ (t : List ℕ). t ++ flat_map f xs) (same x all.0) ∙ ap (λ (t : List ℕ). g x ++ t) (same_texts P f g same xs all.1)

row_is : (version : ℕ) (lines : List TraceLine) → AreFine version (reverse lines) → (e : ℕ) → e ≤ 2 ^ 40 → row_by (born_by (reverse lines)) (died_by (reverse lines)) e ≡ curve_row lines e
row_is version lines f e le =
    ap (λ (k : ℕ). decimal e ++ 32 ∷ decimal k ++ 10 ∷ []) (left version lines e (sum_below (e + 1) (born_by (reverse lines))) (sum_below e (died_by (reverse lines))) f le refl refl).left

-- .. and these rows are the curve
pub rows_are : (version : ℕ) (lines : List TraceLine) (born died : Sizes) (es : List ℕ) → AreFine version (reverse lines) → born ≡ born_by (reverse lines) → died ≡ died_by (reverse lines) → es ≡ curve_events lines → flat_map (row_by born died) es ≡ curve_text lines
rows_are version lines born died es f b d e =
    ap (λ (t : Sizes). flat_map (row_by t died) es) b
    ∙ (ap (λ (t : Sizes). flat_map (row_by (born_by (reverse lines)) t) es) d
    ∙ (ap (λ (t : List ℕ). flat_map (row_by (born_by (reverse lines)) (died_by (reverse lines))) t) e
    ∙ same_texts (λ (x : ℕ). x ≤ 2 ^ 40) (row_by (born_by (reverse lines)) (died_by (reverse lines))) (curve_row lines) (row_is version lines f) (curve_events lines) (from_all (λ (x : ℕ). x ≤ 2 ^ 40) (curve_events lines) (events_low version lines f))))
