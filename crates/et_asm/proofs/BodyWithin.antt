-- The places and the handlers of a body that keeps its rules are in bounds.
use Rattle.std.proofs.Common.{ℕ, ◌+◌, ◌≤◌, List, [], ◌∷◌, ◌++◌, Option, Some, None, take, drop, fold, sym, ap, subst, arith, append_assoc, append-nil}
use Rattle.std.specs.Prelude.{position, option_map, unwrap_or}
use Rattle.std.proofs.lemmas.Bool.{leb-true}
use Rattle.std.proofs.lemmas.List.{take-append-drop}
use Rattle.std.proofs.lemmas.List.Sums.{fold-append}
use Rattle.et_code.proofs.Keeping.{front, back}
use Rattle.et_listing.specs.declared.entry.Entry.{Entry}
use Rattle.et_listing.specs.declared.line.Parsed.{Parsed}
use Rattle.et_asm.specs.Along.{along_from}
use Rattle.et_asm.specs.Code.{Labels, size, place_behind, defines, labels_of, label_place, catch_count}
use Rattle.et_asm.specs.Listings.{body_marks_at, listed_body_marks}
use Rattle.et_asm.proofs.Held.{AllHold}

pub record IsWithin (entries : List Entry) (body : List Parsed) : Type 0 where
  pub code : place_behind entries body ≤ 65535
  pub handlers : catch_count body ≤ 65535

module _ (entries : List Entry) (labels : Labels) (number : ℕ) where
  within_from : (before more : List Parsed) → AllHold (along_from (body_marks_at entries labels number) before more) → IsWithin entries before → IsWithin entries (before ++ more)
  unfolding along_from
  within_from before [] h w = subst (IsWithin entries) (sym (append-nil before)) w
  within_from before (p ∷ more) h w =
      let rules = front (body_marks_at entries labels number before p more) (along_from (body_marks_at entries labels number) (before ++ p ∷ []) more) h in
      let rest = back (body_marks_at entries labels number before p more) (along_from (body_marks_at entries labels number) (before ++ p ∷ []) more) h in
      subst (IsWithin entries) (append_assoc before (p ∷ []) more)
      (within_from (before ++ p ∷ []) more rest (record { code = leb-true _ _ rules.1.1.1.0; handlers = leb-true _ _ rules.1.1.1.1.0 }))

pub body_within : (entries : List Entry) (number : ℕ) (body : List Parsed) → AllHold (listed_body_marks entries number body) → IsWithin entries body
body_within entries number body h = within_from entries (labels_of entries body) number [] body h (record { code = omega arith; handlers = omega arith })

grows : (entries : List Entry) (lines : List Parsed) (at : ℕ) → at ≤ fold (λ n p. n + size entries n p.line) at lines
grows entries [] at = omega arith
grows entries (p ∷ lines) at = omega (arith, grows entries lines (at + size entries at p.line))

front_within : (entries : List Entry) (body : List Parsed) (i : ℕ) → place_behind entries (take i body) ≤ place_behind entries body
front_within entries body i =
    let whole = fold-append (λ n p. n + size entries n p.line) 0 (take i body) (drop i body) in
    omega (arith, grows entries (drop i body) (place_behind entries (take i body)), whole, ap (place_behind entries) (take-append-drop i body))

pub place_within : (entries : List Entry) (body : List Parsed) (name : List ℕ) → label_place (labels_of entries body) name ≤ place_behind entries body
unfolding labels_of
place_within entries body name = by (position (λ p. defines name p.line) body)
  where
    by : (o : Option ℕ) → unwrap_or (option_map (λ i. place_behind entries (take i body)) o) 0 ≤ place_behind entries body
    by None = omega arith
    by (Some i) = front_within entries body i
