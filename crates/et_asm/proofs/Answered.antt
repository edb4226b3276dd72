-- From the lines and the pool of a text to its answer.
use Rattle.std.proofs.Common.{◌≡◌, ℕ, List, Option, Some, None, map, refl, sym, ap, subst, ◌∙◌}
use Rattle.et_base.specs.Marks.{Mark, MarksAre, first_from}
use Rattle.et_base.proofs.Firsts.{found_is_first}
use Rattle.et_listing.specs.declared.entry.Entry.{Entry}
use Rattle.et_listing.specs.declared.line.Parsed.{Parsed}
use Rattle.et_listing.specs.Words.{words, lines}
use Rattle.et_listing.specs.Lines.{parsed_of}
use Rattle.et_asm.specs.Pool.{pool}
use Rattle.et_asm.specs.Listings.{listing_marks, listed_class_bytes, parsed_lines, marks_of, assembled_bytes}

pub lines_are : (text : List ℕ) (split : List (List (List ℕ))) (ps : List Parsed) → split ≡ map words (lines text) → ps ≡ map parsed_of split → ps ≡ parsed_lines text
lines_are text split ps a b = b ∙ ap (map parsed_of) a

pub found_are : (text : List ℕ) (ps : List Parsed) (keys : List Entry) (found : Option (ℕ × ℕ)) → ps ≡ parsed_lines text → keys ≡ pool ps → found ≡ first_from None (listing_marks keys ps) → MarksAre (marks_of text) found
found_are text ps keys found lines_is keys_is found_is =
    let whole : found ≡ first_from None (marks_of text) =
    found_is ∙ (ap (λ ks. first_from None (listing_marks ks ps)) keys_is ∙ ap (λ qs. first_from None (listing_marks (pool qs) qs)) lines_is) in
    subst (MarksAre (marks_of text)) (sym whole) (found_is_first (marks_of text))

pub bytes_are : (text : List ℕ) (ps : List Parsed) (keys : List Entry) (bytes : List ℕ) → ps ≡ parsed_lines text → keys ≡ pool ps → bytes ≡ listed_class_bytes keys ps → bytes ≡ assembled_bytes text
bytes_are text ps keys bytes lines_is keys_is bytes_is = bytes_is ∙ (ap (λ ks. listed_class_bytes ks ps) keys_is ∙ ap (λ qs. listed_class_bytes (pool qs) qs) lines_is)
