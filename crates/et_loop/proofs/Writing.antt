-- Lemmas on lines that are written one after the other.
use Rattle.std.proofs.Common.{◌≡◌, ℕ, List, [], ◌∷◌, ◌++◌, sym, ◌∙◌, ap, append_assoc, append-nil}
use Rattle.std.proofs.lemmas.Grind.{flat_map-append}
use Rattle.et_base.specs.declared.line.TraceLine.{TraceLine}
use Rattle.et_base.specs.declared.format.Format.{Format}
use Rattle.et_binary.specs.Formats.{written_in, lines_written_in}

-- lines, and then others, are both
pub wrote_both : (f : Format) (a b : List TraceLine) (before between after : List ℕ) → between ≡ before ++ lines_written_in f a → after ≡ between ++ lines_written_in f b → after ≡ before ++ lines_written_in f (a ++ b)
wrote_both f a b before between after first second =
    second ∙ (ap (λ bytes. bytes ++ lines_written_in f b) first ∙ (append_assoc before (lines_written_in f a) (lines_written_in f b) ∙ ap (λ bytes. before ++ bytes) (sym (flat_map-append (written_in f) a b))))

-- .. and one line is a list of one
pub wrote_one : (f : Format) (line : TraceLine) (before after : List ℕ) → after ≡ before ++ written_in f line → after ≡ before ++ lines_written_in f (line ∷ [])
wrote_one f line before after h = h ∙ ap (λ bytes. before ++ bytes) (sym (append-nil (written_in f line)))
