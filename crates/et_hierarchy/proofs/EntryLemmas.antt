-- An entry as it was read, and as it stands in the list.
use Rattle.std.proofs.Common.{◌≡◌, ℕ, ◌<◌, List, length, get_or, ◌∙◌}
use Rattle.std.proofs.lemmas.List.{get_or_default}
use Rattle.et_hierarchy.specs.Outline.{Outline, outline_at, no_outline}

pub read_outline : (set : List Outline) (i : ℕ) (x : Outline) → i < length set → x ≡ get_or set i x → x ≡ outline_at set i
read_outline set i x lt e = e ∙ get_or_default set i x no_outline lt
