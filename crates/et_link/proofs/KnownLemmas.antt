-- What is known of all classes, as it is read.
use Rattle.std.proofs.Common.{◌≡◌, ℕ, ◌<◌, List, length, get_or, ◌∙◌, ap}
use Rattle.std.specs.Prelude.{All}
use Rattle.et_hierarchy.specs.Links.{LinkEntry, HasLinksWithin}
use Rattle.et_hierarchy.specs.Ancestry.{Ancestry}
use Rattle.et_hierarchy.proofs.Rounds.{next_interfaces}

pub links_within : (t t' : List LinkEntry) (r r' : List Ancestry) (k : ℕ) (l : LinkEntry) → t' ≡ t → r' ≡ r → length r ≡ length t → HasLinksWithin (length t) t → k < length t → l ≡ get_or t' k l → All (λ i. i < length r') l.interfaces
links_within t t' r r' k l e f size within lt is = next_interfaces t k (length r') l within lt (is ∙ ap (λ (x : List LinkEntry). get_or x k l) e) (ap length f ∙ size)
