-- Classes put in the order of initialization.
use Rattle.std.proofs.Common.{◌≡◌, ℕ, ◌<◌, Bool, List, length, get_or, ◌∙◌, ap}
use Rattle.std.specs.List.{slice_index_or}
use Rattle.std.proofs.lemmas.List.{get_or_default}
use Rattle.et_hierarchy.specs.Links.{LinkEntry, no_links}
use Rattle.et_hierarchy.specs.Ancestry.{Ancestry, class_added, added_all}
use Rattle.et_hierarchy.specs.Initialization.{interfaces_to_run, with_interfaces}
use Rattle.et_hierarchy.proofs.AddLemmas.{add_pair}

pub with_added : (needs : ℕ → Bool) (table : List LinkEntry) (rows : List Ancestry) (k : ℕ) (l : LinkEntry) (list list' list'' part slice : List ℕ) → k < length table → l ≡ get_or table k l → part ≡ interfaces_to_run needs rows l → slice ≡ part
    → list' ≡ added_all list slice → list'' ≡ class_added list' k → list'' ≡ added_all list (with_interfaces needs table rows k)
with_added needs table rows k l list list' list'' part slice lt is found same one two =
    let e : l ≡ slice_index_or table k no_links = is ∙ get_or_default table k l no_links lt in
    let p : slice ≡ interfaces_to_run needs rows (slice_index_or table k no_links) = same ∙ (found ∙ ap (interfaces_to_run needs rows) e) in
    add_pair list list' list'' (interfaces_to_run needs rows (slice_index_or table k no_links)) k (one ∙ ap (added_all list) p) two
