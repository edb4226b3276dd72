-- How the places of a heap are cut in pages.
use Rattle.std.specs.Prelude.{◌≡◌, ℕ, ◌-◌, ◌/◌, ◌%◌, ◌<◌, ◌≤◌, min, List, [], ◌∷◌, None, length, replicate}
use Rattle.std.specs.List.{flat_map}
use Rattle.et_heap.specs.Stored.{StoredPlaces, stored_count}
use Rattle.et_heap.specs.declared.page.TheConstants.{PAGE_SIZE}

-- object o stands in this page, at this place
abbrev pub page_at : ℕ → ℕ
page_at o = (o - 1) / PAGE_SIZE

abbrev pub place_in_page : ℕ → ℕ
place_in_page o = (o - 1) % PAGE_SIZE

-- the places of a page that was given back
unfoldable pub empty_places : StoredPlaces
empty_places = replicate PAGE_SIZE None

-- the places of a page that keeps this list: a page that keeps nothing was given back
abbrev pub places_of : StoredPlaces → StoredPlaces
places_of [] = empty_places
places_of (x ∷ xs) = x ∷ xs

pub record IsPage (held : ℕ) (kept : StoredPlaces) : Type 0 where
  pub counted : held ≡ stored_count kept
  pub short : length kept ≤ PAGE_SIZE

-- the places of the pages, one page after the other
abbrev pub all_places : List StoredPlaces → StoredPlaces
all_places pages = flat_map (λ page. page) pages

-- The pages have n places. Each is full but the last, which has at least one.
abbrev pub IsPaged : ℕ → List StoredPlaces → Type 0
IsPaged n [] = n ≡ 0
IsPaged n (p ∷ ps) = (0 < n) × (length p ≡ min n PAGE_SIZE) × IsPaged (n - PAGE_SIZE) ps
