-- A write of one object of a store: object o is held, and stands at place j of page k, which is p.
use Rattle.std.proofs.Common.{◌≡◌, ℕ, ◌<◌, ◌≤◌, ◌∷◌, length, Option, Some, None, get_or, subst, refl, sym, ap, ◌∙◌, arith}
use Rattle.std.specs.Vec.{with_item}
use Rattle.std.specs.Option.{option_to_list}
use Rattle.et_base.specs.declared.value.Value.{Value}
use Rattle.et_heap.specs.Objects.{referent_value, referent_of, most_objects}
use Rattle.et_heap.specs.Stored.{Stored, StoredPlaces, stored_in, stored_at, is_stored, IsStored}
use Rattle.et_heap.specs.Links.{stored_with}
use Rattle.et_heap.specs.Pages.{page_at, place_in_page, all_places}
use Rattle.et_heap.specs.Inside.{IsStoreInside}
use Rattle.et_heap.specs.declared.store.Store.TheInside.{Inside}
use Rattle.et_heap.proofs.Places.{stored_referents-set, stored_referents-le}
use Rattle.et_heap.proofs.Pages.{length-all_places, page-held-within, at-page, page-changed, written-view, written-counts, written-referents}

-- the page is there
pub page_there : (a : Inside) (heap : StoredPlaces) (o k : ℕ) → None ∷ all_places a.pages.items ≡ heap → IsStoreInside a → IsStored heap o → k ≡ page_at o → k < length a.pages.items
page_there a heap o k view inside held page = page-held-within heap a.pages.items a.made o k view inside.paged held page

-- what stands at the number stands at the place
pub place_same : (a : Inside) (heap : StoredPlaces) (o k j : ℕ) (p : StoredPlaces) → None ∷ all_places a.pages.items ≡ heap → IsStoreInside a → IsStored heap o → k ≡ page_at o → j ≡ place_in_page o → p ≡ get_or a.pages.items k p → stored_in heap o ≡ stored_in p j
place_same a heap o k j p view inside held page place is = at-page heap a.pages.items a.made o k j p view inside.paged held page place is

pub place_held : (a : Inside) (heap : StoredPlaces) (o k j : ℕ) (p : StoredPlaces) → None ∷ all_places a.pages.items ≡ heap → IsStoreInside a → IsStored heap o → k ≡ page_at o → j ≡ place_in_page o → p ≡ get_or a.pages.items k p → IsStored p j
place_held a heap o k j p view inside held page place is = subst is_stored (place_same a heap o k j p view inside held page place is) held

-- what is changed at the place is changed at the number
pub place_changed : (f : Stored → Stored) (a : Inside) (heap : StoredPlaces) (o k j : ℕ) (p q : StoredPlaces) → None ∷ all_places a.pages.items ≡ heap → IsStoreInside a → IsStored heap o → k ≡ page_at o → j ≡ place_in_page o → p ≡ get_or a.pages.items k p → q ≡ stored_with f j p → None ∷ all_places (with_item a.pages k q).items ≡ stored_with f o heap
place_changed f a heap o k j p q view inside held page place is changed =
    written-view _ _ _ _ _ _ view held (page-changed heap a.pages.items a.made o k j p q f view inside.paged held page place is changed)

-- .. and the counts stay, where it has as many slots and refers weakly to the same
pub change_kept : (f : Stored → Stored) (a : Inside) (heap : StoredPlaces) (o k j : ℕ) (p q : StoredPlaces) → None ∷ all_places a.pages.items ≡ heap → IsStoreInside a → IsStored heap o → k ≡ page_at o → j ≡ place_in_page o → p ≡ get_or a.pages.items k p → q ≡ stored_with f j p → length (f (stored_at heap o)).state.slots ≡ length (stored_at heap o).state.slots → (f (stored_at heap o)).state.referent ≡ (stored_at heap o).state.referent → IsStoreInside (record a { pages = with_item a.pages k q })
change_kept f a heap o k j p q view inside held page place is changed slots referent =
    let written = page-changed heap a.pages.items a.made o k j p q f view inside.paged held page place is changed in
    let counts = written-counts _ _ _ _ _ _ view held written slots in
    let referents = written-referents _ _ _ _ _ _ view held written in
    let same : length (option_to_list (f (stored_at heap o)).state.referent) ≡ length (option_to_list (stored_at heap o).state.referent) = ap (λ (r : Option ℕ). length (option_to_list r)) referent in
    let small = inside.small in
    record {
      paged = written.paged;
      held = inside.held ∙ sym counts.0;
      slots = inside.slots ∙ sym counts.1;
      referents = omega (arith, inside.referents);
      few = inside.few;
      small = omega (arith, counts.1);
    }

-- A referent is counted as one or none.
referent_back : (r : Option ℕ) → referent_of (referent_value r) ≡ r
referent_back None = refl
referent_back (Some o) = refl

pub referents_counted : (n : ℕ) (v : Value) (r : Option ℕ) → n ≡ length (option_to_list (referent_of v)) → v ≡ referent_value r → n ≡ length (option_to_list r)
referents_counted n v r counted is = counted ∙ ap (λ (p : Option ℕ). length (option_to_list p)) (ap referent_of is ∙ referent_back r)

-- what an object refers to weakly is among what is counted, and there are no more than objects
pub referents_within : (a : Inside) (heap : StoredPlaces) (o : ℕ) → None ∷ all_places a.pages.items ≡ heap → IsStoreInside a → IsStored heap o → length (option_to_list (stored_at heap o).state.referent) ≤ a.referents
referents_within a heap o view inside held =
    let held' : IsStored (None ∷ all_places a.pages.items) o = subst (λ h. IsStored h o) (sym view) held in
    let same : length (option_to_list (stored_at (None ∷ all_places a.pages.items) o).state.referent) ≡ length (option_to_list (stored_at heap o).state.referent) = ap (λ h. length (option_to_list (stored_at h o).state.referent)) view in
    omega (arith, stored_referents-set (all_places a.pages.items) o None held', inside.referents)

pub referents_few : (a : Inside) → IsStoreInside a → a.referents ≤ most_objects
referents_few a inside = omega (arith, stored_referents-le (all_places a.pages.items), length-all_places _ _ inside.paged, inside.few, inside.referents)
