-- What a store keeps true of its counts, and a heap of the waiting lists.
use Rattle.std.specs.Prelude.{◌≡◌, ◌≤◌}
use Rattle.et_heap.specs.Objects.{most_objects, most_slots}
use Rattle.et_heap.specs.Stored.{stored_slots, stored_count, stored_referents}
use Rattle.et_heap.specs.Pages.{all_places, IsPaged}
use Rattle.et_heap.specs.declared.store.Store.TheInside.{Inside}

pub record IsStoreInside (a : Inside) : Type 0 where
  pub paged : IsPaged a.made a.pages.items
  pub held : a.held ≡ stored_count (all_places a.pages.items)
  pub slots : a.slots ≡ stored_slots (all_places a.pages.items)
  pub referents : a.referents ≡ stored_referents (all_places a.pages.items)
  pub few : a.made ≤ most_objects
  pub small : stored_slots (all_places a.pages.items) ≤ most_slots
