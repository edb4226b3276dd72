-- What is left of a waiting list.
use Rattle.std.specs.Prelude.{◌≡◌, ℕ, Some, Contains}
use Rattle.et_heap.specs.Stored.{IsStored}
use Rattle.et_heap.specs.Links.{next_of, IsLeft, StandOnce}
use Rattle.et_heap.specs.declared.refs.WaitingRefs.TheInside.{Inside}

pub record IsWaitingInside (a : Inside) : Type 0 where
  pub left : IsLeft (next_of a.store.now) a.before a.last a.waiting.items
  pub once : StandOnce a.waiting.items
  pub stand : (r : ℕ) → Contains a.waiting.items r → IsStored a.store.now r
  pub before : (p : ℕ) → a.before ≡ Some p → IsStored a.store.now p
