use Rattle.std.proofs.Common.{◌+◌, ◌*◌, ◌<◌, ◌≤◌}
use Rattle.et_heap.specs.declared.page.TheConstants.{PAGE_SIZE}
use Rattle.et_heap.proofs.Pages.{NoneBefore}
use Rattle.et_heap.proofs.store.Store.next_held.Given as goal

abbrev pub invariant-loop-k : goal.invariant-loop-k
invariant-loop-k l = record {
  short : l.place < PAGE_SIZE;
  reached : l.fn.from ≤ PAGE_SIZE * l.k + l.place + 1;
  none : NoneBefore l.self-inside.pages.items l.fn.from l.k l.place;
}
