use Rattle.std.proofs.Common.{◌≡◌, ◌++◌, take}
use Rattle.et_state.proofs.machine.interned.Interned.list_roots.Given as goal

abbrev pub invariant-loop-o : goal.invariant-loop-o
invariant-loop-o l = l.room ≡ l.fn.room ++ take l.o-index l.order
