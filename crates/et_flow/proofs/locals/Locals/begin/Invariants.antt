-- The entries so far are held.
use Rattle.std.proofs.Common.{◌≡◌, ℕ, ◌<◌, length, get_or}
use Rattle.et_flow.specs.declared.types.EntryType.TheVariants.{Free}
use Rattle.et_flow.specs.Locals.{local_at}
use Rattle.et_flow.proofs.Held.{entry_at}
use Rattle.et_flow.proofs.locals.Locals.begin.Given as goal

abbrev pub invariant-loop-i : goal.invariant-loop-i
invariant-loop-i l = record {
  count : l.self-inside.count ≡ l.count;
  long : length l.self-inside.held.items ≡ l.i;
  locals : (k : ℕ) → k < l.i → local_at l.self-inside.held.items k ≡ k;
  entries : (k : ℕ) → k < l.i → entry_at l.self-inside.held.items k ≡ get_or l.entries k Free;
}
