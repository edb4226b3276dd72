-- What is listed so far and what is left give the whole.
use Rattle.std.proofs.Common.{◌≡◌, ◌+◌, ◌≤◌, ◌++◌, length, drop, vec_capacity}
use Rattle.et_graph.specs.Listing.{listed, death_pairs}
use Rattle.et_graph.proofs.objects.list_deaths.Given as goal

abbrev pub invariant-loop-i : goal.invariant-loop-i
invariant-loop-i l = record {
  long : length l.deaths.items ≤ l.i;
  room : length l.times ≤ vec_capacity l.deaths;
  listed : death_pairs l.deaths.items ++ listed (l.i + 1) l.top (drop l.i l.times) (drop l.i l.gone) ≡ listed 1 l.top l.times l.gone;
}
