-- What was found is below every typing.
use Rattle.std.proofs.Common.{◌≡◌, ◌+◌, ◌*◌, length, vec_len}
use Rattle.et_flow.specs.Flows.{heights}
use Rattle.et_flow.specs.Searching.{Searches, AreKept}
use Rattle.et_flow.proofs.search.search_all.Given as goal

abbrev pub invariant-loop-place : goal.invariant-loop-place
invariant-loop-place g l = record {
  long : length l.states ≡ length l.fn.states;
  searching : Searches (g.F.Flow.leads l.flow) (g.F.Flow.straight l.flow) l.entry (length l.entry.locals) l.states l.work.items;
  noted : AreKept (g.F.Flow.straight l.flow) (length l.fn.states) l.work.items;
}

abbrev pub decreases-loop-place : goal.decreases-loop-place
decreases-loop-place g l = 2 * heights (length l.entry.locals) l.states + vec_len l.work
