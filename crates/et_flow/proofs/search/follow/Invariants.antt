-- The code was followed so far, and goes on with these types.
use Rattle.std.proofs.Common.{◌≡◌, ℕ, ◌+◌, ◌*◌, ◌<◌, ◌≤◌, [], ◌∷◌, ◌++◌, length, vec_len}
use Rattle.std.specs.Prelude.{IfSome}
use Rattle.et_flow.specs.Types.{TypesOf}
use Rattle.et_flow.specs.Flows.{heights}
use Rattle.et_flow.specs.Searching.{Searches, AreKept}
use Rattle.et_flow.proofs.Follows.{IsRunning, ahead}
use Rattle.et_flow.proofs.search.follow.Given as goal

abbrev pub invariant-run : goal.invariant-run
invariant-run g l = record {
  long : length l.states ≡ length l.fn.states;
  runs : (entry : TypesOf) (locals : ℕ) →
      Searches (g.F.Flow.leads l.flow) (g.F.Flow.straight l.flow) entry locals l.fn.states (l.fn.work.items ++ l.place ∷ []) →
      IsRunning (g.F.Flow.leads l.flow) (g.F.Flow.straight l.flow) entry locals l.states l.work.items l.types l.next;
  falls : (entry : TypesOf) (locals : ℕ) →
      Searches (g.F.Flow.leads l.flow) (g.F.Flow.straight l.flow) entry locals l.fn.states (l.fn.work.items ++ l.place ∷ []) →
      2 * heights locals l.states + vec_len l.work ≤ 2 * heights locals l.fn.states + vec_len l.fn.work;
  noted : (entry : TypesOf) (locals : ℕ) →
      Searches (g.F.Flow.leads l.flow) (g.F.Flow.straight l.flow) entry locals l.fn.states (l.fn.work.items ++ l.place ∷ []) →
      AreKept (g.F.Flow.straight l.flow) (length l.fn.states) l.work.items;
  inside : IfSome l.next (λ q. q < length l.fn.states);
}

abbrev pub decreases-run : goal.decreases-run
decreases-run g l = ahead (length l.fn.states) l.next
