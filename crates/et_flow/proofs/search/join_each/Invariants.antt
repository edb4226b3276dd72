-- The types joined at the places so far.
use Rattle.std.proofs.Common.{◌≡◌, ℕ, ◌≤◌, length, take, Contains}
use Rattle.et_flow.specs.Flows.{Typing}
use Rattle.et_flow.specs.Searching.{HaveLocals, IsUnder, AreThere, Joins}
use Rattle.et_flow.proofs.search.join_each.Given as goal

abbrev pub invariant-loop-place : goal.invariant-loop-place
invariant-loop-place l = record {
  long : length l.states ≡ length l.fn.states;
  joins : (locals : ℕ) → ((q : ℕ) → Contains l.places q → length l.types.locals ≤ locals) → HaveLocals locals l.fn.states → Joins locals l.fn.states l.fn.work.items (take l.place-index l.places) l.types l.states l.work.items;
  least : (typing : Typing) → IsUnder typing l.fn.states → AreThere typing (take l.place-index l.places) l.types → IsUnder typing l.states;
}
