use Rattle.std.proofs.Common.{◌≡◌, ℕ, ◌+◌, ◌<◌, List, [], ◌∷◌, ◌++◌, length, get_or, take, drop, take_all, refl, sym, ◌∙◌, subst, arith, Contains}
use Rattle.std.proofs.lemmas.List.{take_more, take-append-drop}
use Rattle.std.proofs.lemmas.List.Elements.{Contains-get_or, Contains-append_left, Contains-push}
use Rattle.et_flow.specs.Flows.{IsThere}
use Rattle.et_flow.specs.Searching.{AreThere, Joins}
use Rattle.et_flow.proofs.Joining.{joined_least_now, not_joinable}
use Rattle.et_flow.proofs.Places.{joins_none, joins_more}
use Rattle.et_flow.proofs.search.join_each.Goals as goal

pub loop-place-init : goal.loop-place-init
loop-place-init c = record {
  long = refl;
  joins = λ locals le had. joins_none locals c.args.states.now c.args.work.now.items c.args.types.now had;
  least = λ typing under there. under;
}

pub join_at-requires : goal.join_at-requires
join_at-requires c = omega (arith, c.requires (get_or c.args.places.now c.loop-place.place-index 0) (Contains-get_or c.args.places.now c.loop-place.place-index 0 c.loop-place-test.true), c.loop-place.invariant.long)

pub returns-then-not-branch-clause-none : goal.returns-then-not-branch-clause-none
returns-then-not-branch-clause-none c = λ e typing under there.
    let place : ℕ = get_or c.args.places.now c.loop-place.place-index 0 in
    let here : IsThere typing place c.args.types.now = there place (Contains-get_or c.args.places.now c.loop-place.place-index 0 c.loop-place-test.true) in
    let so_far : AreThere typing (take c.loop-place.place-index c.args.places.now) c.args.types.now = λ q m. there q (subst (λ (ps : List ℕ). Contains ps q) (take-append-drop c.loop-place.place-index c.args.places.now) (Contains-append_left (take c.loop-place.place-index c.args.places.now) (drop c.loop-place.place-index c.args.places.now) q m)) in
    c.in_ok-join_at.ensures.other c.if-not-branch.true (not_joinable typing c.loop-place.states place c.args.types.now (c.loop-place.invariant.least typing under so_far) here)

pub loop-place-preserved : goal.loop-place-preserved
loop-place-preserved c =
    let place : ℕ = get_or c.args.places.now c.loop-place.place-index 0 in
    let more : take (c.loop-place.place-index + 1) c.args.places.now ≡ take c.loop-place.place-index c.args.places.now ++ place ∷ [] = take_more c.args.places.now c.loop-place.place-index 0 c.loop-place-test.true in
    let inside : place < length c.loop-place.states = omega (arith, c.requires place (Contains-get_or c.args.places.now c.loop-place.place-index 0 c.loop-place-test.true), c.loop-place.invariant.long) in
    let here : Contains c.args.places.now place = Contains-get_or c.args.places.now c.loop-place.place-index 0 c.loop-place-test.true in
    let joined = c.in_ok-join_at.ensures.joined c.if-not-branch.false in
    record {
      long = c.in_ok-join_at.ensures.long ∙ c.loop-place.invariant.long;
      joins = λ locals le had.
          subst (λ (ps : List ℕ). Joins locals c.args.states.now c.args.work.now.items ps c.args.types.now c.join_at.new.states c.join_at.new.work.items) (sym more)
          (joins_more locals c.args.states.now c.loop-place.states c.join_at.new.states c.args.work.now.items c.loop-place.work.items c.join_at.new.work.items (take c.loop-place.place-index c.args.places.now) place c.args.types.now (le place here) inside
          (c.loop-place.invariant.joins locals le had) (joined locals (le place here)));
      least = λ typing under there.
          let there' : AreThere typing (take c.loop-place.place-index c.args.places.now ++ place ∷ []) c.args.types.now = subst (λ (ps : List ℕ). AreThere typing ps c.args.types.now) more there in
          joined_least_now (length c.args.types.now.locals) c.loop-place.states c.loop-place.work.items place c.args.types.now c.join_at.new.states c.join_at.new.work.items inside (joined (length c.args.types.now.locals) (omega arith)) typing
          (c.loop-place.invariant.least typing under (λ q m. there' q (Contains-append_left (take c.loop-place.place-index c.args.places.now) (place ∷ []) q m)))
          (there' place (Contains-push (take c.loop-place.place-index c.args.places.now) place));
    }

pub returns-clause-joined : goal.returns-clause-joined
returns-clause-joined c = λ e locals le had.
    subst (λ (ps : List ℕ). Joins locals c.args.states.now c.args.work.now.items ps c.args.types.now c.loop-place.states c.loop-place.work.items) (take_all c.loop-place.place-index c.args.places.now c.loop-place-test.false)
    (c.loop-place.invariant.joins locals le had)
